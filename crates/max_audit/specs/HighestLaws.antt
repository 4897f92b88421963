-- Facts on the highest list.
use Rattle.std.proofs.Common.{◌≡◌, ℕ, ◌<◌, List, length, arith}
use Rattle.std.proofs.lemmas.List.FromFn.{get_or-map-range_with_len, length-map-range_with_len}
use Rattle.std.specs.Prelude.{pos}
use Rattle.audit_types.specs.Truth.{number_at}
use Rattle.audit_types.specs.Column.{Answer}
use Rattle.audit_types.specs.Extremes.{upper_bound}
use Rattle.max_audit.specs.Witnesses.{bound_or_zero, highest}

-- the number of a row in the highest list
pub number_at-highest : (n : ℕ) (answers : List Answer) (r : ℕ) → r < n → number_at (highest n answers) r ≡ bound_or_zero (upper_bound answers r)
unfolding highest
number_at-highest n answers r h = get_or-map-range_with_len (λ q. bound_or_zero (upper_bound answers q)) 0 n r r (pos 0) h (omega arith)

-- it has a number for each row
pub length-highest : (n : ℕ) (answers : List Answer) → length (highest n answers) ≡ n
unfolding highest
length-highest n answers = length-map-range_with_len (λ q. bound_or_zero (upper_bound answers q)) 0 n
