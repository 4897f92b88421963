-- How many rows a list of words has: the sum of the bits that are set in each.
use Rattle.std.proofs.Common.{◌≡◌, ℕ, zero, suc, ◌+◌, ◌*◌, ◌/◌, ◌%◌, ◌^◌, ◌<◌, ◌≤◌, cond, List, [], ◌∷◌, ◌==◌, refl, sym, ap, ◌∙◌, arith, length, length-append, get_or, add-one, add_comm}
use Rattle.std.specs.Int.{bit_at}
use Rattle.std.specs.Int.Count.{ones, ones_cat}
use Rattle.std.proofs.lemmas.Nat.{mod-pow-add, pow_pos}
use Rattle.std.proofs.lemmas.Nat.Bits.{bit_at-lt}
use Rattle.audit_types.specs.Rows.{rows_that}
use Rattle.audit_types.specs.RowLaws.{rows_that_more}
use Rattle.audit_types.specs.Words.{has_bit}
use Rattle.audit_types.specs.WordLaws.{same_place}

-- a bit counts as itself
ones_of_bit : (b : ℕ) → b < 2 → ones b ≡ b
unfolding ones
ones_of_bit zero h = refl
ones_of_bit (suc zero) h = refl
ones_of_bit (suc (suc b)) h = absurd (omega arith)

-- the order of a sum of one
one-first : (i : ℕ) → i + 1 ≡ 1 + i
one-first i = omega arith

-- one bit more
ones_more : (x i : ℕ) → ones (x % 2 ^ (i + 1)) ≡ ones (x % 2 ^ i) + bit_at x i
ones_more x i =
    let split : x % 2 ^ (i + 1) ≡ (x / 2 ^ i % 2 ^ 1) * 2 ^ i + x % 2 ^ i = ap (λ m. x % 2 ^ m) (one-first i) ∙ mod-pow-add x 1 i in
    let positive : 0 < 2 ^ i = pow_pos i in
    let apart : ones ((x / 2 ^ i % 2 ^ 1) * 2 ^ i + x % 2 ^ i) ≡ ones (x / 2 ^ i % 2 ^ 1) + ones (x % 2 ^ i) =
    ones_cat i (x / 2 ^ i % 2 ^ 1) (x % 2 ^ i) (omega arith) in
    let bit : ones (x / 2 ^ i % 2 ^ 1) ≡ bit_at x i = ones_of_bit (bit_at x i) (bit_at-lt x i) in
    ap ones split ∙ apart ∙ ap (λ b. b + ones (x % 2 ^ i)) bit ∙ add_comm (bit_at x i) (ones (x % 2 ^ i))

-- a bit is one row or none
one_row : (b : ℕ) (r : ℕ) → b < 2 → length (cond (b == 1) (r ∷ []) []) ≡ b
one_row zero r h = refl
one_row (suc zero) r h = refl
one_row (suc (suc b)) r h = absurd (omega arith)

-- the rows of the first i bits of word k, and of the words before it
count-bits : (words : List ℕ) (k i : ℕ) → i ≤ 64 →
    length (rows_that (has_bit words) (64 * k + i)) ≡ length (rows_that (has_bit words) (64 * k)) + ones (get_or words k 0 % 2 ^ i)
count-bits words k zero h =
    let start : 64 * k + 0 ≡ 64 * k = omega arith in
    let rest : get_or words k 0 % 2 ^ 0 ≡ 0 = omega arith in
    omega (arith, ap (λ n. length (rows_that (has_bit words) n)) start, ap ones rest, ones_of_bit 0)
count-bits words k (suc i) h =
    let place : 64 * k + suc i ≡ 64 * k + i + 1 = omega arith in
    let below : i < 64 = omega arith in
    let front = count-bits words k i (omega arith) in
    let last : length (cond (has_bit words (64 * k + i)) ((64 * k + i) ∷ []) []) ≡ bit_at (get_or words k 0) i =
    ap (λ b. length (cond b ((64 * k + i) ∷ []) [])) (same_place words k i below)
    ∙ one_row (bit_at (get_or words k 0) i) (64 * k + i) (bit_at-lt (get_or words k 0) i) in
    let more : length (rows_that (has_bit words) (64 * k + i + 1)) ≡ length (rows_that (has_bit words) (64 * k + i)) + bit_at (get_or words k 0) i =
    ap length (rows_that_more (has_bit words) (64 * k + i)) ∙ length-append (rows_that (has_bit words) (64 * k + i)) _
    ∙ ap (λ m. length (rows_that (has_bit words) (64 * k + i)) + m) last in
    let bits : ones (get_or words k 0 % 2 ^ suc i) ≡ ones (get_or words k 0 % 2 ^ i) + bit_at (get_or words k 0) i =
    ap (λ m. ones (get_or words k 0 % 2 ^ m)) (sym (add-one i)) ∙ ones_more (get_or words k 0) i in
    omega (arith, ap (λ n. length (rows_that (has_bit words) n)) place)

-- one word more
pub count-word : (words : List ℕ) (k : ℕ) → get_or words k 0 < 2 ^ 64 →
    length (rows_that (has_bit words) (64 * (k + 1))) ≡ length (rows_that (has_bit words) (64 * k)) + ones (get_or words k 0)
count-word words k h =
    let next : 64 * (k + 1) ≡ 64 * k + 64 = omega arith in
    let whole : get_or words k 0 % 2 ^ 64 ≡ get_or words k 0 = omega arith in
    ap (λ n. length (rows_that (has_bit words) n)) next ∙ count-bits words k 64 (omega arith)
    ∙ ap (λ x. length (rows_that (has_bit words) (64 * k)) + ones x) whole

-- no word, no row
pub count-none : (words : List ℕ) → length (rows_that (has_bit words) (64 * 0)) ≡ 0
unfolding rows_that
count-none words = refl
