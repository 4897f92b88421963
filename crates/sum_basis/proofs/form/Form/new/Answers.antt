use Rattle.std.proofs.Common.{ℕ, ◌<◌, ◌≤◌, pos, [], sym, subst, arith}
use Rattle.std.proofs.lemmas.Int.{ints}
use Rattle.sum_basis.specs.Limits.{most_columns}
use Rattle.sum_basis.specs.Basis.{IsForm, IsWidth}
use Rattle.sum_basis.proofs.LeastMultiples.{least-nil}
use Rattle.sum_basis.proofs.form.Form.new.Goals as goal

no_rows : (n width : ℕ) → 0 < n → n ≤ most_columns → IsWidth width → IsForm n width (pos 1) 0 []
no_rows n width some most fits = record {
  some = some;
  at_most = most;
  width_fits = fits;
  kept = tt;
  form = record { primitive = tt; echelon = tt; entries = tt };
  positive = omega (arith, ints);
  within = let above = fits.0 in omega arith;
  multiple = least-nil;
  bounded = tt;
}

pub invariant_of-result : goal.invariant_of-result
invariant_of-result c =
    subst (IsForm c.args.columns c.args.width (pos 1) 0) (sym c.new.ensures.items)
    (no_rows c.args.columns c.args.width c.requires.some c.requires.at_most c.requires.width)
