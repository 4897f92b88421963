use Rattle.std.proofs.Common.{◌≤◌, subst, sym, ap, ◌∙◌}
use Rattle.std.specs.Prelude.{unsigned_abs}
use Rattle.std.proofs.lemmas.Int.{to_z-of_z}
use Rattle.std.specs.Int.{w128}
use Rattle.sum_basis.proofs.within_limit.size_of.Goals as goal

pub returns-clause-least : goal.returns-clause-least
returns-clause-least c =
    λ m head all. c.greater.ensures.least m (c.greatest.ensures.least m all)
    (subst (λ size. size ≤ m) (sym (c.unsigned_abs.ensures.value ∙ ap unsigned_abs (to_z-of_z w128 c.args.head c.ranges.head))) head)
