use Rattle.std.proofs.Common.{◌<◌, ◌∷◌, map, take}
use Rattle.audit_types.specs.Form.{IsContent}
use Rattle.sum_basis.proofs.within_limit.content_from.Given as goal

abbrev pub invariant-loop-e : goal.invariant-loop-e
invariant-loop-e l = record { content : IsContent (l.fn.head ∷ map (λ e. e.value) (take l.e-index l.entries)) l.divisor; positive : 0 < l.divisor }
