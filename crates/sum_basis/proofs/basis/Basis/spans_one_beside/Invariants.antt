use Rattle.std.specs.List.{AllWithin}
use Rattle.sum_basis.specs.Asking.{SpansBeside}
use Rattle.sum_basis.proofs.basis.Basis.spans_one_beside.Given as goal

abbrev pub invariant-loop-set : goal.invariant-loop-set
invariant-loop-set l = AllWithin (λ s. ¬ (SpansBeside l.self l.several.list s.list)) l.apart 0 l.set-index
