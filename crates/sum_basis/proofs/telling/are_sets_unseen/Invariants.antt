use Rattle.std.specs.List.{AllWithin}
use Rattle.sum_basis.specs.Keys.{HasUnseenKey}
use Rattle.sum_basis.proofs.telling.are_sets_unseen.Given as goal

-- none of the sets so far has a key that may have been seen
abbrev pub invariant-loop-set : goal.invariant-loop-set
invariant-loop-set l = AllWithin (λ s. HasUnseenKey l.form l.weights l.list l.seen s.rows.list) l.sets 0 l.set-index
