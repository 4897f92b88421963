use Rattle.std.proofs.Common.{take}
use Rattle.sum_basis.specs.Ties.{HasLikeListBut}
use Rattle.sum_basis.proofs.ties.has_like_list_but.Given as goal

abbrev pub invariant-loop-other : goal.invariant-loop-other
invariant-loop-other l = HasLikeListBut l.beside.list l.several.list (take l.other-index l.front) l.row → ⊥
