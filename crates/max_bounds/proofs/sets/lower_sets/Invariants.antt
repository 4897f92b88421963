use Rattle.std.proofs.Common.{◌≡◌, take, drop, map, length}
use Rattle.max_bounds.specs.Maxima.{answers_of, HasSpace}
use Rattle.max_bounds.specs.Kept.{lowered_set}
use Rattle.max_bounds.specs.Marks.{AreMarked, HaveRoom}
use Rattle.max_bounds.proofs.sets.lower_sets.Given as goal

abbrev pub invariant-loop-k : goal.invariant-loop-k
invariant-loop-k l = record {
  n : l.least.n ≡ l.fn.least.n;
  long : length l.least.items ≡ length l.fn.least.items;
  space : HasSpace l.fn.least → HasSpace l.least;
  marked : AreMarked l.least.items l.marks;
  room : HaveRoom l.fn.marks → HaveRoom l.marks;
  done : answers_of (take l.k l.least.items) ≡ map (lowered_set l.answer l.rows.list) (answers_of (take l.k l.fn.least.items));
  left : drop l.k l.least.items ≡ drop l.k l.fn.least.items;
}
