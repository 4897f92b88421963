-- What is left of the open constructs ends at the same bracket, and the operand under them means the same.
use Rattle.std.proofs.Common.{◌≡◌, length}
use Rattle.predicate_lang.specs.Trees.{tree_of}
use Rattle.predicate_lang.specs.Machine.{negated, without_nots}
use Rattle.predicate_lang.specs.Building.{frames_of}
use Rattle.predicate_lang.proofs.building.negate.Given as goal

abbrev pub invariant-nots : goal.invariant-nots
invariant-nots l = record {
  same_tree : negated (frames_of l.opened.items) (tree_of l.p.value) ≡ negated (frames_of l.initial.opened.items) (tree_of l.initial.p.value);
  same_rest : without_nots (frames_of l.opened.items) ≡ without_nots (frames_of l.initial.opened.items);
}

abbrev pub decreases-nots : goal.decreases-nots
decreases-nots l = length l.opened.items
