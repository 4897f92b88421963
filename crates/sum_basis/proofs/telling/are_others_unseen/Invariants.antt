use Rattle.std.proofs.Common.{◌≡◌, ℕ, ◌<◌, get_or}
use Rattle.std.specs.Prelude.{true, false}
use Rattle.audit_types.specs.Rows.{has_row}
use Rattle.sum_basis.specs.Keys.{IsSeen}
use Rattle.sum_basis.proofs.telling.are_others_unseen.Given as goal

abbrev pub invariant-loop-q : goal.invariant-loop-q
invariant-loop-q l =
    (i : ℕ) → i < l.q → has_row l.beside.list i ≡ false → has_row l.several.list i ≡ true → ¬ (IsSeen l.seen (get_or l.keys i 0))
