use Rattle.std.proofs.Common.{◌≡◌, ◌≢◌, ℕ, ◌<◌, get_or}
use Rattle.std.specs.Prelude.{false}
use Rattle.audit_types.specs.Rows.{has_row}
use Rattle.sum_basis.specs.Keys.{IsSeen}
use Rattle.sum_basis.proofs.telling.are_askers_apart.Given as goal

abbrev pub invariant-loop-q : goal.invariant-loop-q
invariant-loop-q l = record {
  apart : (j : ℕ) → j < l.q → (i : ℕ) → i < j → has_row l.several.list i ≡ false → has_row l.several.list j ≡ false → get_or l.keys i 0 ≢ get_or l.keys j 0;
  seen : (i : ℕ) → i < l.q → has_row l.several.list i ≡ false → IsSeen l.seen (get_or l.keys i 0);
}
