use Rattle.std.proofs.Common.{◌≡◌, ℕ, Option}
use Rattle.std.specs.Prelude.{ℤ}
use Rattle.std.specs.List.{AllByRecursion}
use Rattle.max_bounds.specs.Kept.{AreLow, IsHigh}
use Rattle.max_bounds.proofs.high_rows.lower_high.Given as goal

abbrev pub invariant-loop-kept : goal.invariant-loop-kept
invariant-loop-kept l = record {
  same_n : AllByRecursion (λ h. h.rows.n ≡ l.rows.n) l.high;
  stay : (bound : ℕ → Option ℤ) → AreLow bound l.answer l.rows.list → AllByRecursion (IsHigh l.rows.n bound) l.fn.high →
      AllByRecursion (IsHigh l.rows.n bound) l.high;
}
