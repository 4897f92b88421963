use Rattle.std.proofs.Common.{◌≡◌, ◌*◌, ℕ}
use Rattle.drill_case.specs.Draws.{state_after}
use Rattle.drill_case.proofs.draws.Draws.skip_fours.Given as goal

abbrev pub invariant-loop-four : goal.invariant-loop-four
invariant-loop-four l = (number : ℕ) → l.fn.self.state ≡ state_after number 0 → l.self.state ≡ state_after number (4 * l._four)
