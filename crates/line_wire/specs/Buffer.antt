-- The buffer of the cutter as contracts see it.
use Rattle.std.specs.Prelude.{ℕ, List}

-- what is kept of the line that is being read, and what was taken and not yet given
pub record Held : Type 0 where
  pub line : List ℕ
  pub pending : List ℕ
