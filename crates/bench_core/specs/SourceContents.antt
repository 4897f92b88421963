-- A source in memory as contracts see it.
use Rattle.std.specs.Prelude.{ℕ, List, Bool}

-- the bytes that are left, the most that one read gives, the numbers of the calls that fail,
-- the number of the next call, the count of faults, and whether the last call failed
pub record SourceContents : Type 0 where
  pub left : List ℕ
  pub most : ℕ
  pub failing : List ℕ
  pub calls : ℕ
  pub faults : ℕ
  pub last_failed : Bool
