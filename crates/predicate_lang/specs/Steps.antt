-- What a token more leads to.
use Rattle.std.specs.Prelude.{ℕ, ◌+◌, ◌<◌, ◌≤◌, List, length, Result, Ok, Err}
use Rattle.schema_json.specs.Columns.{Column}
use Rattle.predicate_lang.specs.Trees.{tree_of}
use Rattle.predicate_lang.specs.Places.{Means, IsWhereFault}
use Rattle.predicate_lang.specs.Machine.{Build}
use Rattle.predicate_lang.specs.Reads.{HasRead}
use Rattle.predicate_lang.specs.declared.trees.Pred.{Pred}
use Rattle.predicate_lang.specs.declared.trees.WhereFault.{WhereFault}
use Rattle.predicate_lang.specs.declared.reading.Step.{Step}
use Rattle.predicate_lang.specs.declared.reading.Step.TheVariants.{More, Whole}

-- one token more was read, up to an offset
pub record Advances (columns : List Column) (text : List ℕ) (from count : ℕ) (b : Build) (end : ℕ) : Type 0 where
  pub read : HasRead columns text end (count + 1) b
  pub longer : from < end
  pub within : end ≤ length text
  pub few : count + 1 ≤ 512

abbrev pub Steps : List Column → List ℕ → ℕ → ℕ → Build → Result Step WhereFault → Type 0
Steps columns text from count b (Ok (More end)) = Advances columns text from count b end
Steps columns text from count b (Ok (Whole p)) = Means columns text (tree_of p)
Steps columns text from count b (Err fault) = IsWhereFault columns text fault

-- the predicate that the text means, or the offset at which it is refused
abbrev pub Ends : List Column → List ℕ → Result Pred WhereFault → Type 0
Ends columns text (Ok p) = Means columns text (tree_of p)
Ends columns text (Err fault) = IsWhereFault columns text fault
