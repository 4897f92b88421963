-- A law of conditions.
use Rattle.std.specs.Prelude.{◌≡◌, ℕ, List}
use Rattle.schema_json.specs.Columns.{Column}
use Rattle.predicate_lang.specs.Trees.{Tree}
use Rattle.predicate_lang.specs.Places.{Means, Refuses}

-- a text means at most one tree, and none if it is refused
pub record OneMeaning : Type 0 where
  pub tree : (columns : List Column) (text : List ℕ) (s t : Tree) → Means columns text s → Means columns text t → s ≡ t
  pub none : (columns : List Column) (text : List ℕ) (t : Tree) (at : ℕ) → Means columns text t → Refuses columns text at → ⊥
