-- What private calls of the request reader answer.
use Rattle.std.specs.Prelude.{◌≡◌, ℕ, List, Some, None, Result, Ok, Err}
use Rattle.schema_json.specs.Columns.{Column}
use Rattle.schema_json.specs.Reading.{value_of}
use Rattle.predicate_lang.specs.Trees.{Tree, tree_of}
use Rattle.predicate_lang.specs.Places.{Means, IsPlace}
use Rattle.predicate_lang.specs.declared.trees.Pred.{Pred}
use Rattle.line_wire.specs.Questions.{Written, text_of}
use Rattle.line_wire.specs.Requests.{role_fault, role_of, secret_of, column_fault, IsRequest}
use Rattle.line_wire.specs.declared.question.Take.{Take}
use Rattle.line_wire.specs.declared.question.Take.TheVariants as take
use Rattle.line_wire.specs.declared.request.Request.{Request}
use Rattle.line_wire.specs.declared.request.Request.TheVariants.{Sum, Avg, Max, Min}
use Rattle.line_wire.specs.declared.request.LineFault.{LineFault}
use Rattle.line_wire.specs.declared.request.LineFault.TheVariants as fault

-- a line that is refused for lack of a value has none
abbrev pub HasNoValue : List ℕ → LineFault → Type 0
HasNoValue line fault.Line = value_of line ≡ None
HasNoValue line fault.Column = ⊥
HasNoValue line fault.Kind = ⊥
HasNoValue line (fault.Condition at) = ⊥
HasNoValue line fault.NoMemory = Unit {0}

-- the place of a column among the secret ones, or what is wrong with it
abbrev pub FindsColumn : List Column → Take → List ℕ → Result ℕ LineFault → Type 0
FindsColumn columns k name (Ok c) = (role_fault k (role_of columns name) ≡ None) × (secret_of columns name ≡ Some c)
FindsColumn columns k name (Err fault.Column) = role_fault k (role_of columns name) ≡ Some fault.Column
FindsColumn columns k name (Err fault.Kind) = role_fault k (role_of columns name) ≡ Some fault.Kind
FindsColumn columns k name (Err fault.Line) = ⊥
FindsColumn columns k name (Err (fault.Condition at)) = ⊥
FindsColumn columns k name (Err fault.NoMemory) = ⊥

-- a text means this tree and no other
pub record MeansOnly (columns : List Column) (text : List ℕ) (t : Tree) : Type 0 where
  pub means : Means columns text t
  pub single : (u : Tree) → Means columns text u → t ≡ u

-- a text goes wrong at a byte, and means nothing
pub record GoesWrong (columns : List Column) (text : List ℕ) (at : ℕ) : Type 0 where
  pub place : IsPlace columns text at
  pub nothing : (u : Tree) → Means columns text u → ⊥

-- the condition of a text, or where it goes wrong
abbrev pub ReadsCondition : List Column → List ℕ → Result Pred LineFault → Type 0
ReadsCondition columns text (Ok p) = MeansOnly columns text (tree_of p)
ReadsCondition columns text (Err fault.Line) = ⊥
ReadsCondition columns text (Err fault.Column) = ⊥
ReadsCondition columns text (Err fault.Kind) = ⊥
ReadsCondition columns text (Err (fault.Condition at)) = GoesWrong columns text at
ReadsCondition columns text (Err fault.NoMemory) = Unit {0}

-- this is taken of a secret column, over this tree
abbrev pub IsTaken : Take → ℕ → Tree → Request → Type 0
IsTaken take.Sum c t (Sum d p) = (d ≡ c) × (tree_of p ≡ t)
IsTaken take.Avg c t (Avg d p) = (d ≡ c) × (tree_of p ≡ t)
IsTaken take.Max c t (Max d p) = (d ≡ c) × (tree_of p ≡ t)
IsTaken take.Min c t (Min d p) = (d ≡ c) × (tree_of p ≡ t)
IsTaken k c t request = ⊥

-- a question is this request
pub record IsAnswer (columns : List Column) (w : Written) (r : Request) : Type 0 where
  pub tree : Tree
  pub good : column_fault columns w ≡ None
  pub means : MeansOnly columns (text_of w) tree
  pub is : IsRequest columns w tree r

-- the request of a question, or its first fault
abbrev pub Answers : List Column → Written → Result Request LineFault → Type 0
Answers columns w (Ok r) = IsAnswer columns w r
Answers columns w (Err fault.Line) = ⊥
Answers columns w (Err fault.Column) = column_fault columns w ≡ Some fault.Column
Answers columns w (Err fault.Kind) = column_fault columns w ≡ Some fault.Kind
Answers columns w (Err (fault.Condition at)) = (column_fault columns w ≡ None) × GoesWrong columns (text_of w) at
Answers columns w (Err fault.NoMemory) = Unit {0}
