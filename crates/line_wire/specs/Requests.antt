-- What a line means as a request, and why a line is refused: each refusal is tested only if those before it don't hold.
use Rattle.std.specs.Prelude.{◌≡◌, ◌≤◌, ℕ, true, cond, List, Option, Some, None, option_and_then, Result, Ok, Err}
use Rattle.schema_json.specs.Columns.{Column, place_of, role_at, secret_place}
use Rattle.audit_types.specs.declared.shapes.Kind.{Kind}
use Rattle.audit_types.specs.declared.shapes.Kind.TheVariants as kind
use Rattle.schema_json.specs.SecretShape.{HasSecret}
use Rattle.schema_json.specs.declared.roles.Role.{Role}
use Rattle.predicate_lang.specs.Trees.{Tree, tree_of, fits}
use Rattle.predicate_lang.specs.Places.{Means, IsPlace}
use Rattle.line_wire.specs.Questions.{Written, counted, taken, text_of, wants}
use Rattle.line_wire.specs.declared.question.Take.{Take}
use Rattle.line_wire.specs.declared.question.Take.TheVariants as take
use Rattle.line_wire.specs.declared.request.Request.{Request}
use Rattle.line_wire.specs.declared.request.Request.TheVariants.{Count, Sum, Avg, Max, Min}
use Rattle.line_wire.specs.declared.request.LineFault.{LineFault}
use Rattle.line_wire.specs.declared.request.LineFault.TheVariants as fault

-- ---- the column

abbrev pub role_fault : Take → Option Role → Option LineFault
role_fault t None = Some fault.Column
role_fault t (Some r) = cond (wants t r) None (Some fault.Kind)

-- the role of the column with a name
abbrev pub role_of : List Column → List ℕ → Option Role
role_of columns name = option_and_then (role_at columns) (place_of name columns)

-- the place among the secret columns of the column with a name
abbrev pub secret_of : List Column → List ℕ → Option ℕ
secret_of columns name = option_and_then (secret_place columns) (place_of name columns)

-- what is wrong with a question's column, if something is
abbrev pub column_fault : List Column → Written → Option LineFault
column_fault columns (counted text) = None
column_fault columns (taken k name text) = role_fault k (role_of columns name)

-- ---- what a question is answered

-- the request is this question, over this tree
abbrev pub IsRequest : List Column → Written → Tree → Request → Type 0
IsRequest columns (counted text) t (Count p) = tree_of p ≡ t
IsRequest columns (taken take.Sum name text) t (Sum c p) = (secret_of columns name ≡ Some c) × (tree_of p ≡ t)
IsRequest columns (taken take.Avg name text) t (Avg c p) = (secret_of columns name ≡ Some c) × (tree_of p ≡ t)
IsRequest columns (taken take.Max name text) t (Max c p) = (secret_of columns name ≡ Some c) × (tree_of p ≡ t)
IsRequest columns (taken take.Min name text) t (Min c p) = (secret_of columns name ≡ Some c) × (tree_of p ≡ t)
IsRequest columns question t request = ⊥

-- a question that may be written means a request
pub record Requests (columns : List Column) (o : Option Written) (r : Request) : Type 0 where
  pub question : Written
  pub tree : Tree
  pub writes : o ≡ Some question
  pub good : column_fault columns question ≡ None
  pub means : Means columns (text_of question) tree
  pub is : IsRequest columns question tree r

-- a question that may be written goes wrong at this byte of its condition
pub record HasBadCondition (columns : List Column) (o : Option Written) (at : ℕ) : Type 0 where
  pub question : Written
  pub writes : o ≡ Some question
  pub good : column_fault columns question ≡ None
  pub place : IsPlace columns (text_of question) at

-- the first refusal of a question that may be written
abbrev pub Refuses : List Column → Option Written → LineFault → Type 0
Refuses columns o fault.Line = o ≡ None
Refuses columns o fault.Column = option_and_then (column_fault columns) o ≡ Some fault.Column
Refuses columns o fault.Kind = option_and_then (column_fault columns) o ≡ Some fault.Kind
Refuses columns o (fault.Condition at) = HasBadCondition columns o at
Refuses columns o fault.NoMemory = Unit {0}

-- a question with a good column, over a tree
pub record Asks (columns : List Column) (o : Option Written) (w : Written) (t : Tree) : Type 0 where
  pub writes : o ≡ Some w
  pub good : column_fault columns w ≡ None
  pub means : Means columns (text_of w) t

-- what is read of such a question
abbrev pub Reads : List Column → Written → Tree → Result Request LineFault → Type 0
Reads columns w t (Ok r) = IsRequest columns w t r
Reads columns w t (Err fault.Line) = ⊥
Reads columns w t (Err fault.Column) = ⊥
Reads columns w t (Err fault.Kind) = ⊥
Reads columns w t (Err (fault.Condition at)) = ⊥
Reads columns w t (Err fault.NoMemory) = Unit {0}

-- ---- what can be asked

-- columns of this kind answer what is taken of them; a minimum is the maximum of the negated numbers
abbrev pub kind_for : Take → Kind
kind_for take.Sum = kind.Sum
kind_for take.Avg = kind.Sum
kind_for take.Max = kind.Max
kind_for take.Min = kind.Max

-- the request can be asked of each table over the schema: the column that it names is there and answers what is taken of
-- it, and the condition fits
abbrev pub CanBeAsked : List Column → Request → Type 0
CanBeAsked columns (Count p) = fits columns (tree_of p) ≡ true
CanBeAsked columns (Sum c p) = HasSecret columns c (kind_for take.Sum) × (fits columns (tree_of p) ≡ true)
CanBeAsked columns (Avg c p) = HasSecret columns c (kind_for take.Avg) × (fits columns (tree_of p) ≡ true)
CanBeAsked columns (Max c p) = HasSecret columns c (kind_for take.Max) × (fits columns (tree_of p) ≡ true)
CanBeAsked columns (Min c p) = HasSecret columns c (kind_for take.Min) × (fits columns (tree_of p) ≡ true)

-- the byte that a refusal names is at most this one
abbrev pub IsWithin : ℕ → LineFault → Type 0
IsWithin n fault.Line = Unit {0}
IsWithin n fault.Column = Unit {0}
IsWithin n fault.Kind = Unit {0}
IsWithin n (fault.Condition at) = at ≤ n
IsWithin n fault.NoMemory = Unit {0}
