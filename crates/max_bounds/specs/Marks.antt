-- Marks of sets of rows: a bit for each of up to 64 sampled rows, or for each of 64 groups of rows.
use Rattle.std.specs.Prelude.{◌≡◌, ℕ, ◌<◌, true, false, List, [], ◌∷◌, vec_len, vec_capacity}
use Rattle.std.specs.Int.{bit_at}
use Rattle.audit_types.specs.Rows.{Rows, has_row}
use Rattle.max_bounds.specs.Groups.{IsSample, IsInGroup}
use Rattle.max_bounds.specs.Outside.{outside}
use Rattle.max_bounds.specs.declared.answered.AnsweredMax.{AnsweredMax}
use Rattle.max_bounds.specs.declared.marks.Marking.{Marking}
use Rattle.max_bounds.specs.declared.marks.Marking.TheVariants.{Samples, Touched, Filled}
use Rattle.max_bounds.specs.declared.marks.Lost.{Lost}
use Rattle.max_bounds.specs.declared.marks.Marks.{Marks}

-- the set has a row of each of these groups
abbrev pub Touches : (ℕ → ℕ → Type 0) → Rows → ℕ → Type 0
Touches is_in set groups = (g : ℕ) → g < 64 → bit_at groups g ≡ 1 → (r : ℕ) × (has_row set.list r ≡ true) × is_in r g

-- it has each row of each of these groups
abbrev pub Fills : (ℕ → ℕ → Type 0) → Rows → ℕ → Type 0
Fills is_in set groups = (g r : ℕ) → g < 64 → bit_at groups g ≡ 1 → r < set.n → is_in r g → has_row set.list r ≡ true

-- what a mark says of its set
abbrev pub IsMark : Marking → Rows → ℕ → Type 0
IsMark Samples set mark = Touches (IsSample set.n) set mark
IsMark Touched set mark = Touches IsInGroup set mark
IsMark Filled set mark = Fills IsInGroup set mark

-- no row of these groups is in a question's set
abbrev pub Avoids : (ℕ → ℕ → Type 0) → List ℕ → ℕ → Type 0
Avoids is_in rows groups = (g r : ℕ) → g < 64 → bit_at groups g ≡ 1 → is_in r g → has_row rows r ≡ false

-- each of these groups has one of n rows that isn't in a question's set
abbrev pub Misses : (ℕ → ℕ → Type 0) → ℕ → List ℕ → ℕ → Type 0
Misses is_in n rows groups = (g : ℕ) → g < 64 → bit_at groups g ≡ 1 → (r : ℕ) × (r < n) × (has_row rows r ≡ false) × is_in r g

-- what a question's set lacks of the groups that marks of this kind tell of
abbrev pub AreLacking : Marking → ℕ → List ℕ → ℕ → Type 0
AreLacking Samples n rows groups = Avoids (IsSample n) rows groups
AreLacking Touched n rows groups = Avoids IsInGroup rows groups
AreLacking Filled n rows groups = Misses IsInGroup n rows groups

-- for each of these bits the set has a row outside the question's, and another one for another bit
pub record ShowsLeft (set : Rows) (rows : List ℕ) (bits : ℕ) : Type 0 where
  pub group_of : ℕ → ℕ
  pub row : (g : ℕ) → g < 64 → bit_at bits g ≡ 1 → (r : ℕ) × (has_row (outside rows set.list) r ≡ true) × (group_of r ≡ g)

-- the marks of one kind
abbrev pub marks_of : Marking → Marks → List ℕ
marks_of Samples marks = marks.samples.items
marks_of Touched marks = marks.touched.items
marks_of Filled marks = marks.filled.items

-- what lost rows take from a mark of one kind
abbrev pub lost_by : Marking → Lost → ℕ
lost_by Samples lost = lost.samples
lost_by Touched lost = lost.groups
lost_by Filled lost = lost.groups

-- there is room for one mark more of each kind
pub record HaveRoom (marks : Marks) : Type 0 where
  pub samples : vec_len marks.samples < vec_capacity marks.samples
  pub touched : vec_len marks.touched < vec_capacity marks.touched
  pub filled : vec_len marks.filled < vec_capacity marks.filled

-- each set has its mark, at the same place
abbrev pub AreMarkedBy : Marking → List AnsweredMax → List ℕ → Type 0
AreMarkedBy marking [] [] = Unit {0}
AreMarkedBy marking [] (mark ∷ marks) = ⊥
AreMarkedBy marking (set ∷ sets) [] = ⊥
AreMarkedBy marking (set ∷ sets) (mark ∷ marks) = IsMark marking set.rows mark × AreMarkedBy marking sets marks

-- it has one of each kind
abbrev pub AreMarked : List AnsweredMax → Marks → Type 0
AreMarked sets marks = (marking : Marking) → AreMarkedBy marking sets (marks_of marking marks)
