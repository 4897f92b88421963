-- What a schema guards of a table, by the public part.
use Rattle.std.specs.Prelude.{◌≡◌, ℕ, ◌<◌, ◌≤◌, ◌+◌, List, [], ◌∷◌, ◌++◌, length, slice_get, Option, Some, None, option_and_then}
use Rattle.audit_types.specs.declared.records.Protected.{Protected}
use Rattle.audit_types.specs.History.{Protection, entry_of}
use Rattle.schema_json.specs.Columns.{Column, Group, Guards, place_of, role_at, secret_place}
use Rattle.schema_json.specs.declared.roles.Role.TheVariants.{Sum}
use Rattle.table_load.specs.Cells.{PublicView, counts_of, whole}
use Rattle.predicate_lang.specs.Trees.{Tree}
use Rattle.predicate_lang.specs.Places.{Means}
use Rattle.set_index.specs.Asked.{meaning}
use Rattle.set_index.specs.declared.index.GuardPart.{GuardPart}
use Rattle.set_index.specs.declared.index.GuardPart.TheVariants as part

-- a group without fault: its name is that of a column of sums, which has this place among the secret ones, and its text has at
-- most 8,192 bytes and means this condition
pub record IsGroup (columns : List Column) (group : Group) (column : ℕ) (t : Tree) : Type 0 where
  pub sums : option_and_then (role_at columns) (place_of group.column columns) ≡ Some Sum
  pub place : option_and_then (secret_place columns) (place_of group.column columns) ≡ Some column
  pub short : length group.condition ≤ 8192
  pub means : Means columns group.condition t

-- the entries of groups without fault, in order, the first of which stands at this place
abbrev pub AreEntries : List Column → PublicView → ℕ → List Group → List Protected → Type 0
AreEntries columns public place [] protected = protected ≡ []
AreEntries columns public place (group ∷ groups) protected =
    (column : ℕ) × (t : Tree) × (rest : List Protected) × IsGroup columns group column t × (protected ≡ entry_of column place public.rows (meaning public t) ++ rest) × AreEntries columns public (place + 1) groups rest

-- the rows that may be asked of are those that satisfy a condition, whose text has at most 8,192 bytes; all if there is none
abbrev pub AsksOnly : List Column → Option (List ℕ) → PublicView → Type 0
AsksOnly columns None public = public.only ≡ None
AsksOnly columns (Some text) public = (t : Tree) × (length text ≤ 8192) × Means columns text t × (public.only ≡ Some (meaning (whole public) t))

-- what a schema guards of a table: what so few have of the people that the table counts, and the entries of its groups, by forms of its width
-- and reach; and of which rows may be asked
abbrev pub Protects : List Column → PublicView → Guards → Protection → Type 0
Protects columns public guards protected = AreEntries columns public 0 guards.groups protected.groups
    × (protected.people ≡ record { counts = counts_of columns public; fewest = guards.fewest; own = guards.own })
    × (protected.width ≡ guards.width) × (protected.reach ≡ guards.reach) × AsksOnly columns guards.only public

-- a group has no fault
abbrev pub HasNoFault : List Column → Group → Type 0
HasNoFault columns group = (column : ℕ) × (t : Tree) × IsGroup columns group column t

-- the condition on rows that may be asked of has no fault, if there is one
abbrev pub IsSoundOnly : List Column → Option (List ℕ) → Type 0
IsSoundOnly columns None = Unit {0}
IsSoundOnly columns (Some text) = (t : Tree) × (length text ≤ 8192) × Means columns text t

-- neither that condition nor a group has a fault
pub record AreSound (columns : List Column) (guards : Guards) : Type 0 where
  pub only : IsSoundOnly columns guards.only
  pub groups : (i : ℕ) (group : Group) → slice_get guards.groups i ≡ Some group → HasNoFault columns group

-- the first group that has a fault stands at this place
pub record IsFirstBadGroup (columns : List Column) (groups : List Group) (place : ℕ) : Type 0 where
  pub at : Group
  pub stands : slice_get groups place ≡ Some at
  pub bad : ¬ (HasNoFault columns at)
  pub before : (i : ℕ) (group : Group) → i < place → slice_get groups i ≡ Some group → HasNoFault columns group

-- the first part of what a schema says is guarded that has a fault: the condition on all rows comes before the groups
abbrev pub IsFirstBad : List Column → Guards → GuardPart → Type 0
IsFirstBad columns guards part.Only = ¬ (IsSoundOnly columns guards.only)
IsFirstBad columns guards (part.Group place) = IsSoundOnly columns guards.only × IsFirstBadGroup columns guards.groups place
