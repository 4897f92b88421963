-- The schema that bytes mean, and the first fault of bytes that mean none.
use Rattle.std.specs.Prelude.{◌≡◌, ℕ, suc, ◌+◌, Bool, cond, not, ◌||◌, ◌&&◌, if◌then◌else◌, List, [], ◌∷◌, length, Option, Some, None, is_none, is_some, option_map, option_and_then, unwrap_or, map, Vec, Result, Ok, Err, nat_lt, nat_le, codes, ◌==◌}
use Rattle.std.specs.Str.{bytes_eq, is_utf8}
use Rattle.serde_json.specs.Data.{Data, Items, no_items, item, Members, no_members, member}
use Rattle.serde_json.specs.Read.{read}
use Rattle.serde_json.specs.Find.{get, as_number, as_str, as_array, as_object, as_u64}
use Rattle.std.specs.declared.alloc.Global.{Global}
use Rattle.audit_types.specs.Limits.{most_groups, most_rows, most_width}
use Rattle.schema_json.specs.Columns.{Column, Group, Guards, SchemaView, has_good_names, repeats, too_many, has_public}
use Rattle.schema_json.specs.declared.roles.Role.{Role}
use Rattle.schema_json.specs.declared.roles.Role.TheVariants as role
use Rattle.schema_json.specs.declared.faults.SchemaFault.{SchemaFault}
use Rattle.schema_json.specs.declared.faults.SchemaFault.TheVariants.{TooLong, NotJson, Shape, BadName, Repeated, TooMany, NoMemory}

-- the value that bytes are: UTF-8, and JSON as `serde_json` reads it. Of a key that comes twice the last value counts.
unfoldable pub value_of : List ℕ → Option Data
value_of bytes = if is_utf8 bytes then read bytes else None

-- how many members these are
abbrev pub members_len : Members → ℕ
members_len no_members = 0
members_len (member k d ms) = suc (members_len ms)

-- how many keys an object has
abbrev pub key_count : Data → ℕ
key_count d = unwrap_or (option_map members_len (as_object d)) 0

-- the role that a word names
abbrev pub role_of : List ℕ → Option Role
role_of word = if bytes_eq word (codes "text") then Some role.Text else (if bytes_eq word (codes "number") then Some role.Number else (if bytes_eq word (codes "count") then Some role.Count else (if bytes_eq word (codes "sum") then Some role.Sum else (if bytes_eq word (codes "max") then Some role.Max else (if bytes_eq word (codes "min") then Some role.Min else None)))))

-- what is made of two parts, if both are there
abbrev pub made_of : {X Y Z : Type 0} → (X → Y → Z) → Option X → Option Y → Option Z
made_of make (Some x) (Some y) = Some (make x y)
made_of make x y = None

-- two parts, if both are there
abbrev pub both : {X Y : Type 0} → Option X → Option Y → Option (X × Y)
both = made_of (λ x y. (x, y))

-- an object of the two keys `name` and `is`
unfoldable pub column_of : Data → Option Column
column_of d = if key_count d == 2 then made_of (λ name role. record { name = name; role = role }) (option_and_then as_str (get (codes "name") d)) (option_and_then role_of (option_and_then as_str (get (codes "is") d))) else None

-- an object of the two keys `column` and `where`
unfoldable pub group_of : Data → Option Group
group_of d = if key_count d == 2 then made_of (λ column condition. record { column = column; condition = condition }) (option_and_then as_str (get (codes "column") d)) (option_and_then as_str (get (codes "where") d)) else None

-- what each of the values is read as
abbrev pub each_as : {X : Type 0} → (Data → Option X) → Items → Option (List X)
each_as read no_items = Some []
each_as read (item d ds) = option_and_then (λ x. option_map (λ xs. x ∷ xs) (each_as read ds)) (read d)

-- the values of the array under a key
unfoldable pub items_at : List ℕ → Data → Option Items
items_at key d = option_and_then as_array (get key d)

-- some of them public, so at least one
abbrev pub with_public : List Column → Option (List Column)
with_public columns = if has_public columns then Some columns else None

-- the columns that a value lists, if it lists some of which some are public
unfoldable pub columns_of : Data → Option (List Column)
columns_of d = option_and_then with_public (option_and_then (each_as column_of) (items_at (codes "columns") d))

-- what a value says under a key is read as; this, if it hasn't the key
abbrev pub key_or : {X : Type 0} → X → (Data → Option X) → List ℕ → Data → Option X
key_or absent read key d = unwrap_or (option_map read (get key d)) (Some absent)

-- the groups that an array lists
unfoldable pub groups_in : Data → Option (List Group)
groups_in d = option_and_then (each_as group_of) (as_array d)

-- a whole number from one to another, with neither sign, point nor exponent
abbrev pub number_within : ℕ → ℕ → Data → Option ℕ
number_within low high d = option_and_then (λ n. if nat_le low n && nat_le n high then Some n else None) (option_and_then as_u64 (as_number d))

-- 1 for a key that an object has, 0 for one that it hasn't
abbrev pub has_key : List ℕ → Data → ℕ
has_key key d = cond (is_some (get key d)) 1 0

-- an object has no keys but `columns` and those that say what is guarded
abbrev pub has_these_keys : Data → Bool
has_these_keys d = key_count d == 1 + has_key (codes "only") d + has_key (codes "protect") d + has_key (codes "width") d + has_key (codes "reach") d + has_key (codes "fewest") d + has_key (codes "askers") d

-- the numbers of how many rows an asker knows, by the word for where she is
abbrev pub own_of_word : List ℕ → Option ℕ
own_of_word word = if bytes_eq word (codes "outside") then Some 0 else (if bytes_eq word (codes "inside") then Some 1 else None)

-- what an object says is guarded: no condition unless it has the key `only`, no groups unless it has `protect`, the greatest width unless it
-- has `width`, the greatest reach unless it has `reach`, what fewer than two people have unless it has `fewest`, and against nobody of the
-- table unless it has `askers`
unfoldable pub guards_of : Data → Option Guards
guards_of d = if has_these_keys d then made_of (λ said n. record { only = said.0; groups = said.1; width = n.0.0; reach = n.0.1; fewest = n.1.0; own = n.1.1 })
    (both (key_or None (λ v. option_map Some (as_str v)) (codes "only") d) (key_or [] groups_in (codes "protect") d))
    (both (both (key_or most_width (number_within 1 most_width) (codes "width") d) (key_or most_rows (number_within 2 most_rows) (codes "reach") d))
    (both (key_or 2 (number_within 2 1000) (codes "fewest") d) (key_or 0 (λ v. option_and_then own_of_word (as_str v)) (codes "askers") d))) else None

-- what a value lists: columns, and what is guarded
abbrev pub listed_of : Data → Option SchemaView
listed_of d = made_of (λ columns guards. record { columns = columns; guards = guards }) (columns_of d) (guards_of d)

-- the most bytes of a schema
abbrev pub most_schema : ℕ
most_schema = 65536

-- the first fault of what is listed, and else this
abbrev pub checked : Option SchemaView → Result SchemaView SchemaFault
checked None = Err Shape
checked (Some schema) = if not (has_good_names schema.columns) then Err BadName else (if repeats schema.columns then Err Repeated else (if too_many schema.columns || nat_lt most_groups (length schema.guards.groups) then Err TooMany else Ok schema))

-- the schema that bytes mean, or their first fault
abbrev pub schema_of : List ℕ → Result SchemaView SchemaFault
schema_of bytes = if nat_lt most_schema (length bytes) then Err TooLong else (if is_none (value_of bytes) then Err NotJson else checked (option_and_then listed_of (value_of bytes)))

-- a fault is the bytes' own, unless memory ran out
abbrev pub IsFaultOf : SchemaFault → Result SchemaView SchemaFault → Type 0
IsFaultOf NoMemory meant = Unit {0}
IsFaultOf TooLong meant = meant ≡ Err TooLong
IsFaultOf NotJson meant = meant ≡ Err NotJson
IsFaultOf Shape meant = meant ≡ Err Shape
IsFaultOf BadName meant = meant ≡ Err BadName
IsFaultOf Repeated meant = meant ≡ Err Repeated
IsFaultOf TooMany meant = meant ≡ Err TooMany

-- what was read is what the bytes mean, unless memory ran out
abbrev pub ReadsSchema : Result SchemaView SchemaFault → List ℕ → Type 0
ReadsSchema (Ok schema) bytes = schema_of bytes ≡ Ok schema
ReadsSchema (Err fault) bytes = IsFaultOf fault (schema_of bytes)

-- the same, of what a value lists
abbrev pub ReadsListed : Result SchemaView SchemaFault → Result SchemaView SchemaFault → Type 0
ReadsListed (Ok schema) meant = meant ≡ Ok schema
ReadsListed (Err fault) meant = IsFaultOf fault meant

-- what the reader makes of a value: what it is read as, or word that it is none
abbrev pub Takes : {E X : Type 0} → (E → X) → Result E SchemaFault → Option X → Type 0
Takes kept (Ok entry) meant = meant ≡ Some (kept entry)
Takes kept (Err NoMemory) meant = Unit {0}
Takes kept (Err Shape) meant = meant ≡ None
Takes kept (Err TooLong) meant = ⊥
Takes kept (Err NotJson) meant = ⊥
Takes kept (Err BadName) meant = ⊥
Takes kept (Err Repeated) meant = ⊥
Takes kept (Err TooMany) meant = ⊥

-- what the reader gathers: what the values are read as, or word that some value is none
abbrev pub Gathers : {E X : Type 0} → (E → X) → Result (Vec E Global) SchemaFault → Option (List X) → Type 0
Gathers kept = Takes (λ entries. map kept entries.items)
