-- Tables that get rows at their end, and what was answered before over the longer ones.
use Rattle.std.specs.Prelude.{◌≡◌, ℕ, ◌<◌, List, [], ◌∷◌, ◌++◌, map, take}
use Rattle.audit_types.specs.declared.shapes.Shape.{Shape}
use Rattle.audit_types.specs.declared.records.Answered.{Answered}
use Rattle.audit_types.specs.declared.records.Protected.{Protected}
use Rattle.audit_types.specs.Rows.{has_row, rows_that}
use Rattle.audit_types.specs.History.{Table, Protection, entry_of, setting_of}

-- the same columns over n rows
abbrev pub over : ℕ → Shape → Shape
over n shape = record shape { rows = n }

-- the record with its set over n rows
abbrev pub wider : ℕ → Answered → Answered
wider n r = record r { rows = record r.rows { n = n } }

-- the history with each set over n rows
abbrev pub widened : ℕ → List Answered → List Answered
widened n history = map (wider n) history

-- the protected groups among the first n rows
abbrev pub groups_among : ℕ → List Protected → List Protected
groups_among n [] = []
groups_among n (p ∷ protected) = entry_of p.column p.place n (rows_that (has_row p.rows.list) n) ++ groups_among n protected

-- what is guarded among the first n rows: an asker may be one of these, or a later one
abbrev pub protection_among : ℕ → Protection → Protection
protection_among n protected = record protected { groups = groups_among n protected.groups; people = record protected.people { counts = take n protected.people.counts } }

-- the first n rows of a table
abbrev pub first_rows : ℕ → Table → Table
first_rows n table = record { setting = setting_of (over n table.setting.shape) (protection_among n table.setting.protected); secrets = map (take n) table.secrets }

-- a table with more rows, the first of which are those of this one
abbrev pub Extends : Table → Table → Type 0
Extends table longer = (table.setting.shape.rows < longer.setting.shape.rows) × (table ≡ first_rows table.setting.shape.rows longer)
