-- What the files of a table mean to the auditor.
use Rattle.std.specs.Prelude.{◌≡◌, ◌≢◌, ℕ, ◌<◌, List, [], map, length, take}
use Rattle.std.specs.List.{AllByRecursion}
use Rattle.audit_types.specs.History.{Table, Protection, AreProtected, setting_of}
use Rattle.audit_types.specs.Widening.{over, protection_among}
use Rattle.schema_json.specs.Columns.{Column, AreColumns}
use Rattle.schema_json.specs.SecretShape.{shape_of}
use Rattle.table_load.specs.Cells.{Cells, hidden, numbers, texts, PublicView, SecretView, counts_of}

-- what a schema's file and a table's file mean together
pub record Database : Type 0 where
  pub columns : List Column
  pub public : PublicView
  pub protected : Protection
  pub secret : SecretView

-- the columns of a schema over the parts of a table, with what is guarded of it
abbrev pub base_of : List Column → PublicView → Protection → SecretView → Database
base_of columns public protected secret = record { columns = columns; public = public; protected = protected; secret = secret }

-- a schema's columns, secrets of the shape that they give the table, and protection that fits it
pub record IsDatabase (base : Database) : Type 0 where
  pub schema : AreColumns base.columns
  pub shape : base.secret.shape ≡ shape_of base.columns base.public.rows
  pub protected : AreProtected base.secret.shape base.protected

-- what is guarded goes by the people that the table counts, behind each row or behind none
pub record AreLines (base : Database) : Type 0 where
  pub counts : base.protected.people.counts ≡ counts_of base.columns base.public
  pub one_each : base.protected.people.counts ≢ [] → length base.protected.people.counts ≡ base.public.rows

-- tables that differ in their secrets alone, which are of one shape
abbrev pub AreTwins : Database → Database → Type 0
AreTwins base twin = (twin ≡ record base { secret = twin.secret }) × (twin.secret.shape ≡ base.secret.shape)

-- the table whose secrets these are, with this protection
abbrev pub secret_table : SecretView → Protection → Table
secret_table secret protected = record { setting = setting_of secret.shape protected; secrets = secret.lists }

-- the table of a database
abbrev pub table_in : Database → Table
table_in base = record { setting = setting_of base.secret.shape base.protected; secrets = base.secret.lists }

-- ---- growing tables

-- the first n cells of a column
abbrev pub first_cells : ℕ → Cells → Cells
first_cells n hidden = hidden
first_cells n (numbers list) = numbers (take n list)
first_cells n (texts list) = texts (take n list)

-- the secrets of the first n rows
abbrev pub first_secrets : ℕ → SecretView → SecretView
first_secrets n secret = record { shape = over n secret.shape; lists = map (take n) secret.lists }

-- the first n rows of a table, with what is guarded among them
abbrev pub first_of : ℕ → Database → Database
first_of n base = record base { public = record base.public { rows = n; columns = map (first_cells n) base.public.columns }; protected = protection_among n base.protected; secret = first_secrets n base.secret }

-- a table over the same schema with more rows, the first of which are those of this one
abbrev pub Grows : Database → Database → Type 0
Grows base longer = (base.public.rows < longer.public.rows) × (base ≡ first_of base.public.rows longer)
