-- How the two parts of a table keep their columns.
use Rattle.std.specs.Prelude.{◌≡◌, ℕ, ◌+◌, ◌*◌, ◌/◌, ◌<◌, ◌≤◌, ℤ, pos, ◌==◌, List, [], map, slice_index_or, None}
use Rattle.audit_types.specs.Rows.{rows_that}
use Rattle.audit_types.specs.Shapes.{columns, kind_at}
use Rattle.audit_types.specs.Truth.{truth}
use Rattle.audit_types.specs.History.{list_of}
use Rattle.audit_types.specs.declared.shapes.Kind.{Kind}
use Rattle.table_load.specs.Cells as cells
use Rattle.table_load.specs.Cells.{PublicView, SecretView, IsPublic, IsSecret}
use Rattle.table_load.specs.declared.publics.Column.{Column}
use Rattle.table_load.specs.declared.publics.Column.TheVariants.{Hidden, Numbers, Texts}
use Rattle.table_load.specs.declared.publics.Public.TheInside as public
use Rattle.table_load.specs.declared.secrets.Secret.TheInside as secret

-- a kept column as contracts see it
abbrev pub cells_kept : Column → cells.Cells
cells_kept Hidden = cells.hidden
cells_kept (Numbers v) = cells.numbers v.items
cells_kept (Texts v) = cells.texts (map (λ t. t.items) v.items)

-- so many rows, and these columns
abbrev pub public_with : ℕ → List Column → PublicView
public_with rows columns = record { rows = rows; columns = map cells_kept columns; only = None }

-- the public part as contracts see it
abbrev pub public_view : public.Inside → PublicView
public_view a = public_with a.rows a.columns.items

-- what a public part keeps
abbrev pub IsKeptPublic : public.Inside → Type 0
IsKeptPublic a = IsPublic (public_view a)

-- the secret part as contracts see it
abbrev pub secret_view : secret.Inside → SecretView
secret_view a = record { shape = a.shape; lists = map (λ v. v.items) a.lists.items }

-- the rows of a block of 64, of those below n
abbrev pub block_rows : ℕ → ℕ → List ℕ
block_rows n block = rows_that (λ r. r / 64 == block) n

-- the true answer over each block that a table of n rows has whole
abbrev pub AreBlocks : Kind → ℕ → List ℤ → List ℤ → Type 0
AreBlocks kind n list blocks = (block : ℕ) → 64 * block + 64 ≤ n → slice_index_or blocks block (pos 0) ≡ truth kind list (block_rows n block)

-- what a secret part keeps
pub record IsKeptSecret (a : secret.Inside) : Type 0 where
  pub is : IsSecret (secret_view a)
  pub few : columns a.shape ≤ 8
  pub blocks : (column : ℕ) → column < columns a.shape → AreBlocks (kind_at a.shape column) a.shape.rows (list_of (secret_view a).lists column) (slice_index_or a.blocks column [])
