-- A file without a fault has 1 to most_rows good data records, and both parts of the table that it means are made of them.
use Rattle.std.proofs.Common.{◌≡◌, ℕ, ◌<◌, ◌≤◌, List, length, None, refl, sym, ap, ◌∙◌, subst}
use Rattle.std.specs.Prelude.{Ok}
use Rattle.audit_types.specs.Limits.{most_rows}
use Rattle.audit_types.specs.Shapes.{IsShape, columns}
use Rattle.schema_json.specs.Columns.{Column, secret_count}
use Rattle.schema_json.specs.SecretShape.{shape_of}
use Rattle.table_load.specs.Cells.{TableView, IsPublic, IsSecret, FitsSchema}
use Rattle.table_load.specs.Reading.{Fields, records_fault, file_fault, file_columns, roles_of}
use Rattle.table_load.specs.Steps.{AreData}
use Rattle.table_load.specs.Tables.{data_of, public_in, secret_in, table_of}
use Rattle.table_load.specs.declared.layout.FileColumns.TheVariants as file
use Rattle.table_load.specs.MeaningLaws.{answered, file_is, records_fine}
use Rattle.table_load.proofs.ColumnSteps.{all_cells_are, all_secrets_are, all_roles_from, secrets_counted, cells_fit}

-- a file without a fault has 1 to most_rows data records, none of which has one
fine_data : (columns : List Column) (bytes : List ℕ) → file_fault columns bytes ≡ None → AreData columns bytes (data_of bytes)
fine_data columns bytes fine =
    let fine_file = file_is columns bytes fine in
    record {
      no_fault = fine;
      data_are = refl;
      good = records_fine 2 columns (data_of bytes) fine_file.headed.rows.each;
      some = fine_file.headed.rows.some;
      at_most = fine_file.headed.rows.at_most;
    }

-- both parts of a table are made of the same 1 to most_rows records, none of which has a fault
pub record HasParts (schema : List Column) (t : TableView) : Type 0 where
  pub rows : List Fields
  pub good : records_fault (roles_of (file_columns file.All schema)) 2 rows ≡ None
  pub some : 0 < length rows
  pub at_most : length rows ≤ most_rows
  pub public : public_in file.All schema rows ≡ t.public
  pub secret : secret_in schema rows ≡ t.secret

-- bytes that mean a table have good data records, and its parts are made of them
pub has_parts : (schema : List Column) (bytes : List ℕ) (t : TableView) → table_of schema bytes ≡ Ok t → HasParts schema t
has_parts schema bytes t is =
    let parts = answered (file_fault (file_columns file.All schema) bytes)
    (record { public = public_in file.All schema (data_of bytes); secret = secret_in schema (data_of bytes) }) t is in
    let read = fine_data (file_columns file.All schema) bytes parts.0 in
    record {
      rows = data_of bytes;
      good = read.good;
      some = read.some;
      at_most = read.at_most;
      public = ap (λ (x : TableView). x.public) parts.1;
      secret = ap (λ (x : TableView). x.secret) parts.1;
    }

-- such a secret part has a number in range for each row of each of its columns
pub secret_is : (schema : List Column) (t : TableView) → HasParts schema t → ((rows : ℕ) → 0 < rows → rows ≤ most_rows → IsShape (shape_of schema rows)) →
    ((rows : ℕ) → columns (shape_of schema rows) ≡ secret_count schema) → IsSecret t.secret
secret_is schema t parts valid counts =
    let n = length parts.rows in
    subst IsSecret parts.secret (record {
      shape = valid n parts.some parts.at_most;
      one_each = secrets_counted 0 schema parts.rows ∙ sym (counts n);
      numbers = all_secrets_are (roles_of (file_columns file.All schema)) parts.rows 0 schema parts.good (all_roles_from 0 schema);
    })

-- such a public part has a cell for each row in each column that is not hidden
pub public_is : (schema : List Column) (t : TableView) → HasParts schema t → IsPublic t.public
public_is schema t parts =
    subst IsPublic parts.public (record {
      some = parts.some;
      at_most = parts.at_most;
      columns = all_cells_are file.All (roles_of (file_columns file.All schema)) parts.rows 0 schema parts.good refl;
    })

-- such a public part has columns that hold what the schema's roles say
pub public_fits : (schema : List Column) (t : TableView) → HasParts schema t → FitsSchema schema t.public
public_fits schema t parts =
    subst (FitsSchema schema) parts.public (cells_fit file.All (roles_of (file_columns file.All schema)) parts.rows 0 schema parts.good refl)

-- such a secret part has the schema's shape over the rows of the public part
pub shape_is : (schema : List Column) (t : TableView) → HasParts schema t → t.secret.shape ≡ shape_of schema t.public.rows
shape_is schema t parts = ap (λ s. s.shape) (sym parts.secret) ∙ ap (λ p. shape_of schema p.rows) parts.public
