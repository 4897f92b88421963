-- Files without fault are those of a database.
use Rattle.std.proofs.Common.{◌≡◌, ℕ, List, Ok, sym, subst}
use Rattle.audit_types.specs.declared.shapes.Shape.{Shape}
use Rattle.audit_types.specs.History.{AreProtected}
use Rattle.schema_json.specs.Columns.{Column, SchemaView, AreColumns, IsSchema}
use Rattle.schema_json.specs.Reading.{schema_of}
use Rattle.schema_json.specs.SecretShape.{shape_of}
use Rattle.table_load.specs.Cells.{TableView, IsPublic, IsSecret, FitsSchema, whole}
use Rattle.table_load.specs.Database.{Database, IsDatabase, AreLines}
use Rattle.table_load.specs.MeaningLaws.{means_read}
use Rattle.table_load.specs.Tables.{table_of}
use Rattle.set_index.specs.Indexed.{EntriesFit, RowsAreLines}
use Rattle.auditor_top.specs.Commands.{AreSoundFilesOf}

-- what is true of the meanings of files
pub record MeaningsFit : Type 0 where
  pub schema : (bytes : List ℕ) (schema : SchemaView) → schema_of bytes ≡ Ok schema → IsSchema schema
  pub secret : (columns : List Column) (bytes : List ℕ) (t : TableView) → AreColumns columns → table_of columns bytes ≡ Ok t → IsSecret t.secret
  pub public : (columns : List Column) (bytes : List ℕ) (t : TableView) → table_of columns bytes ≡ Ok t → IsPublic t.public
  pub shape : (columns : List Column) (bytes : List ℕ) (t : TableView) → table_of columns bytes ≡ Ok t → t.secret.shape ≡ shape_of columns t.public.rows
  pub fits : (columns : List Column) (bytes : List ℕ) (t : TableView) → table_of columns bytes ≡ Ok t → FitsSchema columns t.public
  pub entries : EntriesFit
  pub lines : RowsAreLines

module _ (fit : MeaningsFit) (schema table : List ℕ) (base : Database) (sound : AreSoundFilesOf schema table base) where
  abbrev meant : TableView
  meant = record { public = whole base.public; secret = base.secret }

  is_schema : IsSchema (record { columns = base.columns; guards = sound.files.guards })
  is_schema = fit.schema schema (record { columns = base.columns; guards = sound.files.guards }) sound.files.schema_is

  pub is_secret : IsSecret base.secret
  is_secret = fit.secret base.columns table meant is_schema.columns (means_read sound.files.table_means)

  is_public : IsPublic base.public
  is_public =
      let seen : IsPublic (whole base.public) = fit.public base.columns table meant (means_read sound.files.table_means) in
      record { some = seen.some; at_most = seen.at_most; columns = seen.columns }

  fits_schema : FitsSchema base.columns base.public
  fits_schema = fit.fits base.columns table meant (means_read sound.files.table_means)

  pub are_lines : AreLines base
  are_lines = fit.lines base sound.files.guards fits_schema is_public sound.entries

  pub is_database : IsDatabase base
  is_database =
      let shape : base.secret.shape ≡ shape_of base.columns base.public.rows = fit.shape base.columns table meant (means_read sound.files.table_means) in
      record {
        schema = is_schema.columns;
        shape = shape;
        protected = subst (λ (s : Shape). AreProtected s base.protected) (sym shape)
            (fit.entries base.columns base.public sound.files.guards base.protected is_schema.columns fits_schema is_public is_schema.guards sound.entries);
      }
