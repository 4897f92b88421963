use Rattle.std.proofs.Common.{ℕ, get_or, map, refl, subst, sym}
use Rattle.std.specs.List.{AllByRecursion}
use Rattle.std.proofs.lemmas.List.{length-map}
use Rattle.csv.specs.Records.{fields_of}
use Rattle.table_load.specs.Cells.{AreCells, HoldsRole, PublicView, cells_at, hidden}
use Rattle.table_load.specs.Reading.{file_columns, roles_of}
use Rattle.table_load.specs.Tables.{cells_from}
use Rattle.table_load.proofs.ColumnSteps.{all_cells_are, cells_fit}
use Rattle.table_load.proofs.loading.public_part.Goals as goal

pub of-requires : goal.of-requires
of-requires c =
    let cs = c.args.schema.now.columns in
    let rows = map fields_of c.args.rows.now in
    let P : ℕ → Type 0 = λ n. AllByRecursion (AreCells n) (cells_from c.args.which 0 cs rows) in
    record {
      some = c.requires.some;
      at_most = c.requires.at_most;
      columns =
          rw c.in-Ok.ensures (subst P (length-map c.args.rows.now fields_of)
          (all_cells_are c.args.which (roles_of (file_columns c.args.which cs)) rows 0 cs c.requires.good refl));
    }

pub returns-in-Ok-clause-fits : goal.returns-in-Ok-clause-fits
returns-in-Ok-clause-fits c = λ place role is.
    let cs = c.args.schema.now.columns in
    let rows = map fields_of c.args.rows.now in
    let fits = cells_fit c.args.which (roles_of (file_columns c.args.which cs)) rows 0 cs c.requires.good refl place role is in
    subst (λ (p : PublicView). HoldsRole role (cells_at p place)) (sym c.of.ensures)
    (subst (λ cells. HoldsRole role (get_or cells place hidden)) (sym c.in-Ok.ensures) fits)
