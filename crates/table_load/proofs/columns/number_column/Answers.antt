use Rattle.std.proofs.Common.{◌≡◌, ◌+◌, ◌∷◌, ◌++◌, [], map, drop, sym, ap, ◌∙◌, arith, append_assoc, to_z, of_z, w64}
use Rattle.std.proofs.lemmas.Int.{ints}
use Rattle.std.specs.Prelude.{pos, unwrap_or}
use Rattle.csv.specs.Records.{fields_of}
use Rattle.table_load.specs.Numerals.{number_in}
use Rattle.table_load.specs.Tables.{HasCell, field_of, is_number, kept_as, kept_number, number_of_field, number_column}
use Rattle.table_load.proofs.FieldPlaces.{drop_here}
use Rattle.table_load.proofs.ColumnSteps.{kept_one}
use Rattle.table_load.proofs.GoodCells.{record_has}
use Rattle.table_load.proofs.columns.number_column.Goals as goal

pub field-requires : goal.field-requires
field-requires c =
    (record_has (HasCell c.args.role c.args.k) c.args.rows.now c.loop-row.row-index c.row-item.result c.requires.cells (omega arith) c.row-item.is).within

pub number_of-requires : goal.number_of-requires
number_of-requires c =
    rw c.field.ensures
    ((record_has (HasCell c.args.role c.args.k) c.args.rows.now c.loop-row.row-index c.row-item.result c.requires.cells
    (omega arith) c.row-item.is).number c.requires.numeric)

pub kept-requires : goal.kept-requires
kept-requires c =
    let fits : to_z w64 (of_z w64 c.number_of.result) ≡ c.number_of.result = omega (arith, ints) in
    let number = (record_has (HasCell c.args.role c.args.k) c.args.rows.now c.loop-row.row-index c.row-item.result c.requires.cells
    (omega arith) c.row-item.is).number c.requires.numeric in
    rw fits (ap is_number (sym c.number_of.ensures ∙ ap number_in c.field.ensures) ∙ number)

pub loop-row-preserved : goal.loop-row-preserved
loop-row-preserved c =
    let items = c.in_ok-push.ensures.items in
    let role = c.args.role in
    let k = c.args.k in
    let numbers = c.loop-row.numbers.items in
    let later = map fields_of (drop (c.loop-row.row-index + 1) c.args.rows.now) in
    let number : number_of_field (field_of k (fields_of c.row-item.result)) ≡ c.number_of.result =
    ap (λ f. unwrap_or (number_in f) (pos 0)) (sym c.field.ensures) ∙ ap (λ o. unwrap_or o (pos 0)) c.number_of.ensures in
    let here = drop_here c.args.rows.now c.loop-row.row-index c.row-item.result (omega arith)
    ∙ ap (λ row. row ∷ drop (c.loop-row.row-index + 1) c.args.rows.now) (sym c.row-item.is) in
    let fits : to_z w64 (of_z w64 c.number_of.result) ≡ c.number_of.result = omega (arith, ints) in
    let kept_fits : to_z w64 (of_z w64 c.kept.result) ≡ c.kept.result = omega (arith, ints) in
    let is : to_z w64 (of_z w64 c.kept.result) ≡ kept_number role c.number_of.result = kept_fits ∙ c.kept.ensures ∙ ap (kept_number role) fits in
    let more : c.push.new.self.items ≡ numbers ++ kept_number role c.number_of.result ∷ [] = items ∙ ap (λ z. numbers ++ z ∷ []) is in
    rw more (
    c.loop-row.invariant
    ∙ ap (λ rows. numbers ++ kept_as role (number_column k (map fields_of rows))) here
    ∙ ap (λ z. numbers ++ kept_as role (z ∷ number_column k later)) number
    ∙ ap (λ w. numbers ++ w) (kept_one role c.number_of.result (number_column k later))
    ∙ sym (append_assoc numbers (kept_number role c.number_of.result ∷ []) (kept_as role (number_column k later)))
    )
