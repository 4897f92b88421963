use Rattle.std.proofs.Common.{◌≡◌, ◌+◌, ◌∷◌, ◌++◌, [], ℕ, Vec, Global, map, drop, sym, ap, ◌∙◌, arith, append_assoc}
use Rattle.std.proofs.lemmas.List.{map-append}
use Rattle.csv.specs.Records.{fields_of}
use Rattle.table_load.specs.Tables.{HasCell, field_of, text_column}
use Rattle.table_load.proofs.FieldPlaces.{drop_here}
use Rattle.table_load.proofs.GoodCells.{record_has}
use Rattle.table_load.proofs.columns.text_column.Goals as goal

pub field-requires : goal.field-requires
field-requires c =
    (record_has (HasCell c.args.role c.args.k) c.args.rows.now c.loop-row.row-index c.row-item.result c.requires (omega arith) c.row-item.is).within

pub loop-row-preserved : goal.loop-row-preserved
loop-row-preserved c =
    let items = c.in_ok-push.ensures.items in
    let old = map (λ (t : Vec ℕ Global). t.items) c.loop-row.texts.items in
    let rest = text_column c.args.k (map fields_of (drop (c.loop-row.row-index + 1) c.args.rows.now)) in
    let text : c.in_ok-to_vec.field-0.items ≡ field_of c.args.k (fields_of c.row-item.result) = c.in_ok-to_vec.ensures.items_if_clones_equal (λ x y is. is)
    ∙ c.field.ensures in
    let here = drop_here c.args.rows.now c.loop-row.row-index c.row-item.result (omega arith)
    ∙ ap (λ row. row ∷ drop (c.loop-row.row-index + 1) c.args.rows.now) (sym c.row-item.is) in
    let more : map (λ (t : Vec ℕ Global). t.items) c.push.new.self.items ≡ old ++ c.in_ok-to_vec.field-0.items ∷ [] =
    ap (map (λ (t : Vec ℕ Global). t.items)) items ∙ map-append (λ (t : Vec ℕ Global). t.items) c.loop-row.texts.items (c.in_ok-to_vec.field-0 ∷ []) in
    rw more (
    c.loop-row.invariant
    ∙ ap (λ rows. old ++ text_column c.args.k (map fields_of rows)) here
    ∙ ap (λ t. old ++ t ∷ rest) (sym text)
    ∙ sym (append_assoc old (c.in_ok-to_vec.field-0.items ∷ []) rest)
    )
