use Rattle.std.proofs.Common.{◌≡◌, ◌<◌, ◌+◌, ◌∷◌, ◌++◌, [], map, drop, length, sym, ap, ◌∙◌, arith, true, false, cond, append_assoc}
use Rattle.std.proofs.lemmas.List.{map-append}
use Rattle.csv.specs.Records.{fields_of}
use Rattle.table_load.specs.Kept.{cells_kept}
use Rattle.table_load.specs.Reading.{is_in_file, file_columns, roles_of}
use Rattle.table_load.specs.Tables.{cells_of, cells_from}
use Rattle.table_load.proofs.FileRoles.{roles_with, columns_without}
use Rattle.table_load.proofs.GoodCells.{records_hold}
use Rattle.table_load.proofs.ColumnSteps.{public_in_file, drop_tail, cells_step}
use Rattle.table_load.proofs.columns.public_columns.Goals.{then-has, else-has}
use Rattle.table_load.proofs.columns.public_columns.Goals as goal

pub cells-requires : goal.cells-requires
cells-requires c = λ public.
    let cs = c.args.schema.now.columns in
    let within : c.loop-place.place < length cs = omega (arith, c.count-place-end.ensures.count) in
    records_hold (roles_of (file_columns c.args.which cs)) 2 (map fields_of c.args.rows.now) c.loop-place.k c.role-role.result _ c.requires
    (c.loop-place.invariant.roles ∙ roles_with c.args.which cs c.loop-place.place c.role-role.result within c.role-role.ensures
    (public_in_file c.args.which c.role-role.result public))

pub loop-place-preserved : goal.loop-place-preserved
loop-place-preserved c =
    let cs = c.args.schema.now.columns in
    let rows = map fields_of c.args.rows.now in
    let role = c.role-role.result in
    let k = c.loop-place.k in
    let place = c.loop-place.place in
    let within : place < length cs = omega (arith, c.count-place-end.ensures.count) in
    let items = c.in_ok-push.ensures.items in
    let more : map cells_kept c.push.new.self.items ≡ map cells_kept c.loop-place.columns.items ++ cells_of role k rows ∷ [] =
    ap (map cells_kept) items ∙ map-append cells_kept c.loop-place.columns.items (c.in_ok-cells.field-0 ∷ [])
    ∙ ap (λ x. map cells_kept c.loop-place.columns.items ++ x ∷ []) c.in_ok-cells.ensures in
    let step = c.loop-place.invariant.columns ∙ ap (λ xs. map cells_kept c.loop-place.columns.items ++ xs)
    (cells_step c.args.which k cs place role rows within c.role-role.ensures) in
    elim c.if-has.branch [
      | then-has w ↦
          let in_file : is_in_file c.args.which role ≡ true = sym c.has.ensures ∙ w.if-has.true in
          let rest = cells_from c.args.which (k + 1) (drop (place + 1) cs) rows in
          record {
            columns = rw (w.k-is, more) (
                step
                ∙ ap (λ b. map cells_kept c.loop-place.columns.items ++ cells_of role k rows ∷ cells_from c.args.which (cond b (k + 1) k)
                (drop (place + 1) cs) rows) in_file
                ∙ sym (append_assoc (map cells_kept c.loop-place.columns.items) (cells_of role k rows ∷ []) rest)
                );
            roles =
                rw w.k-is (drop_tail (roles_of (file_columns c.args.which cs)) k role _
                (c.loop-place.invariant.roles ∙ roles_with c.args.which cs place role within c.role-role.ensures in_file));
            at_most = omega (arith, w.k-is, c.loop-place.invariant.at_most);
          }
      | else-has w ↦
          let not_in_file : is_in_file c.args.which role ≡ false = sym c.has.ensures ∙ w.if-has.false in
          let rest = cells_from c.args.which k (drop (place + 1) cs) rows in
          record {
            columns = rw (w.k-is, more) (
                step
                ∙ ap
                (λ b. map cells_kept c.loop-place.columns.items ++ cells_of role k rows ∷ cells_from c.args.which (cond b (k + 1) k)
                (drop (place + 1) cs) rows) not_in_file
                ∙ sym (append_assoc (map cells_kept c.loop-place.columns.items) (cells_of role k rows ∷ []) rest)
                );
            roles = rw w.k-is (c.loop-place.invariant.roles ∙ ap roles_of (columns_without c.args.which cs place role within c.role-role.ensures not_in_file));
            at_most = omega (arith, w.k-is, c.loop-place.invariant.at_most);
          }
    ]
