use Rattle.std.proofs.Common.{◌≡◌, ◌<◌, ◌+◌, ◌∷◌, ◌++◌, [], map, drop, length, sym, ap, ◌∙◌, arith, true, false, cond, append_assoc, Vec, Global, ℤ}
use Rattle.std.proofs.lemmas.List.{map-append}
use Rattle.csv.specs.Records.{fields_of}
use Rattle.schema_json.specs.Columns.{is_secret}
use Rattle.table_load.specs.Reading.{roles_of}
use Rattle.table_load.specs.Tables.{kept_as, number_column, secrets_from}
use Rattle.table_load.proofs.GoodCells.{records_hold}
use Rattle.table_load.proofs.ColumnSteps.{secrets_step, role_of_all}
use Rattle.table_load.proofs.columns.secret_lists.Goals.{then-is_secret+in_ok-number_column+in_ok-push, else-is_secret}
use Rattle.table_load.proofs.columns.secret_lists.Goals as goal

pub number_column-requires-clause-cells : goal.number_column-requires-clause-cells
number_column-requires-clause-cells c =
    let cs = c.args.schema.now.columns in
    let within : c.loop-place.place < length cs = omega (arith, c.count-place-end.ensures.count) in
    records_hold _ 2 (map fields_of c.args.rows.now) c.loop-place.place c.role-role.result (roles_of (drop (c.loop-place.place + 1) cs)) c.requires
    (role_of_all cs c.loop-place.place c.role-role.result within c.role-role.ensures)

pub loop-place-preserved : goal.loop-place-preserved
loop-place-preserved c =
    let cs = c.args.schema.now.columns in
    let rows = map fields_of c.args.rows.now in
    let role = c.role-role.result in
    let place = c.loop-place.place in
    let old = map (λ (v : Vec ℤ Global). v.items) c.loop-place.lists.items in
    let rest = secrets_from (place + 1) (drop (place + 1) cs) rows in
    let within : place < length cs = omega (arith, c.count-place-end.ensures.count) in
    let step = c.loop-place.invariant ∙ ap (λ xs. old ++ xs) (secrets_step place cs place role rows within c.role-role.ensures) in
    elim c.if-is_secret.branch [
      | then-is_secret+in_ok-number_column+in_ok-push w ↦
          let secret : is_secret role ≡ true = sym c.is_secret.ensures ∙ w.if-is_secret.true in
          let items = w.in_ok-push.ensures.items in
          let more : map (λ (v : Vec ℤ Global). v.items) w.push.new.self.items ≡ old ++ kept_as role (number_column place rows) ∷ [] =
          ap (map (λ (v : Vec ℤ Global). v.items)) items ∙ map-append (λ (v : Vec ℤ Global). v.items) c.loop-place.lists.items
          (w.in_ok-number_column.field-0 ∷ [])
          ∙ ap (λ x. old ++ x ∷ []) w.in_ok-number_column.ensures in
          rw (w.lists-is, more) (
          step
          ∙ ap (λ b. old ++ cond b (kept_as role (number_column place rows) ∷ rest) rest) secret
          ∙ sym (append_assoc old (kept_as role (number_column place rows) ∷ []) rest)
          )
      | else-is_secret w ↦
          let public : is_secret role ≡ false = sym c.is_secret.ensures ∙ w.if-is_secret.false in
          rw w.lists-is (step ∙ ap (λ b. old ++ cond b (kept_as role (number_column place rows) ∷ rest) rest) public)
    ]
