use Rattle.std.proofs.Common.{◌<◌, ◌+◌, sym, ap, ◌∙◌, arith, length, drop, List, [], ◌∷◌, ◌++◌, append_assoc, append-nil}
use Rattle.std.proofs.Math.ListN.{drop_of_length-le}
use Rattle.schema_json.specs.declared.roles.Role.{Role}
use Rattle.table_load.specs.Reading.{file_columns, roles_of}
use Rattle.table_load.proofs.FileRoles.{few_roles, roles_with, columns_without}
use Rattle.table_load.proofs.layout.FileColumns.roles.Goals.{then-has+in_ok-push, else-has}
use Rattle.table_load.proofs.layout.FileColumns.roles.Goals as goal

pub loop-place-preserved : goal.loop-place-preserved
loop-place-preserved c =
    let cs = c.args.schema.now.columns in
    let role = c.role-role.result in
    let place = c.loop-place.place in
    let rest = roles_of (file_columns c.args.self (drop (place + 1) cs)) in
    let within : place < length cs = omega (arith, c.count-place-end.ensures.count) in
    elim c.if-has.branch [
      | then-has+in_ok-push w ↦
          rw (w.roles-is, w.in_ok-push.ensures.items) (
          c.loop-place.invariant
          ∙ ap (λ (rs : List Role). c.loop-place.roles.items ++ rs)
          (roles_with c.args.self cs place role within c.role-role.ensures (sym c.has.ensures ∙ w.if-has.true))
          ∙ sym (append_assoc c.loop-place.roles.items (role ∷ []) rest)
          )
      | else-has w ↦
          rw w.roles-is (
          c.loop-place.invariant
          ∙ ap (λ cols. c.loop-place.roles.items ++ roles_of cols)
          (columns_without c.args.self cs place role within c.role-role.ensures (sym c.has.ensures ∙ w.if-has.false))
          )
    ]

pub returns-in_err-push-clause-few : goal.returns-in_err-push-clause-few
returns-in_err-push-clause-few c = few_roles c.args.self c.args.schema.now.columns c.count-place-end.ensures.columns

pub returns-clause-few : goal.returns-clause-few
returns-clause-few c = few_roles c.args.self c.args.schema.now.columns c.count-place-end.ensures.columns

pub returns-clause-roles : goal.returns-clause-roles
returns-clause-roles c =
    let done = drop_of_length-le c.args.schema.now.columns {i = c.loop-place.place} (omega (arith, c.count-place-end.ensures.count)) in
    sym
    (c.loop-place.invariant
    ∙ ap (λ cols. c.loop-place.roles.items ++ roles_of (file_columns c.args.self cols)) done ∙ append-nil c.loop-place.roles.items)
