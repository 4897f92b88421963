use Rattle.std.proofs.Common.{ℕ, ℤ, Vec, Global, map, length, sym, ap, ◌∙◌, subst}
use Rattle.std.specs.List.{AllByRecursion}
use Rattle.std.proofs.lemmas.List.{length-map}
use Rattle.csv.specs.Records.{fields_of}
use Rattle.audit_types.specs.declared.shapes.Shape.{Shape}
use Rattle.table_load.specs.Cells.{AreNumbers}
use Rattle.table_load.specs.Tables.{secrets_from}
use Rattle.table_load.proofs.ColumnSteps.{all_secrets_are, all_roles_from, secrets_counted}
use Rattle.table_load.proofs.loading.secret_part.Goals as goal

pub new-requires-clause-one_each : goal.new-requires-clause-one_each
new-requires-clause-one_each c =
    sym (length-map c.in-Ok.lists.items (λ (v : Vec ℤ Global). v.items))
    ∙ ap length c.in-Ok.ensures
    ∙ secrets_counted 0 c.args.schema.now.columns (map fields_of c.args.rows.now)
    ∙ sym c.shape.ensures.secrets

pub new-requires-clause-numbers : goal.new-requires-clause-numbers
new-requires-clause-numbers c =
    let cs = c.args.schema.now.columns in
    let rows = map fields_of c.args.rows.now in
    let P : ℕ → Type 0 = λ n. AllByRecursion (AreNumbers n) (secrets_from 0 cs rows) in
    rw c.in-Ok.ensures
    (subst P (length-map c.args.rows.now fields_of ∙ sym (ap (λ (s : Shape). s.rows) c.shape.ensures.shape))
    (all_secrets_are _ rows 0 cs c.requires.good (all_roles_from 0 cs)))
