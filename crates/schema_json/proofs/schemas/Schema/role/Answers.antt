use Rattle.std.proofs.Common.{◌<◌, length, ap, arith, ◌∙◌}
use Rattle.std.proofs.lemmas.List.{length-map}
use Rattle.schema_json.specs.Columns.{role_at}
use Rattle.schema_json.specs.Kept.{column_of_entry}
use Rattle.schema_json.proofs.CountPlaces.{role_of_entry}
use Rattle.schema_json.proofs.schemas.Schema.role.Goals as goal

pub returns : goal.returns
returns c =
    let items = c.self.inside.columns.items in
    let below : c.args.place < length items = omega (arith, c.requires, ap (λ v. length v.columns) c.self.view_is, length-map items column_of_entry) in
    role_of_entry items c.args.place c.index.result.now below c.index.ensures ∙ ap (λ v. role_at v.columns c.args.place) c.self.view_is
