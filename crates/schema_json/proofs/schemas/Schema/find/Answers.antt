use Rattle.std.proofs.Common.{sym, ap, ◌∙◌}
use Rattle.schema_json.specs.Columns.{place_of}
use Rattle.schema_json.proofs.RepeatedNames.{place_of_entry}
use Rattle.schema_json.proofs.schemas.Schema.find.Goals as goal

pub returns-in_err-place_among : goal.returns-in_err-place_among
returns-in_err-place_among c =
    c.from_residual.ensures ∙ rw c.deref.ensures.value at c.in_err-place_among.ensures.place
    ∙ sym (place_of_entry c.args.name.now c.self.inside.columns.items)
    ∙ ap (λ v. place_of c.args.name.now v.columns) c.self.view_is

pub returns : goal.returns
returns c =
    rw c.deref.ensures.value at c.in_ok-place_among.ensures.place
    ∙ sym (place_of_entry c.args.name.now c.self.inside.columns.items)
    ∙ ap (λ v. place_of c.args.name.now v.columns) c.self.view_is
