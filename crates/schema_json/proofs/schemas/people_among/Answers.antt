use Rattle.std.proofs.Common.{sym, ◌∙◌}
use Rattle.schema_json.proofs.CountPlaces.{people_of_entry}
use Rattle.schema_json.proofs.schemas.people_among.Goals as goal

pub returns-in-Some : goal.returns-in-Some
returns-in-Some c = c.in-Some.ensures.place ∙ sym (people_of_entry c.args.columns.now)

pub returns-in-None : goal.returns-in-None
returns-in-None c = c.in-None.ensures.place ∙ sym (people_of_entry c.args.columns.now)
