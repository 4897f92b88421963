use Rattle.question_plan.proofs.LegalReplies.{replies_keep}
use Rattle.question_plan.proofs.laws.answered_lines.Goals as goal

pub returns : goal.returns
returns c = λ base history lines replies is legal are. replies_keep c.released_records.ensures c.secret_columns.ensures base is history lines replies legal are
