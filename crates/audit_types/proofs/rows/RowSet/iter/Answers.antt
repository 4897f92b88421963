use Rattle.std.proofs.Common.{ap, ◌∙◌}
use Rattle.audit_types.specs.Limits.{most_rows}
use Rattle.audit_types.specs.Rows.{Rows}
use Rattle.audit_types.specs.Words.{rows_of_words}
use Rattle.audit_types.specs.WordLaws.{rows-words, rows_used}
use Rattle.audit_types.proofs.rows.RowSet.iter.Goals as goal

pub returns : goal.returns
returns c =
    c.new.ensures
    ∙ ap rows_of_words c.used_words.ensures.first
    ∙ rows_used c.self.inside.n c.self.inside.words c.self.invariant most_rows
    ∙ rows-words c.self.inside.n c.self.inside.words c.self.invariant
    ∙ ap (λ (s : Rows). s.list) c.self.view_is
