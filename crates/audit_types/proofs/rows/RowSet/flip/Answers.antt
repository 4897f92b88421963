use Rattle.std.proofs.Common.{ap, ◌∙◌}
use Rattle.audit_types.specs.Rows.{Rows, complement}
use Rattle.audit_types.specs.WordLaws.{AreWords-flip, rows-flip}
use Rattle.audit_types.proofs.rows.RowSet.flip.Goals as goal

pub invariant_of-self : goal.invariant_of-self
invariant_of-self c =
    AreWords-flip c.self.inside.words c.flip_words.new.words c.self.inside.n c.self.invariant c.flip_words.ensures.words_are c.flip_words.ensures.turned

pub returns-clause-others : goal.returns-clause-others
returns-clause-others c =
    rows-flip c.self.inside.words c.flip_words.new.words c.self.inside.n c.self.invariant c.flip_words.ensures.words_are c.flip_words.ensures.turned
    ∙ ap (λ (s : Rows). complement s.n s.list) c.self.view_is
