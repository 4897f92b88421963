use Rattle.std.proofs.Common.{◌≡◌, ap, ◌∙◌, sym, subst}
use Rattle.audit_types.specs.Rows.{Rows, intersection, rows_that}
use Rattle.audit_types.specs.Words.{AreWords, has_bit, rows_of_set}
use Rattle.audit_types.specs.WordLaws.{AreWords-and, rows-and}
use Rattle.audit_types.proofs.rows.RowSet.and_with.Goals as goal

same_n : (c : goal.After-and_words) → c.other.inside.n ≡ c.self.inside.n
same_n c = ap (λ (s : Rows). s.n) c.other.view_is ∙ c.requires ∙ sym (ap (λ (s : Rows). s.n) c.self.view_is)

others : (c : goal.After-and_words) → AreWords c.self.inside.n c.other.inside.words
others c = subst (λ m. AreWords m c.other.inside.words) (same_n c) c.other.invariant

pub invariant_of-self : goal.invariant_of-self
invariant_of-self c =
    AreWords-and c.self.inside.words c.other.inside.words c.and_words.new.words c.self.inside.n c.self.invariant
    (others c) c.and_words.ensures.words_are c.and_words.ensures.both

pub returns-clause-both : goal.returns-clause-both
returns-clause-both c =
    rows-and c.self.inside.words c.other.inside.words c.and_words.new.words c.self.inside.n c.self.invariant
    (others c) c.and_words.ensures.words_are c.and_words.ensures.both
    ∙ ap (λ m. intersection c.self.inside.n (rows_that (has_bit c.self.inside.words) c.self.inside.n) (rows_that (has_bit c.other.inside.words) m))
    (sym (same_n c))
    ∙ ap (λ (s : Rows). intersection s.n s.list (rows_of_set c.other.inside).list) c.self.view_is
    ∙ ap (λ (s : Rows). intersection c.args.self.now.n c.args.self.now.list s.list) c.other.view_is
