use Rattle.std.proofs.Common.{◌≡◌, ap, ◌∙◌, sym, subst}
use Rattle.audit_types.specs.Rows.{Rows, union, rows_that}
use Rattle.audit_types.specs.Words.{AreWords, has_bit, rows_of_set}
use Rattle.audit_types.specs.WordLaws.{AreWords-or, rows-or}
use Rattle.audit_types.proofs.rows.RowSet.or_with.Goals as goal

same_n : (c : goal.After-or_words) → c.other.inside.n ≡ c.self.inside.n
same_n c = ap (λ (s : Rows). s.n) c.other.view_is ∙ c.requires ∙ sym (ap (λ (s : Rows). s.n) c.self.view_is)

others : (c : goal.After-or_words) → AreWords c.self.inside.n c.other.inside.words
others c = subst (λ m. AreWords m c.other.inside.words) (same_n c) c.other.invariant

pub invariant_of-self : goal.invariant_of-self
invariant_of-self c =
    AreWords-or c.self.inside.words c.other.inside.words c.or_words.new.words c.self.inside.n c.self.invariant
    (others c) c.or_words.ensures.words_are c.or_words.ensures.either

pub returns-clause-either : goal.returns-clause-either
returns-clause-either c =
    rows-or c.self.inside.words c.other.inside.words c.or_words.new.words c.self.inside.n c.self.invariant
    (others c) c.or_words.ensures.words_are c.or_words.ensures.either
    ∙ ap (λ m. union c.self.inside.n (rows_that (has_bit c.self.inside.words) c.self.inside.n) (rows_that (has_bit c.other.inside.words) m)) (sym (same_n c))
    ∙ ap (λ (s : Rows). union s.n s.list (rows_of_set c.other.inside).list) c.self.view_is
    ∙ ap (λ (s : Rows). union c.args.self.now.n c.args.self.now.list s.list) c.other.view_is
