use Rattle.std.proofs.Common.{◌≡◌, ℕ, ◌<◌, ◌^◌, get_or, length, rules, ap, ◌∙◌, sym, subst}
use Rattle.audit_types.specs.Rows.{Rows, intersection, rows_that}
use Rattle.audit_types.specs.Words.{AreWords, has_bit, rows_of_set, words_over}
use Rattle.audit_types.proofs.PackedSets.{are_shared, rows_shared}
use Rattle.audit_types.proofs.rows.RowSet.put_shared.Goals as goal

same_n : (c : goal.After-put_shared) → c.other.inside.n ≡ c.self.inside.n
same_n c = ap (λ (s : Rows). s.n) c.other.view_is ∙ c.requires.same_n ∙ sym (ap (λ (s : Rows). s.n) c.self.view_is)

others : (c : goal.After-put_shared) → AreWords c.self.inside.n c.other.inside.words
others c = subst (λ m. AreWords m c.other.inside.words) (same_n c) c.other.invariant

long : (c : goal.After-put_shared) → length c.args.words.now ≡ words_over c.self.inside.n
long c = c.requires.words ∙ ap (λ (s : Rows). words_over s.n) (sym c.self.view_is)

pub invariant_of-self : goal.invariant_of-self
invariant_of-self c =
    let ranges : (k : ℕ) → get_or c.put_shared.new.shared k 0 < 2 ^ 64 = λ k. search rules in
    are_shared c.self.inside.n c.args.words.now c.other.inside.words c.self.inside.words c.put_shared.new.shared (others c) c.self.invariant (long c)
    c.put_shared.ensures.both c.put_shared.ensures.after c.put_shared.ensures.words_are ranges

pub returns-clause-both : goal.returns-clause-both
returns-clause-both c =
    rows_shared c.self.inside.n c.args.words.now c.other.inside.words c.self.inside.words c.put_shared.new.shared (others c) c.self.invariant (long c)
    c.put_shared.ensures.both c.put_shared.ensures.after
    ∙ ap (λ m. intersection c.self.inside.n (rows_that (has_bit c.args.words.now) c.self.inside.n) (rows_that (has_bit c.other.inside.words) m))
    (sym (same_n c))
    ∙ ap (λ (s : Rows). intersection s.n (rows_that (has_bit c.args.words.now) s.n) (rows_of_set c.other.inside).list) c.self.view_is
    ∙ ap (λ (s : Rows). intersection c.args.self.now.n (rows_that (has_bit c.args.words.now) c.args.self.now.n) s.list) c.other.view_is
