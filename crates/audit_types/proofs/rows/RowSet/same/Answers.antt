use Rattle.std.proofs.Common.{◌≡◌, sym, ◌∙◌, ap, take}
use Rattle.std.proofs.lemmas.Slice.Eq.{slice_eq-Decides}
use Rattle.std.proofs.lemmas.Bool.Decides.{Decides-eqb}
use Rattle.audit_types.specs.Words.{set_of_rows, words_over}
use Rattle.audit_types.specs.WordLaws.{words-rows, same_by_used}
use Rattle.audit_types.specs.declared.rows.RowSet.TheInside.{Inside}
use Rattle.audit_types.proofs.rows.RowSet.same.Goals as goal

pub returns-then-self-other : goal.returns-then-self-other
returns-then-self-other c =
    let decides = slice_eq-Decides Decides-eqb c.used_words.result.now c.used_words-then-self-other.result.now c.eq.result c.eq.ensures in
    let one = c.used_words.ensures.first in
    let two = c.used_words-then-self-other.ensures.first in (
      λ yes. sym c.self.view_is
          ∙ same_by_used c.self.inside c.other.inside c.self.invariant c.other.invariant c.if-self-other.true (sym one ∙ decides.0 yes ∙ two)
          ∙ c.other.view_is,
      λ e.
          let inside : c.self.inside ≡ c.other.inside =
          sym (words-rows c.self.inside c.self.invariant) ∙ ap set_of_rows (c.self.view_is ∙ e ∙ sym c.other.view_is)
          ∙ words-rows c.other.inside c.other.invariant in
          decides.1 (one ∙ ap (λ (a : Inside). take (words_over a.n) a.words) inside ∙ sym two),
    )
