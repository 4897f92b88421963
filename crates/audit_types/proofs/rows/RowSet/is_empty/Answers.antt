use Rattle.std.proofs.Common.{sym, ap, ◌∙◌, length, inl, inr, arith}
use Rattle.std.proofs.lemmas.Bool.{cases_lt, eq-eqb, eqb-true}
use Rattle.audit_types.specs.Rows.{Rows}
use Rattle.audit_types.specs.WordLaws.{no_rows_used, zeros_used}
use Rattle.audit_types.proofs.rows.RowSet.is_empty.Goals as goal

pub returns : goal.returns
returns c =
    let used = c.used_words-words.result.now in
    let first = c.used_words-words.ensures.first in
    let rows = ap (λ (s : Rows). s.list) c.self.view_is in (
      λ yes. sym rows ∙ no_rows_used c.self.inside.n c.self.inside.words used c.self.invariant first
          (λ k l. c.first_word.ensures.none k (omega arith) (omega (arith, eqb-true c.first_word.result (length used) yes))),
      λ empty. eq-eqb c.first_word.result (length used) (elim (cases_lt c.first_word.result (length used)) [
        | inl l ↦ absurd (c.first_word.ensures.some l
            (zeros_used c.self.inside.n c.self.inside.words used c.self.invariant first (rows ∙ empty) c.first_word.result))
        | inr l ↦ omega (arith, c.first_word.ensures.at_most)
      ]),
    )
