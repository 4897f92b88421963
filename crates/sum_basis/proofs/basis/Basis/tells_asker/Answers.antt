use Rattle.std.proofs.Common.{map, inl, inr, refl, sym, ◌∙◌, subst}
use Rattle.std.specs.Prelude.{◌↔◌, IsTrue}
use Rattle.std.proofs.lemmas.Bool.{true≢false}
use Rattle.std.proofs.lemmas.Result.{IfOk-weaker}
use Rattle.audit_types.specs.Rows.{Rows}
use Rattle.sum_basis.specs.Basis.{Echelon}
use Rattle.sum_basis.specs.Elimination.{IsSmallForm}
use Rattle.sum_basis.specs.Asking.{SpansOneBeside, TellsAsker}
use Rattle.sum_basis.proofs.basis.Basis.tells_asker.Goals as goal

pub returns-then-shows_tie_but : goal.returns-then-shows_tie_but
returns-then-shows_tie_but c =
    let e = c.args.self.now in
    let f = subst (λ (e : Echelon). IsSmallForm e.n e.rows) c.form.ensures c.columns.ensures.form in (
      λ yes. inl ((c.ties_but.ensures e.n c.args.beside.now.list c.args.several.now.list e.rows f.primitive f.echelon).1
          (c.shows_tie_but.ensures.0 c.if-shows_tie_but.true)),
      λ any. refl,
    )

pub returns : goal.returns
returns c =
    let e = c.args.self.now in
    let beside = c.args.beside.now.list in
    let several = c.args.several.now.list in
    let sets = map (λ (s : Rows). s.list) c.args.apart.now in
    let f = subst (λ (e : Echelon). IsSmallForm e.n e.rows) c.form.ensures c.columns.ensures.form in
    IfOk-weaker c.spans_one_beside.result (λ told. IsTrue told ↔ SpansOneBeside e several sets) (λ told. IsTrue told ↔ TellsAsker e beside several sets)
    (λ told is. (
      λ yes. inr (is.0 yes),
      λ tells. elim tells [
        | inl tie ↦ absurd (true≢false (sym (c.shows_tie_but.ensures.1 ((c.ties_but.ensures e.n beside several e.rows f.primitive f.echelon).0 tie))
            ∙ c.if-shows_tie_but.false))
        | inr one ↦ is.1 one
      ],
    )) c.spans_one_beside.ensures
