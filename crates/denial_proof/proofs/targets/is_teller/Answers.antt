use Rattle.std.proofs.Common.{◌≡◌, ℕ, ◌<◌, List, [], ◌∷◌, sym, ap, ◌∙◌, subst}
use Rattle.std.proofs.lemmas.Bool.{true≢false}
use Rattle.audit_types.specs.Rows.{complement}
use Rattle.sum_basis.specs.Asking.{SpansBeside}
use Rattle.denial_proof.proofs.FirstTargets.{ok_same, only_teller, spans_by_teller}
use Rattle.denial_proof.proofs.targets.is_teller.Goals as goal

pub returns-then-has : goal.returns-then-has
returns-then-has c = (λ yes. absurd (true≢false (sym yes)), λ teller. absurd (true≢false (sym c.if-has.true ∙ c.has.ensures ∙ teller.single)))

pub returns : goal.returns
returns c =
    let form = c.args.basis.now in
    let several = c.args.several.now.list in
    let set = c.args.set.now.list in
    let q = c.args.own in
    let list : c.flip.new.self.list ≡ complement form.n (q ∷ [])
    = c.flip.ensures.others ∙ ap (λ (k : ℕ). complement k c.only_row-others.result.list) (c.only_row-others.ensures.n ∙ sym c.requires.n)
    ∙ ap (complement form.n) c.only_row-others.ensures.rows in
    ok_same
    (λ spans. only_teller form several set q (subst (λ k. q < k) (sym c.requires.n) c.requires.own) (sym c.has.ensures ∙ c.if-has.false)
    (subst (λ (l : List ℕ). SpansBeside form l set) list spans))
    (λ teller. subst (λ (l : List ℕ). SpansBeside form l set) (sym list) (spans_by_teller form several set q teller))
    c.spans_beside.result c.spans_beside.ensures
