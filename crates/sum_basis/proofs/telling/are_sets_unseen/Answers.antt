use Rattle.std.proofs.Common.{ℕ, get_or, refl, sym, ap, ◌∙◌, subst, inl, inr, arith}
use Rattle.std.proofs.lemmas.Bool.{cases_eq}
use Rattle.std.proofs.lemmas.List.{get_or_default}
use Rattle.sum_basis.specs.Keys.{HasUnseenKey}
use Rattle.sum_basis.specs.declared.keeping.KeptSet.{KeptSet}
use Rattle.sum_basis.proofs.telling.are_sets_unseen.Goals as goal

pub loop-set-preserved : goal.loop-set-preserved
loop-set-preserved c = λ k d low below.
    let sets = c.args.sets.now in
    let own = c.set-item.result in
    elim (cases_eq k c.loop-set.set-index) [
      | inl same ↦
          subst (λ (s : KeptSet). HasUnseenKey c.args.form.now c.args.weights.now c.args.list.now c.args.seen.now s.rows.list)
          (c.set-item.is ∙ get_or_default sets c.loop-set.set-index own d c.loop-set-test.true ∙ ap (λ (i : ℕ). get_or sets i d) (sym same))
          (c.if-not-is_set_unseen.ensures refl)
      | inr other ↦ c.loop-set.invariant k d low (omega arith)
    ]
