use Rattle.std.proofs.Common.{◌<◌, ◌≤◌, length, get_or, refl, sym, subst, ap, ◌∙◌, arith, inl, inr}
use Rattle.std.proofs.lemmas.Bool.{false≢true, eq-eqb, cases_eq}
use Rattle.sum_basis.specs.declared.sparse.FreeEntry.{FreeEntry}
use Rattle.sum_basis.proofs.ListContents.{none, entry_is}
use Rattle.sum_basis.proofs.SparseRows.{stands_within}
use Rattle.sum_basis.proofs.Tallies.{near_entry, not_near}
use Rattle.sum_basis.proofs.reach.is_combined_near.Goals as goal

pub bounds-counts-place : goal.bounds-counts-place
bounds-counts-place c =
    rw (c.place-place.ensures ∙ ap (λ (x : FreeEntry). x.place) (sym
    (entry_is c.args.entries.now c.loop-e.e-index c.e-item.result c.loop-e-test.true c.e-item.is)))
    (stands_within 0 (length c.args.counts.now) c.args.entries.now c.loop-e.e-index none c.requires c.loop-e-test.true).inside

pub returns-then-counts-place : goal.returns-then-counts-place
returns-then-counts-place c =
    let at = c.place-place.ensures
    ∙ ap (λ (x : FreeEntry). x.place) (sym (entry_is c.args.entries.now c.loop-e.e-index c.e-item.result c.loop-e-test.true c.e-item.is)) in (
      λ yes. near_entry (length c.args.counts.now) c.args.counts.now c.args.reach c.args.entries.now c.loop-e.e-index none c.requires c.loop-e-test.true
          (subst (λ p. get_or c.args.counts.now p 0 < c.args.reach) at c.if-counts-place.true),
      λ near. refl,
    )

pub loop-e-preserved : goal.loop-e-preserved
loop-e-preserved c = λ k l.
    let at = c.place-place.ensures
    ∙ ap (λ (x : FreeEntry). x.place) (sym (entry_is c.args.entries.now c.loop-e.e-index c.e-item.result c.loop-e-test.true c.e-item.is)) in
    elim (cases_eq k c.loop-e.e-index) [
      | inl same ↦
          subst (λ i. c.args.reach ≤ get_or c.args.counts.now (get_or c.args.entries.now i none).place 0) (sym same)
          (subst (λ p. c.args.reach ≤ get_or c.args.counts.now p 0) at c.if-counts-place.false)
      | inr other ↦ c.loop-e.invariant k (omega arith)
    ]

pub returns : goal.returns
returns c = (
  λ yes. absurd (false≢true yes),
  λ near. absurd (not_near (length c.args.counts.now) c.args.counts.now c.args.reach c.args.entries.now none c.requires
      (λ e. false≢true (sym c.if-is_empty.false ∙ c.is_empty.ensures ∙ eq-eqb (length c.args.entries.now) 0 e))
      (λ k l. c.loop-e.invariant k (let ends = c.loop-e-test.false in omega arith)) near),
)
