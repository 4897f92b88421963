use Rattle.std.proofs.Common.{length, refl, sym, ◌∙◌, arith}
use Rattle.std.proofs.lemmas.Bool.{false≢true, eq-eqb}
use Rattle.sum_basis.proofs.ListContents.{none}
use Rattle.sum_basis.proofs.SparseRows.{stands_within}
use Rattle.sum_basis.proofs.Tallies.{near_entry, not_near}
use Rattle.sum_basis.proofs.reach.is_near.Goals as goal

pub bounds-counts-e : goal.bounds-counts-e
bounds-counts-e c = (stands_within 0 (length c.args.counts.now) c.args.entries.now c.loop-e.e-index none c.requires c.loop-e-test.true).inside

pub returns-then-counts-e : goal.returns-then-counts-e
returns-then-counts-e c = (
  λ yes. near_entry (length c.args.counts.now) c.args.counts.now c.args.reach c.args.entries.now c.loop-e.e-index none c.requires c.loop-e-test.true
      c.if-counts-e.true,
  λ near. refl,
)

pub returns : goal.returns
returns c = (
  λ yes. absurd (false≢true yes),
  λ near. absurd (not_near (length c.args.counts.now) c.args.counts.now c.args.reach c.args.entries.now none c.requires
      (λ e. false≢true (sym c.if-is_empty.false ∙ c.is_empty.ensures ∙ eq-eqb (length c.args.entries.now) 0 e))
      (λ k l. c.loop-e.invariant k (let ends = c.loop-e-test.false in omega arith)) near),
)
