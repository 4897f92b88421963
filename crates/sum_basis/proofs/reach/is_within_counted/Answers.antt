use Rattle.std.proofs.Common.{ℕ, map, refl, sym, subst, arith}
use Rattle.audit_types.specs.Rows.{Rows}
use Rattle.sum_basis.specs.Sparse.{IsListed}
use Rattle.sum_basis.proofs.ListContents.{none}
use Rattle.sum_basis.proofs.Moving.{counts_few, surely_few}
use Rattle.sum_basis.proofs.Reaching.{all_few}
use Rattle.sum_basis.proofs.SmallEntries.{new_small}
use Rattle.sum_basis.proofs.WithinReach.{has_grown}
use Rattle.sum_basis.proofs.reach.is_within_counted.Goals as goal

pub are_surely_below-requires-clause-listed : goal.are_surely_below-requires-clause-listed
are_surely_below-requires-clause-listed c =
    subst (λ (n : ℕ). IsListed 0 n c.args.new.now) (sym c.requires.before.one_each) (new_small c.args.form.now c.args.new.now c.requires.new).0

pub are_surely_below-requires-clause-few : goal.are_surely_below-requires-clause-few
are_surely_below-requires-clause-few c = λ j.
    let few = counts_few c.args.form.now.n c.args.form.now.rows c.args.before.now c.requires.before j in
    omega (arith, c.rank.ensures.at_most, c.columns-columns.ensures.at_most)

pub returns-then-are_surely_below : goal.returns-then-are_surely_below
returns-then-are_surely_below c = λ grown is.
    let form = c.args.form.now in
    let new = c.args.new.now in
    let g = has_grown form new grown c.columns-columns.ensures.form c.requires.new is in (
      λ yes. all_few form.n form.rows new grown g c.args.reach c.args.shared.now.list (map (λ (s : Rows). s.list) c.args.sets.now)
          (λ j l e. surely_few form.n form.rows grown c.args.before.now c.args.reach c.requires.before
          (c.are_surely_below.ensures.below c.if-are_surely_below.true) j l e new none g (c.are_surely_below.ensures.with_new c.if-are_surely_below.true)),
      λ within. refl,
    )
