use Rattle.std.proofs.Common.{ℕ, sym, subst}
use Rattle.sum_basis.specs.Reach.{AreSmallEntries}
use Rattle.sum_basis.proofs.SmallEntries.{new_small}
use Rattle.sum_basis.proofs.suspects.are_columns_alike.Goals as goal

pub are_alike-requires-clause-new : goal.are_alike-requires-clause-new
are_alike-requires-clause-new c =
    subst (λ (n : ℕ). AreSmallEntries n c.args.list.now) (sym c.columns-columns.ensures.columns)
    (new_small c.args.form.now c.args.list.now c.requires.list)
