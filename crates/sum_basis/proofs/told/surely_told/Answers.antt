use Rattle.std.proofs.Common.{ℕ, length, sym, ap, ◌∙◌, subst}
use Rattle.sum_basis.specs.Reach.{AreSmallEntries}
use Rattle.sum_basis.proofs.SmallEntries.{new_small}
use Rattle.sum_basis.proofs.told.surely_told.Goals as goal

pub new_point-new-requires : goal.new_point-new-requires
new_point-new-requires c =
    subst (λ (n : ℕ). AreSmallEntries n c.args.list.now) (sym (ap length c.deref.ensures.value ∙ c.requires.kept.weights.one_each))
    (new_small c.args.form.now c.args.list.now c.requires.list)
