use Rattle.std.proofs.Common.{◌-◌, length, take, drop, sym, ◌∙◌}
use Rattle.sum_basis.specs.Reach.{rest_at}
use Rattle.sum_basis.specs.Sparse.{entry_at}
use Rattle.sum_basis.proofs.SmallEntries.{rest_taken}
use Rattle.sum_basis.proofs.Tallies.{near_alike}
use Rattle.sum_basis.proofs.reach.is_new_near.Goals as goal

pub returns : goal.returns
returns c =
    let new = c.args.new.now in (
      λ yes own. near_alike c.args.counts.now c.args.reach (entry_at (take (length new - 1) (drop 1 new))) (rest_at new) (λ j e. sym (rest_taken new j) ∙ e)
          (λ j e. rest_taken new j ∙ e)
          (c.is_near.ensures.0 yes),
      λ near. c.is_near.ensures.1
          (near_alike c.args.counts.now c.args.reach (rest_at new) (entry_at (take (length new - 1) (drop 1 new))) (λ j e. rest_taken new j ∙ e)
          (λ j e. sym (rest_taken new j) ∙ e)
          (near (sym c.has.ensures ∙ c.if-has.false))),
    )
