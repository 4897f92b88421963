use Rattle.std.proofs.Common.{◌≤◌, ◌^◌, ℤ, get_or, refl, sym, subst, rules}
use Rattle.std.specs.Prelude.{FitsSigned, unsigned_abs}
use Rattle.std.specs.Int.{w128}
use Rattle.std.proofs.lemmas.Int.{to_z-of_z}
use Rattle.sum_basis.proofs.MergedNumbers.{passed}
use Rattle.sum_basis.proofs.LeftLists.{cleared_is, left_entries_small}
use Rattle.sum_basis.proofs.ListContents.{none}
use Rattle.sum_basis.proofs.SmallEntries.{times_small}
use Rattle.sum_basis.proofs.alike.cleared_after.Goals as goal

pub combine_into-requires-clause-times : goal.combine_into-requires-clause-times
combine_into-requires-clause-times c =
    rw (to_z-of_z w128 c.args.times c.ranges.times) (subst (λ (z : ℤ). unsigned_abs z ≤ 2 ^ 56) (sym c.requires.times)
    (times_small c.args.columns c.args.new.now c.args.entries.now c.requires.entries))

pub returns-clause-small : goal.returns-clause-small
returns-clause-small c =
    let by = (get_or c.args.new.now 0 none).value in
    let fits : FitsSigned w128 c.number-by.result = search rules in
    left_entries_small c.args.columns c.args.new.now c.args.entries.now c.combine_into.new.out.items c.requires.new c.requires.entries
    c.combine_into.ensures.listed
    (cleared_is c.args.new.now c.args.entries.now c.combine_into.new.out.items by c.args.times none c.requires.times c.requires.some refl
    (rw (
      passed c.number-by.result
          (get_or c.args.new.now 0 none).value fits c.number-by.ensures,
      to_z-of_z w128 c.args.times c.ranges.times,
    ) at c.combine_into.ensures.combined))
