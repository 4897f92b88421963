use Rattle.std.proofs.Common.{◌+◌, get_or, sym, ap, ◌∙◌, arith, rules}
use Rattle.std.specs.Prelude.{FitsSigned}
use Rattle.std.specs.Int.{w128}
use mir.Val.{of_z}
use Rattle.std.proofs.lemmas.Int.{to_z-of_z}
use Rattle.int_rows.specs.PrimitiveLaws.{zero_from_bits}
use Rattle.sum_basis.specs.Sparse.{entry_at}
use Rattle.sum_basis.proofs.SparseRows.{listed_from, listed_to}
use Rattle.sum_basis.proofs.ListContents.{none}
use Rattle.sum_basis.proofs.KeptRows.{stands_earlier, cleared_as_it_is}
use Rattle.sum_basis.proofs.growth.clear.Goals as goal

pub value_at-times-requires : goal.value_at-times-requires
value_at-times-requires c =
    let fits = c.ranges.columns.fits in
    rw c.deref.ensures.value
    (listed_to 0 c.args.columns 65536 c.args.row.now.free.items (omega arith)
    (listed_from (c.args.row.now.pivot + 1) 0 c.args.columns c.args.row.now.free.items (omega arith) c.requires.kept.listed.3))

pub returns-then-times-eq0-clause-cleared : goal.returns-then-times-eq0-clause-cleared
returns-then-times-eq0-clause-cleared c =
    let times : FitsSigned w128 c.value_at-times.result = search rules in
    let nothing = sym c.value_at-times.ensures ∙ zero_from_bits c.value_at-times.result times c.if-times-eq0.true in
    cleared_as_it_is c.args.columns c.args.row.now c.args.new.now c.requires.kept c.requires.new c.requires.zero c.requires.primitive
    (ap (λ l. entry_at l (get_or c.args.new.now 0 none).place) (sym c.deref.ensures.value) ∙ nothing)

pub clear_in_place-requires-clause-before : goal.clear_in_place-requires-clause-before
clear_in_place-requires-clause-before c =
    stands_earlier c.args.columns c.args.row.now c.args.new.now c.requires.kept c.requires.new
    (λ z. c.if-times-eq0.false (ap (of_z w128) (c.value_at-times.ensures ∙ ap (λ l. entry_at l (get_or c.args.new.now 0 none).place) c.deref.ensures.value
    ∙ z)))

pub clear_anew-requires-clause-before : goal.clear_anew-requires-clause-before
clear_anew-requires-clause-before c =
    stands_earlier c.args.columns c.args.row.now c.args.new.now c.requires.kept c.requires.new
    (λ z. c.if-times-eq0.false (ap (of_z w128) (c.value_at-times.ensures ∙ ap (λ l. entry_at l (get_or c.args.new.now 0 none).place) c.deref.ensures.value
    ∙ z)))

pub clear_in_place-requires-clause-times : goal.clear_in_place-requires-clause-times
clear_in_place-requires-clause-times c =
    let times : FitsSigned w128 c.value_at-times.result = search rules in
    to_z-of_z w128 c.value_at-times.result times ∙ c.value_at-times.ensures
    ∙ ap (λ l. entry_at l (get_or c.args.new.now 0 none).place) c.deref.ensures.value

pub clear_in_place-requires-clause-some : goal.clear_in_place-requires-clause-some
clear_in_place-requires-clause-some c =
    let times : FitsSigned w128 c.value_at-times.result = search rules in
    λ z. c.if-times-eq0.false (ap (of_z w128) (sym (to_z-of_z w128 c.value_at-times.result times) ∙ z))

pub clear_anew-requires-clause-times : goal.clear_anew-requires-clause-times
clear_anew-requires-clause-times c =
    let times : FitsSigned w128 c.value_at-times.result = search rules in
    to_z-of_z w128 c.value_at-times.result times ∙ c.value_at-times.ensures
    ∙ ap (λ l. entry_at l (get_or c.args.new.now 0 none).place) c.deref.ensures.value

pub clear_anew-requires-clause-some : goal.clear_anew-requires-clause-some
clear_anew-requires-clause-some c =
    let times : FitsSigned w128 c.value_at-times.result = search rules in
    λ z. c.if-times-eq0.false (ap (of_z w128) (sym (to_z-of_z w128 c.value_at-times.result times) ∙ z))

pub clear_in_place-requires-clause-ones : goal.clear_in_place-requires-clause-ones
clear_in_place-requires-clause-ones c = c.changes_few.ensures c.if-changes_few.true
