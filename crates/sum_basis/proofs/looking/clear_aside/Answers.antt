use Rattle.std.proofs.Common.{◌+◌, ◌∷◌, length, get_or, sym, ap, ◌∙◌, arith, rules}
use Rattle.std.specs.Prelude.{FitsSigned}
use Rattle.std.specs.Int.{w128}
use mir.Val.{of_z}
use Rattle.std.proofs.lemmas.Int.{to_z-of_z}
use Rattle.std.proofs.lemmas.List.{length-map}
use Rattle.int_rows.specs.PrimitiveLaws.{zero_from_bits}
use Rattle.sum_basis.specs.declared.sparse.FreeEntry.{FreeEntry}
use Rattle.sum_basis.specs.Sparse.{entry_at, row_of, entries_of, scaled}
use Rattle.sum_basis.proofs.Sizes.{within_more}
use Rattle.sum_basis.proofs.SparseRows.{listed_from, listed_to, pivot_entry-row_of, values_within, row_within}
use Rattle.sum_basis.proofs.ListContents.{none}
use Rattle.sum_basis.proofs.KeptRows.{stands_earlier, cleared_as_it_is, lone_by_length}
use Rattle.sum_basis.proofs.ClearedLists.{result_of_bits}
use Rattle.sum_basis.proofs.looking.clear_aside.Goals as goal

pub value_at-times-requires : goal.value_at-times-requires
value_at-times-requires c =
    let fits = c.ranges.columns.fits in
    rw c.deref.ensures.value
    (listed_to 0 c.args.columns 65536 c.args.row.now.free.items (omega arith)
    (listed_from (c.args.row.now.pivot + 1) 0 c.args.columns c.args.row.now.free.items (omega arith) c.requires.kept.listed.3))

pub returns-then-times-eq0-clause-cleared : goal.returns-then-times-eq0-clause-cleared
returns-then-times-eq0-clause-cleared c =
    let r = c.args.row.now in
    let n = c.args.columns in
    let head : FitsSigned w128 c.args.row.now.head = search rules in
    let times : FitsSigned w128 c.value_at-times.result = search rules in
    let nothing = sym c.value_at-times.ensures ∙ zero_from_bits c.value_at-times.result times c.if-times-eq0.true in (
      row_of n (entries_of r),
      cleared_as_it_is n r c.args.new.now c.requires.kept c.requires.new c.requires.zero c.requires.primitive
          (ap (λ l. entry_at l (get_or c.args.new.now 0 none).place) (sym c.deref.ensures.value) ∙ nothing),
      (
        c.requires.within,
        to_z-of_z w128 r.head head ∙ sym (pivot_entry-row_of 0 n (record { place = r.pivot; value = r.head }) r.free.items c.requires.kept.listed),
        lone_by_length n r.free.len
            (record { place = r.pivot; value = r.head }) r.free.items c.is_empty.result c.requires.kept.listed r.free.ok.0 c.is_empty.ensures,
      ),
    )

pub head_within-requires-clause-head : goal.head_within-requires-clause-head
head_within-requires-clause-head c =
    let combined : FitsSigned w128 c.combine_at_pivot-combined.result = search rules in
    rw (to_z-of_z w128 c.combine_at_pivot-combined.result combined) c.combine_at_pivot-combined.ensures.leading

pub returns-in_err-head-clause-cleared : goal.returns-in_err-head-clause-cleared
returns-in_err-head-clause-cleared c =
    let n = c.args.columns in
    let r = c.args.row.now in
    let found : FitsSigned w128 c.value_at-times.result = search rules in
    let combined : FitsSigned w128 c.combine_at_pivot-combined.result = search rules in
    let is = c.value_at-times.ensures ∙ ap (λ l. entry_at l (get_or c.args.new.now 0 none).place) c.deref.ensures.value in
    let before = stands_earlier n r c.args.new.now c.requires.kept c.requires.new (λ z. c.if-times-eq0.false (ap (of_z w128) (is ∙ z))) in
    let all = c.in_err-head.ensures.within in
    let made = result_of_bits n r c.args.new.now c.combine_at_pivot-combined.new.out.items c.deref-2.result.now all.1 c.value_at-times.result
    c.combine_at_pivot-combined.result all.0 found combined c.requires.kept c.requires.primitive c.requires.new before is
    c.combine_at_pivot-combined.ensures.listed c.combine_at_pivot-combined.ensures.combined c.combine_at_pivot-combined.ensures.head c.deref-2.ensures.value
    all.2 in
    let e : FreeEntry = record { place = r.pivot; value = all.0 } in (
      row_of n (e ∷ all.1),
      made.cleared,
      rw c.from_residual.ensures (λ within. all.3 (values_within c.args.width n (e ∷ all.1) made.listed within)),
    )

pub returns-clause-cleared : goal.returns-clause-cleared
returns-clause-cleared c =
    let n = c.args.columns in
    let r = c.args.row.now in
    let found : FitsSigned w128 c.value_at-times.result = search rules in
    let combined : FitsSigned w128 c.combine_at_pivot-combined.result = search rules in
    let head : FitsSigned w128 c.in_ok-head.head = search rules in
    let is = c.value_at-times.ensures ∙ ap (λ l. entry_at l (get_or c.args.new.now 0 none).place) c.deref.ensures.value in
    let before = stands_earlier n r c.args.new.now c.requires.kept c.requires.new (λ z. c.if-times-eq0.false (ap (of_z w128) (is ∙ z))) in
    let all = c.in_ok-head.ensures.within in
    let out = c.combine_at_pivot-combined.new.out in
    let made = result_of_bits n r c.args.new.now out.items c.deref-2.result.now all.1 c.value_at-times.result c.combine_at_pivot-combined.result all.0 found
    combined c.requires.kept c.requires.primitive c.requires.new before is
    c.combine_at_pivot-combined.ensures.listed c.combine_at_pivot-combined.ensures.combined c.combine_at_pivot-combined.ensures.head c.deref-2.ensures.value
    all.2 in
    let e : FreeEntry = record { place = r.pivot; value = all.0 } in
    let length_is = out.ok.0 ∙ ap length (sym c.deref-2.ensures.value ∙ all.2.entries_are) ∙ length-map all.1 (scaled all.2.by) in (
      row_of n (e ∷ all.1),
      made.cleared,
      (
        row_within c.args.width n (e ∷ all.1) made.listed (all.3.1, all.3.2),
        to_z-of_z w128 c.in_ok-head.head head ∙ all.3.0 ∙ sym (pivot_entry-row_of 0 n e all.1 made.listed),
        lone_by_length n out.len e all.1 c.is_empty-2.result made.listed length_is c.is_empty-2.ensures,
      ),
    )

pub combine_at_pivot-combined-requires-clause-small : goal.combine_at_pivot-combined-requires-clause-small
combine_at_pivot-combined-requires-clause-small c = within_more c.args.width _ _ c.requires.width.1 c.requires.within
