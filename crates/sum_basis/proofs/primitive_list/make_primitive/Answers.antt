use Rattle.std.proofs.Common.{◌≢◌, zero, suc, ◌<◌, ◌^◌, ℤ, pos, negsuc, ◌≤◌, length, get_or, refl, sym, ap, ◌∙◌, subst, arith, rules}
use Rattle.std.specs.Prelude.{FitsSigned, unsigned_abs, ◌<ℤ◌, ◌≤ℤ◌}
use Rattle.std.specs.Int.{w128}
use Rattle.std.proofs.lemmas.Int.{ints, to_z-of_z}
use Rattle.sum_basis.proofs.MergedNumbers.{passed}
use Rattle.sum_basis.proofs.ListContents.{none, entry_is}
use Rattle.sum_basis.proofs.PrimitiveLists.{no_greater, made_as_it_is, made_turned}
use Rattle.audit_types.specs.ListLaws.{all-get_or}
use Rattle.sum_basis.specs.declared.sparse.FreeEntry.{FreeEntry}
use Rattle.sum_basis.proofs.primitive_list.make_primitive.Goals as goal
use Rattle.audit_types.specs.Numbers.{positive_not_zero}

pub turn-requires : goal.turn-requires
turn-requires c =
    let over = c.over_content.ensures.over in
    no_greater over.by c.args.entries.now.items c.over_content.new.entries.items (2 ^ 126)
    (positive_not_zero over.by over.positive) over.entries_are c.requires.size

-- a number that is not 0 and not negative
above_zero : (z : ℤ) → z ≢ pos 0 → pos 0 ≤ℤ z → pos 0 <ℤ z
above_zero (pos zero) n h = absurd (n refl)
above_zero (pos (suc m)) n h = omega (arith, ints)
above_zero (negsuc m) n h = absurd (omega (arith, ints))

pub returns-then-first-lt0-clause-made : goal.returns-then-first-lt0-clause-made
returns-then-first-lt0-clause-made c =
    let some : 0 < length c.args.entries.now.items = let len = c.args.entries.now.ok.0 in let some = c.requires.some in omega arith in
    let first : FitsSigned w128 c.value-first.result = search rules in
    let size : FitsSigned w128 c.size_of.result = search rules in
    let is = passed c.value-first.result c.index.result.now.value first c.value-first.ensures in
    let here = ap (λ e. e.value) (entry_is c.args.entries.now.items 0 c.index.result.now some c.index.ensures) in
    let low : c.index.result.now.value <ℤ pos 0 = omega (arith, ints) in
    made_turned c.args.entries.now.items c.over_content.new.entries.items _ _ c.over_content.ensures.over some
    (to_z-of_z w128 c.size_of.result size ∙ c.size_of.ensures ∙ ap (λ z. pos (unsigned_abs z)) (is ∙ sym here)) c.turn.new.entries.items c.turn.ensures.scaled
    (rw here low)

pub returns-else-first-lt0-clause-made : goal.returns-else-first-lt0-clause-made
returns-else-first-lt0-clause-made c =
    let some : 0 < length c.args.entries.now.items = let len = c.args.entries.now.ok.0 in let some = c.requires.some in omega arith in
    let first : FitsSigned w128 c.value-first.result = search rules in
    let size : FitsSigned w128 c.size_of.result = search rules in
    let is = passed c.value-first.result c.index.result.now.value first c.value-first.ensures in
    let here = ap (λ e. e.value) (entry_is c.args.entries.now.items 0 c.index.result.now some c.index.ensures) in
    let high : pos 0 ≤ℤ c.index.result.now.value = omega (arith, ints) in
    made_as_it_is c.args.entries.now.items c.over_content.new.entries.items _ _ c.over_content.ensures.over some
    (to_z-of_z w128 c.size_of.result size ∙ c.size_of.ensures ∙ ap (λ z. pos (unsigned_abs z)) (is ∙ sym here))
    (above_zero (get_or c.args.entries.now.items 0 none).value c.requires.first (rw here high))

pub index-requires : goal.index-requires
index-requires c = let len = c.args.entries.now.ok.0 in let some = c.requires.some in omega arith

pub size_of-requires : goal.size_of-requires
size_of-requires c =
    let some : 0 < length c.args.entries.now.items = let len = c.args.entries.now.ok.0 in let some = c.requires.some in omega arith in
    let first : FitsSigned w128 c.value-first.result = search rules in
    rw (passed c.value-first.result c.index.result.now.value first c.value-first.ensures)
    (subst (λ (e : FreeEntry). unsigned_abs e.value ≤ 2 ^ 126) (entry_is c.args.entries.now.items 0 c.index.result.now some c.index.ensures)
    (all-get_or (λ (e : FreeEntry). unsigned_abs e.value ≤ 2 ^ 126) c.args.entries.now.items 0 none c.requires.size some))
