use Rattle.std.proofs.Common.{◌≡◌, zero, suc, ℤ, pos, negsuc, List, [], ◌∷◌, ◌++◌, refl, ap, ◌∙◌, cond, arith}
use Rattle.std.specs.Int.{w128}
use Rattle.std.proofs.lemmas.Int.{to_z-of_z}
use mir.Val.{of_z}
use Rattle.audit_types.specs.Truth.{is_zero}
use Rattle.sum_basis.specs.declared.sparse.FreeEntry.{FreeEntry}
use Rattle.sum_basis.proofs.merging.put.Goals as goal

-- what a value that isn't 0 leaves
appended : (value : ℤ) (old added out : List FreeEntry) → (of_z w128 value ≡ 0 → ⊥) → out ≡ added → out ≡ cond (is_zero value) old added
appended (pos zero) old added out some is = absurd (some refl)
appended (pos (suc n)) old added out some is = is
appended (negsuc n) old added out some is = is

pub returns-then-value-ne0-clause-items : goal.returns-then-value-ne0-clause-items
returns-then-value-ne0-clause-items c =
    let old = c.args.out.now.items in
    let value = to_z-of_z w128 c.args.value c.ranges.value in
    appended c.args.value old _ _ (omega arith) (c.push_reserved.ensures.items ∙ ap (λ (e : FreeEntry). old ++ e ∷ []) c.new.ensures
    ∙ ap (λ v. old ++ record { place = c.args.place; value = v } ∷ []) value)
