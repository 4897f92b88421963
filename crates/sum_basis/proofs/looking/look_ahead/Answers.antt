use Rattle.std.proofs.Common.{◌≡◌, ℕ, ◌*◌, ◌≤◌, ℤ, pos, List, get_or, refl, sym, ap, ◌∙◌, subst, arith, rules}
use Rattle.std.specs.Prelude.{FitsSigned, unsigned_abs, ◌*ℤ◌, ◌<ℤ◌, ◌≤ℤ◌}
use Rattle.std.specs.Int.{w128}
use Rattle.std.proofs.lemmas.Int.{ints, to_z-of_z, unsigned_abs-mul}
use Rattle.sum_basis.specs.declared.sparse.FreeEntry.{FreeEntry}
use Rattle.sum_basis.specs.Sparse.{IsNew}
use Rattle.sum_basis.proofs.MergedNumbers.{passed}
use Rattle.sum_basis.proofs.ListContents.{none}
use Rattle.sum_basis.proofs.ClearedLists.{is_led, positive_times}
use Rattle.sum_basis.proofs.looking.look_ahead.Goals as goal
use Rattle.audit_types.specs.Numbers.{size_positive}
use Rattle.sum_basis.proofs.LeastMultiples.{positive_size}

pub product-requires-clause-x : goal.product-requires-clause-x
product-requires-clause-x c =
    let fits : FitsSigned w128 c.number.result = search rules in
    rw (passed c.number.result (get_or c.args.new.now 0 none).value fits c.number.ensures)
    (is_led c.args.columns c.args.new.now c.requires.new).small

pub product-requires-clause-y : goal.product-requires-clause-y
product-requires-clause-y c =
    rw (to_z-of_z w128 c.args.common c.ranges.common) (let within = c.requires.within in let fits = c.requires.width.1 in omega arith)

-- a product of positive numbers within the width
within_limit : (n width : ℕ) (new : List FreeEntry) (by common x y p : ℤ) → IsNew n new → by ≡ (get_or new 0 none).value → x ≡ by → y ≡ common →
    pos 0 <ℤ common →
    p ≡ x *ℤ y → p ≤ℤ pos width → unsigned_abs (get_or new 0 none).value * unsigned_abs common ≤ width
within_limit n width new by common x y p is_new e f g positive is most =
    let led = is_led n new is_new in
    let leads : pos 0 <ℤ (get_or new 0 none).value = subst (λ z. pos 0 <ℤ z) led.pivot_entry_is is_new.primitive.leading in
    let above = positive_times (get_or new 0 none).value common leads positive in
    let same : p ≡ (get_or new 0 none).value *ℤ common = is ∙ ap (λ z. z *ℤ y) (f ∙ e) ∙ ap (λ z. (get_or new 0 none).value *ℤ z) g in
    let size = positive_size ((get_or new 0 none).value *ℤ common) above in
    rw (sym (unsigned_abs-mul (get_or new 0 none).value common)) (omega (arith, ints))

pub look_by_bounds-requires-clause-multiple : goal.look_by_bounds-requires-clause-multiple
look_by_bounds-requires-clause-multiple c =
    let fits : FitsSigned w128 c.number.result = search rules in
    let product : FitsSigned w128 c.product.result = search rules in
    let is = to_z-of_z w128 c.product.result product in
    let most : c.product.result ≤ℤ pos c.args.width = omega (arith, ints) in (
      unsigned_abs c.args.common,
      c.requires.multiple.multiple,
      size_positive c.args.common c.requires.positive,
      within_limit c.args.columns c.args.width c.args.new.now _ c.args.common _ _ c.product.result c.requires.new refl
          (passed c.number.result (get_or c.args.new.now 0 none).value fits c.number.ensures)
          (to_z-of_z w128 c.args.common c.ranges.common) c.requires.positive c.product.ensures.exact most,
    )
