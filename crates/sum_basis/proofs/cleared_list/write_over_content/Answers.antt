use Rattle.std.proofs.Common.{ℕ, ℤ, ◌^◌, ◌∷◌, ◌++◌, pos, List, map, length, sym, ap, ◌∙◌, subst, arith, rules}
use Rattle.std.specs.Prelude.{FitsSigned, ◌*ℤ◌, unsigned_abs, int_div}
use Rattle.std.specs.Int.{◌∣◌, w128}
use mir.Val.{to_z, of_z}
use Rattle.std.proofs.lemmas.Int.{ints, to_z-of_z}
use Rattle.audit_types.specs.Form.{IsContent}
use Rattle.audit_types.specs.ListLaws.{all-unmap}
use Rattle.int_rows.specs.Exact.{exact}
use Rattle.sum_basis.specs.declared.sparse.FreeEntry.{FreeEntry}
use Rattle.sum_basis.specs.Sparse.{scaled}
use Rattle.sum_basis.proofs.ListContents.{values, over_content}
use Rattle.sum_basis.proofs.WithinLimit.{over, over_is, is_over, were_within}
use Rattle.sum_basis.proofs.cleared_list.write_over_content.Goals as goal

-- the content, of the pivot entry as it was passed
content_of : (head : ℤ) (d : ℕ) (items : List FreeEntry) → FitsSigned w128 head → IsContent (to_z w128 (of_z w128 head) ∷ values items) d →
    IsContent (head ∷ values items) d
content_of head d items fits content = subst (λ (h : ℤ). IsContent (h ∷ values items) d) (to_z-of_z w128 head fits) content

pub append_quotients-requires-clause-room : goal.append_quotients-requires-clause-room
append_quotients-requires-clause-room c =
    let none = ap length c.requires.empty in let len = c.args.out.now.ok.0 in let room = c.requires.room in omega arith

pub append_quotients-requires-clause-divides : goal.append_quotients-requires-clause-divides
append_quotients-requires-clause-divides c =
    all-unmap (λ (e : FreeEntry). e.value) (λ x. c.content-divisor.result ∣ unsigned_abs x) c.args.entries.now c.content-divisor.ensures.content.divides.1

pub append_quotients-requires-clause-small : goal.append_quotients-requires-clause-small
append_quotients-requires-clause-small c =
    let g = c.content-divisor.result in
    let es = c.args.entries.now in
    let head = c.args.head in
    let content = content_of head g es c.ranges.head c.content-divisor.ensures.content in
    let e = exact head (pos g) content.divides.0 in
    were_within (2 ^ 56) g es (over g es)
    (over_is g es (all-unmap (λ (x : FreeEntry). x.value) (λ x. g ∣ unsigned_abs x) es content.divides.1))
    (c.requires.small (int_div head (pos g)) (over g es) (is_over head (int_div head (pos g)) es g c.content-divisor.ensures.positive content e))

pub quotient-requires-clause-divides : goal.quotient-requires-clause-divides
quotient-requires-clause-divides c = c.content-divisor.ensures.content.divides.0

pub returns-clause-over : goal.returns-clause-over
returns-clause-over c =
    let g = c.content-divisor.result in
    let q : FitsSigned w128 c.quotient.result = search rules in
    let content = content_of c.args.head g c.args.entries.now c.ranges.head c.content-divisor.ensures.content in
    over_content (pos g) c.args.head _ c.args.entries.now c.append_quotients.new.out.items
    (let some = c.content-divisor.ensures.positive in omega (arith, ints)) content
    (sym (to_z-of_z w128 c.args.head c.ranges.head) ∙ c.quotient.ensures ∙ ap (λ z. pos g *ℤ z) (sym (to_z-of_z w128 c.quotient.result q)))
    (ap (λ l. map (scaled (pos g)) l ++ c.args.entries.now) (sym c.requires.empty) ∙ sym c.append_quotients.ensures.items)

pub returns-clause-capacity : goal.returns-clause-capacity
returns-clause-capacity c = c.append_quotients.ensures.capacity
