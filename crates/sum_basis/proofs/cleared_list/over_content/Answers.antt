use Rattle.std.proofs.Common.{◌≡◌, ℕ, ℤ, ◌∷◌, pos, List, sym, ap, ◌∙◌, subst, arith, rules}
use Rattle.std.specs.Prelude.{FitsSigned, ◌*ℤ◌, unsigned_abs}
use Rattle.std.specs.Int.{◌∣◌, w128}
use mir.Val.{to_z, of_z}
use Rattle.std.proofs.lemmas.Int.{ints, to_z-of_z}
use Rattle.audit_types.specs.Form.{IsContent}
use Rattle.audit_types.specs.ListLaws.{all-unmap}
use Rattle.sum_basis.specs.declared.sparse.FreeEntry.{FreeEntry}
use Rattle.sum_basis.proofs.ListContents.{values, over_one, over_content}
use Rattle.sum_basis.proofs.cleared_list.over_content.Goals as goal

-- the content of the list as it was passed
content_of : (head : ℤ) (d : ℕ) (list items : List FreeEntry) → FitsSigned w128 head → list ≡ items → IsContent (to_z w128 (of_z w128 head) ∷ values list) d →
    IsContent (head ∷ values items) d
content_of head d list items fits e content =
    subst (λ l. IsContent (head ∷ values l) d) e (subst (λ (h : ℤ). IsContent (h ∷ values list) d) (to_z-of_z w128 head fits) content)

pub returns-then-is_one-clause-over : goal.returns-then-is_one-clause-over
returns-then-is_one-clause-over c =
    let content = content_of c.args.head c.content-divisor.result c.deref.result.now c.args.entries.now.items c.ranges.head c.deref.ensures.value
    c.content-divisor.ensures.content in
    rw (to_z-of_z w128 c.args.head c.ranges.head)
    (over_one c.args.head c.args.entries.now.items (subst (IsContent (c.args.head ∷ values c.args.entries.now.items))
    (c.is_one.ensures.0 c.if-is_one.true) content))

pub divide-requires-clause-divides : goal.divide-requires-clause-divides
divide-requires-clause-divides c =
    let content = content_of c.args.head c.content-divisor.result c.deref.result.now c.args.entries.now.items c.ranges.head c.deref.ensures.value
    c.content-divisor.ensures.content in
    all-unmap (λ (e : FreeEntry). e.value) (λ x. c.content-divisor.result ∣ unsigned_abs x) c.args.entries.now.items content.divides.1

pub quotient-requires-clause-divides : goal.quotient-requires-clause-divides
quotient-requires-clause-divides c =
    let content = content_of c.args.head c.content-divisor.result c.deref.result.now c.args.entries.now.items c.ranges.head c.deref.ensures.value
    c.content-divisor.ensures.content in
    rw (to_z-of_z w128 c.args.head c.ranges.head) content.divides.0

pub returns-clause-over : goal.returns-clause-over
returns-clause-over c =
    let q : FitsSigned w128 c.quotient.result = search rules in
    let content = content_of c.args.head c.content-divisor.result c.deref.result.now c.args.entries.now.items c.ranges.head c.deref.ensures.value
    c.content-divisor.ensures.content in
    over_content (pos c.content-divisor.result) c.args.head _ c.args.entries.now.items c.divide.new.entries.items
    (let some = c.content-divisor.ensures.positive in omega (arith, ints)) content
    (sym (to_z-of_z w128 c.args.head c.ranges.head) ∙ c.quotient.ensures
    ∙ ap (λ z. pos c.content-divisor.result *ℤ z) (sym (to_z-of_z w128 c.quotient.result q)))
    c.divide.ensures.scaled
