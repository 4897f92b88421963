use Rattle.std.proofs.Common.{◌≡◌, ℕ, ◌<◌, ◌≤◌, ◌^◌, ◌∷◌, ℤ, pos, List, refl, sym, ap, ◌∙◌, subst, rules, arith}
use Rattle.std.specs.Prelude.{FitsSigned, ◌*ℤ◌, int_div, unsigned_abs}
use Rattle.std.specs.Int.{w128}
use Rattle.std.specs.List.{AllByRecursion}
use mir.Val.{to_z, of_z}
use Rattle.std.proofs.lemmas.Int.{to_z-of_z}
use Rattle.audit_types.specs.Form.{IsContent}
use Rattle.audit_types.specs.Numbers.{size_positive}
use Rattle.int_rows.specs.Exact.{exact}
use Rattle.sum_basis.specs.declared.sparse.FreeEntry.{FreeEntry}
use Rattle.sum_basis.proofs.ListContents.{values}
use Rattle.sum_basis.proofs.WithinLimit.{over, is_over, small_enough, too_large}
use Rattle.sum_basis.proofs.within_limit.head_within.Goals as goal

pub least_content-requires : goal.least_content-requires
least_content-requires c =
    let some = size_positive c.args.head c.requires.head.0 in
    let most = subst (λ (h : ℤ). unsigned_abs h ≤ c.size_of-most.result) (to_z-of_z w128 c.args.head c.ranges.head) c.size_of-most.ensures.head in
    record {
      size = (
        omega arith,
        c.size_of-most.ensures.least (2 ^ 126) (rw (to_z-of_z w128 c.args.head c.ranges.head) c.requires.head.1) c.requires.entries,
      );
      limit = c.requires.limit;
    }

pub quotient-requires-clause-divides : goal.quotient-requires-clause-divides
quotient-requires-clause-divides c = let all = c.in_ok-divisor.ensures.content in rw all.3.0 all.1.divides.0

-- the content, of the pivot entry as it is
content_of : (head : ℤ) (es : List FreeEntry) (g : ℕ) → FitsSigned w128 head → IsContent (to_z w128 (of_z w128 head) ∷ values es) g →
    IsContent (head ∷ values es) g
content_of head es g fits content = subst (λ (h : ℤ). IsContent (h ∷ values es) g) (to_z-of_z w128 head fits) content

pub returns-in_err-divisor : goal.returns-in_err-divisor
returns-in_err-divisor c =
    let all = c.in_err-divisor.ensures.content in
    let head = c.args.head in
    let es = c.args.entries.now in
    let content = content_of head es all.0 c.ranges.head all.1 in
    let e = exact head (pos all.0) content.divides.0 in
    let least = subst (λ (h : ℤ). (m : ℕ) → unsigned_abs h ≤ m → AllByRecursion (λ (x : FreeEntry). unsigned_abs x.value ≤ m) es → c.size_of-most.result ≤ m)
    (to_z-of_z w128 head c.ranges.head) c.size_of-most.ensures.least in
    record {
      within = (
        int_div head (pos all.0),
        over all.0 es,
        is_over head (int_div head (pos all.0)) es all.0 all.2 content e,
        rw c.from_residual.ensures
            (too_large c.args.limit head (int_div head
            (pos all.0)) es all.0 c.size_of-most.result c.least_content.result content e least c.least_content.ensures.least all.3),
      );
    }

pub returns : goal.returns
returns c =
    let all = c.in_ok-divisor.ensures.content in
    let head = c.args.head in
    let es = c.args.entries.now in
    let g = c.in_ok-divisor.divisor in
    let q : FitsSigned w128 c.quotient.result = search rules in
    let content = subst (IsContent (head ∷ values es)) (sym all.3.0) (content_of head es all.0 c.ranges.head all.1) in
    let positive : 0 < g = subst (λ m. 0 < m) (sym all.3.0) all.2 in
    let enough = subst (λ m. c.least_content.result ≤ m) (sym all.3.0) all.3.1 in
    let by = to_z w128 (of_z w128 c.quotient.result) in
    let e : head ≡ pos g *ℤ by = sym (to_z-of_z w128 head c.ranges.head) ∙ c.quotient.ensures
    ∙ ap (λ z. pos g *ℤ z) (sym (to_z-of_z w128 c.quotient.result q)) in
    let at_head = subst (λ (h : ℤ). unsigned_abs h ≤ c.size_of-most.result) (to_z-of_z w128 head c.ranges.head) c.size_of-most.ensures.head in
    let small = small_enough c.args.limit head by es g c.size_of-most.result c.least_content.result positive content e at_head c.size_of-most.ensures.values
    c.least_content.ensures.enough enough in
    record { within = (by, over g es, is_over head by es g positive content e, (refl, small.0, small.1)) }
