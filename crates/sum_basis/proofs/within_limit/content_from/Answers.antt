use Rattle.std.proofs.Common.{ℕ, ◌∷◌, ◌≤◌, ◌^◌, ℤ, pos, List, length, get_or, take, take_all, refl, sym, ap, ◌∙◌, subst, rules, arith, inl, inr}
use Rattle.std.specs.Prelude.{FitsSigned, unsigned_abs}
use Rattle.std.specs.Int.{w128, IsGcd}
use mir.Val.{to_z, of_z}
use Rattle.std.proofs.lemmas.Int.{to_z-of_z}
use Rattle.std.proofs.lemmas.Bool.{cases_lt, true≢false}
use Rattle.audit_types.specs.Form.{IsContent}
use Rattle.audit_types.specs.Numbers.{size_positive}
use Rattle.audit_types.specs.ListLaws.{all-get_or}
use Rattle.std.proofs.Math.Nat.{pos_of_dvd_of_pos}
use Rattle.sum_basis.specs.declared.sparse.FreeEntry.{FreeEntry}
use Rattle.sum_basis.proofs.MergedNumbers.{passed}
use Rattle.sum_basis.proofs.ListContents.{entry_is, values, none, content_of_one, one_more_value, stays_one}
use Rattle.sum_basis.proofs.WithinLimit.{has_content}
use Rattle.sum_basis.proofs.within_limit.content_from.Goals as goal

pub loop-e-init : goal.loop-e-init
loop-e-init c =
    let same = to_z-of_z w128 c.args.head c.ranges.head in
    let is = c.new-divisor.ensures ∙ ap unsigned_abs same in
    record { content = rw (same, is) (content_of_one c.args.head); positive = rw is (size_positive c.args.head c.requires.head.0) }

pub loop-e-preserved : goal.loop-e-preserved
loop-e-preserved c =
    let value : FitsSigned w128 c.value.result = search rules in
    let common : IsGcd c.loop-e.divisor (unsigned_abs (get_or c.args.entries.now c.loop-e.e-index
    (record { place = 0; value = pos 0 })).value) c.with-divisor.result =
    subst (λ (m : ℤ). IsGcd c.loop-e.divisor (unsigned_abs m) c.with-divisor.result)
    (passed c.value.result (get_or c.args.entries.now c.loop-e.e-index (record { place = 0; value = pos 0 })).value value (c.value.ensures
    ∙ ap (λ (x : FreeEntry). x.value) (sym (entry_is c.args.entries.now c.loop-e.e-index c.e-item.result c.loop-e-test.true c.e-item.is))))
    c.with-divisor.ensures in
    record {
      content =
          one_more_value (to_z w128
          (of_z w128 c.args.head)) c.args.entries.now c.loop-e.e-index c.loop-e.divisor c.with-divisor.result c.loop-e-test.true c.loop-e.invariant.content
          common;
      positive = pos_of_dvd_of_pos common.0 c.loop-e.invariant.positive;
    }

-- what the values so far have in common
so_far : (head : ℤ) (es : List FreeEntry) (k g : ℕ) → FitsSigned w128 head → IsContent (to_z w128 (of_z w128 head) ∷ values (take k es)) g →
    IsContent (head ∷ values (take k es)) g
so_far head es k g fits content = subst (λ (h : ℤ). IsContent (h ∷ values (take k es)) g) (to_z-of_z w128 head fits) content

pub returns-then-is_below : goal.returns-then-is_below
returns-then-is_below c =
    let has = has_content c.args.head c.args.entries.now c.loop-e.e-index c.loop-e.divisor c.requires.head.0 c.loop-e.invariant.positive
    (so_far c.args.head c.args.entries.now c.loop-e.e-index c.loop-e.divisor c.ranges.head c.loop-e.invariant.content) in
    let below = c.is_below.ensures.0 c.if-is_below.true in
    let most = has.at_most in
    record { content = (has.content, has.is, has.positive, omega arith) }

pub returns-then-is_one : goal.returns-then-is_one
returns-then-is_one c =
    let one = c.is_one.ensures.0 c.if-is_one.true in
    let content = so_far c.args.head c.args.entries.now c.loop-e.e-index c.loop-e.divisor c.ranges.head c.loop-e.invariant.content in
    let enough : c.args.least ≤ 1 = elim (cases_lt c.loop-e.divisor c.args.least) [
      | inl below ↦ absurd (true≢false (sym (c.is_below.ensures.1 below) ∙ c.if-is_below.false))
      | inr enough ↦ omega arith
    ] in
    record {
      content = (
        1,
        stays_one c.args.head c.args.entries.now c.loop-e.e-index
            (subst (IsContent (c.args.head ∷ values (take c.loop-e.e-index c.args.entries.now))) one content),
        omega arith,
        (one, enough),
      );
    }

pub new-divisor-requires : goal.new-divisor-requires
new-divisor-requires c = rw (to_z-of_z w128 c.args.head c.ranges.head) c.requires.head.1

pub with-divisor-requires : goal.with-divisor-requires
with-divisor-requires c =
    let value : FitsSigned w128 c.value.result = search rules in
    rw (passed c.value.result (get_or c.args.entries.now c.loop-e.e-index (record { place = 0; value = pos 0 })).value value (c.value.ensures
    ∙ ap (λ (x : FreeEntry). x.value) (sym (entry_is c.args.entries.now c.loop-e.e-index c.e-item.result c.loop-e-test.true c.e-item.is))))
    (all-get_or (λ (e : FreeEntry). unsigned_abs e.value ≤ 2 ^ 126) c.args.entries.now c.loop-e.e-index none c.requires.entries c.loop-e-test.true)

-- what all values have in common
of_all : (head : ℤ) (es : List FreeEntry) (k g : ℕ) → FitsSigned w128 head → length es ≤ k → IsContent (to_z w128 (of_z w128 head) ∷ values (take k es)) g →
    IsContent (head ∷ values es) g
of_all head es k g fits past content = subst (λ l. IsContent (head ∷ values l) g) (take_all k es past) (so_far head es k g fits content)

pub returns-then-is_below-2 : goal.returns-then-is_below-2
returns-then-is_below-2 c =
    let below = c.is_below-2.ensures.0 c.if-is_below-2.true in
    record {
      content = (
        c.loop-e.divisor,
        of_all c.args.head c.args.entries.now c.loop-e.e-index c.loop-e.divisor c.ranges.head c.loop-e-test.false c.loop-e.invariant.content,
        c.loop-e.invariant.positive,
        below,
      );
    }

pub returns : goal.returns
returns c =
    let enough : c.args.least ≤ c.loop-e.divisor = elim (cases_lt c.loop-e.divisor c.args.least) [
      | inl below ↦ absurd (true≢false (sym (c.is_below-2.ensures.1 below) ∙ c.if-is_below-2.false))
      | inr enough ↦ enough
    ] in
    record {
      content = (
        c.loop-e.divisor,
        of_all c.args.head c.args.entries.now c.loop-e.e-index c.loop-e.divisor c.ranges.head c.loop-e-test.false c.loop-e.invariant.content,
        c.loop-e.invariant.positive,
        (refl, enough),
      );
    }
