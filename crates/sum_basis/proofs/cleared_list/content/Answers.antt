use Rattle.std.proofs.Common.{◌≤◌, ◌^◌, ◌∷◌, ℤ, pos, List, get_or, take, map, ap, ◌∙◌, subst, rules, take_all, sym}
use Rattle.std.specs.Prelude.{FitsSigned, unsigned_abs}
use Rattle.std.specs.Int.{w128, IsGcd}
use mir.Val.{to_z, of_z}
use Rattle.std.proofs.lemmas.Int.{to_z-of_z}
use Rattle.audit_types.specs.Form.{IsContent}
use Rattle.audit_types.specs.ListLaws.{all-get_or}
use Rattle.sum_basis.specs.declared.sparse.FreeEntry.{FreeEntry}
use Rattle.audit_types.specs.Numbers.{size_positive}
use Rattle.std.proofs.Math.Nat.{pos_of_dvd_of_pos}
use Rattle.sum_basis.proofs.MergedNumbers.{passed}
use Rattle.sum_basis.proofs.ListContents.{entry_is, content_of_one, one_more_value, stays_one}
use Rattle.sum_basis.proofs.cleared_list.content.Goals as goal

pub loop-e-init : goal.loop-e-init
loop-e-init c =
    let same = to_z-of_z w128 c.args.head c.ranges.head in
    let is = c.new-divisor.ensures ∙ ap unsigned_abs same in
    record { content = rw (same, is) (content_of_one c.args.head); positive = rw is (size_positive c.args.head c.requires.head.0) }

pub returns-then-is_one-clause-content : goal.returns-then-is_one-clause-content
returns-then-is_one-clause-content c =
    let one = c.is_one.ensures.0 c.if-is_one.true in
    let so_far = subst (λ (h : ℤ). IsContent (h ∷ map (λ e. e.value) (take c.loop-e.e-index c.args.entries.now)) c.loop-e.divisor)
    (to_z-of_z w128 c.args.head c.ranges.head) c.loop-e.invariant.content in
    rw one
    (stays_one c.args.head c.args.entries.now c.loop-e.e-index
    (subst (IsContent (c.args.head ∷ map (λ e. e.value) (take c.loop-e.e-index c.args.entries.now))) one so_far))

pub loop-e-preserved : goal.loop-e-preserved
loop-e-preserved c =
    let value : FitsSigned w128 c.value.result = search rules in
    let common : IsGcd c.loop-e.divisor (unsigned_abs (get_or c.args.entries.now c.loop-e.e-index
    (record { place = 0; value = pos 0 })).value) c.with-divisor.result =
    subst (λ (m : ℤ). IsGcd c.loop-e.divisor (unsigned_abs m) c.with-divisor.result)
    (passed c.value.result (get_or c.args.entries.now c.loop-e.e-index (record { place = 0; value = pos 0 })).value value (c.value.ensures
    ∙ ap (λ (x : FreeEntry). x.value) (sym (entry_is c.args.entries.now c.loop-e.e-index c.e-item.result c.loop-e-test.true c.e-item.is))))
    c.with-divisor.ensures in
    record {
      content =
          one_more_value (to_z w128
          (of_z w128 c.args.head)) c.args.entries.now c.loop-e.e-index c.loop-e.divisor c.with-divisor.result c.loop-e-test.true c.loop-e.invariant.content
          common;
      positive = pos_of_dvd_of_pos common.0 c.loop-e.invariant.positive;
    }

pub new-divisor-requires : goal.new-divisor-requires
new-divisor-requires c = rw (to_z-of_z w128 c.args.head c.ranges.head) c.requires.head.1

pub with-divisor-requires : goal.with-divisor-requires
with-divisor-requires c =
    let value : FitsSigned w128 c.value.result = search rules in
    rw (passed c.value.result (get_or c.args.entries.now c.loop-e.e-index (record { place = 0; value = pos 0 })).value value (c.value.ensures
    ∙ ap (λ (x : FreeEntry). x.value) (sym (entry_is c.args.entries.now c.loop-e.e-index c.e-item.result c.loop-e-test.true c.e-item.is))))
    (all-get_or (λ (e : FreeEntry). unsigned_abs e.value ≤ 2 ^ 126) c.args.entries.now c.loop-e.e-index (record { place = 0; value = pos 0 })
    c.requires.entries c.loop-e-test.true)

pub returns-then-is_one-clause-positive : goal.returns-then-is_one-clause-positive
returns-then-is_one-clause-positive c = c.loop-e.invariant.positive

pub returns-clause-content : goal.returns-clause-content
returns-clause-content c =
    subst (λ (l : List FreeEntry). IsContent (c.args.head ∷ map (λ e. e.value) l) c.loop-e.divisor)
    (take_all c.loop-e.e-index c.args.entries.now c.loop-e-test.false)
    (subst (λ (h : ℤ). IsContent (h ∷ map (λ e. e.value) (take c.loop-e.e-index c.args.entries.now)) c.loop-e.divisor)
    (to_z-of_z w128 c.args.head c.ranges.head) c.loop-e.invariant.content)

pub returns-clause-positive : goal.returns-clause-positive
returns-clause-positive c = c.loop-e.invariant.positive
