use Rattle.std.proofs.Common.{ℕ, take, get_or, pos, subst, rules}
use Rattle.std.specs.Prelude.{FitsSigned}
use Rattle.std.specs.Int.{IsGcd, w128}
use Rattle.std.proofs.lemmas.List.{take_more}
use Rattle.int_rows.specs.ContentLaws.{IsContent-push, IsContent-nil, IsContent-one, size_is}
use Rattle.audit_types.specs.Form.{IsContent}
use Rattle.int_rows.proofs.divisors.size_of_content.Goals as goal

pub loop-x-init : goal.loop-x-init
loop-x-init c = record { content = IsContent-nil; small = search rules }

pub loop-x-preserved : goal.loop-x-preserved
loop-x-preserved c =
    let fits : FitsSigned w128 (get_or c.args.row.now c.loop-x.x-index (pos 0)) = search rules in
    let size = size_is (get_or c.args.row.now c.loop-x.x-index (pos 0)) c.unsigned_abs.result fits c.unsigned_abs.ensures.value in
    record {
      content = rw (take_more c.args.row.now c.loop-x.x-index (pos 0) c.loop-x-test.true)
          (IsContent-push _ _ _ _ c.loop-x.invariant.content
          (subst (λ (m : ℕ). IsGcd c.loop-x.divisor m c.common_divisor-divisor.result) size c.common_divisor-divisor.ensures.divisor));
      small = c.common_divisor-divisor.ensures.small;
    }

pub returns-then-divisor-eq1-clause-content : goal.returns-then-divisor-eq1-clause-content
returns-then-divisor-eq1-clause-content c =
    IsContent-one c.args.row.now c.loop-x.x-index
    (subst (λ (g : ℕ). IsContent (take c.loop-x.x-index c.args.row.now) g) c.if-divisor-eq1.true c.loop-x.invariant.content)
