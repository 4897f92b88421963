use Rattle.std.proofs.Common.{sym, refl, arith}
use Rattle.predicate_lang.proofs.Numbers.{one_digit, too_large}
use Rattle.predicate_lang.proofs.lexing.magnitude.Goals as goal

pub returns-then-value-gt-MOST : goal.returns-then-value-gt-MOST
returns-then-value-gt-MOST c =
    sym (too_large c.args.digits.now c.loop-digit.digit-index c.loop-digit.value _ (omega arith) refl c.loop-digit.invariant.same (omega arith))

pub loop-digit-preserved : goal.loop-digit-preserved
loop-digit-preserved c = record {
  within = omega arith;
  same = one_digit c.args.digits.now c.loop-digit.digit-index c.loop-digit.value _ _ (omega arith) refl (omega arith) c.loop-digit.invariant.same;
}
