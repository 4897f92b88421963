use Rattle.std.proofs.Common.{◌≡◌, sym, ◌∙◌, arith, true, get_or}
use Rattle.std.specs.Char.{is_ascii_digit}
use Rattle.std.proofs.lemmas.Grind.{common_steps}
use Rattle.table_load.proofs.Digits.{one_digit}
use Rattle.table_load.proofs.numerals.size_in.Goals as goal

pub loop-place-preserved : goal.loop-place-preserved
loop-place-preserved c =
    let digit : is_ascii_digit (get_or c.args.bytes.now c.loop-place.place 0) ≡ true = sym c.is_ascii_digit-in-loop-place.ensures.value
    ∙ c.if-not-is_ascii_digit-2.false in
    record {
      same = c.loop-place.invariant.same ∙ one_digit c.args.bytes.now c.loop-place.place c.loop-place.size c.min-size.result (omega arith) digit (omega arith);
      at_most = omega arith;
    }

pub returns-then-is_empty : goal.returns-then-is_empty
returns-then-is_empty c = grind (arith, common_steps)
