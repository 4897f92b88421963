use Rattle.std.proofs.Common.{◌≡◌, ◌++◌, ◌∙◌, refl, sym, ap, arith, List, append-nil, ℤ, pos, get_or, take, map, to_z, of_z}
use Rattle.std.proofs.lemmas.Int.{to_z-of_z}
use Rattle.std.proofs.lemmas.List.{take_all}
use Rattle.std.proofs.lemmas.Result.{IfOk-from_err}
use mir.Syntax.{w128}
use Rattle.line_wire.specs.CommaLists.{stated, with_commas}
use Rattle.line_wire.specs.CommaLists.{is_none, is_none-snoc, text_more}
use Rattle.line_wire.proofs.NumbersSoFar.{numbers_more}
use Rattle.line_wire.proofs.numbers.put_numbers.Goals as goal

pub loop-number-preserved : goal.loop-number-preserved
loop-number-preserved c =
    let before = c.args.line.now.items in
    let i = c.loop-number.number-index in
    let x : ℤ = get_or c.args.numbers.now i (pos 0) in
    let least = c.args.least in
    let texts = map (stated least) (take i c.args.numbers.now) in
    let same : to_z w128 (of_z w128 x) ≡ x = grind (arith, to_z-of_z) in
    let more = numbers_more least c.args.numbers.now i c.loop-number-test.true in
    let put =
    c.in_ok-put_stated.ensures ∙ ap (λ z. c.loop-number.line.items ++ c.comma_unless.result.now ++ stated least z) same
    ∙ ap (λ l. c.loop-number.line.items ++ l ++ stated least x) c.comma_unless.ensures in
    record {
      so_far =
          text_more before c.put_stated.new.line.items c.loop-number.line.items c.loop-number.first texts
          (stated least x) c.loop-number.invariant.so_far c.loop-number.invariant.none_before put
          ∙ ap (λ t. before ++ with_commas t) (sym more);
      none_before = sym (ap is_none more ∙ is_none-snoc texts (stated least x));
    }

pub loop-number-init : goal.loop-number-init
loop-number-init c = record { so_far = sym (append-nil c.args.line.now.items); none_before = refl }

pub returns-in_err-put_stated : goal.returns-in_err-put_stated
returns-in_err-put_stated c = IfOk-from_err _ _ c.from_residual.ensures.0

pub returns : goal.returns
returns c =
    let all = take_all c.loop-number.number-index c.args.numbers.now (omega (arith, c.loop-number-test.false)) in
    c.loop-number.invariant.so_far ∙ ap (λ (l : List ℤ). c.args.line.now.items ++ with_commas (map (stated c.args.least) l)) all
