use Rattle.std.proofs.Common.{◌≡◌, ◌<◌, ◌^◌, pos, arith, rules, w64, ap, sym, ◌∙◌}
use Rattle.std.specs.Result.{result_ok}
use Rattle.std.proofs.lemmas.Int.{to_z-of_z}
use Rattle.std.proofs.lemmas.Option.{same_Some}
use mir.Val.{SFits}
use Rattle.line_wire.proofs.ReplyParts.{missed, whole}
use Rattle.line_wire.proofs.reply_reading.size_between.Goals as goal

pub returns-in-Some : goal.returns-in-Some
returns-in-Some c = λ size small is.
    let fits : SFits w64 c.in-Some.number = search rules in
    let number : c.in-Some.number ≡ pos size = same_Some c.in-Some.number (pos size)
    (sym c.in-Some.is ∙ c.number_between.ensures (pos size) (omega arith) is) in
    let below : size < 2 ^ 64 = omega arith in
    c.ok.ensures.value ∙ ap result_ok (whole 64 c.in-Some.number size c.try_from.result number below (simp to_z-of_z at c.try_from.ensures))

pub returns-in-None : goal.returns-in-None
returns-in-None c = λ size small is. absurd (missed c.number_between.result (pos size) c.in-None.is (c.number_between.ensures (pos size) (omega arith) is))
