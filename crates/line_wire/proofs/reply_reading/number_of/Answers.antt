use Rattle.std.proofs.Common.{◌≡◌, ℕ, List, Ok, sym, ap, ◌∙◌, subst, w64}
use Rattle.std.proofs.lemmas.Fmt.{IsAscii-signed, parse-signed_decimal}
use Rattle.std.proofs.lemmas.Str.{IsUtf8-from_ascii}
use Rattle.std.specs.Result.{result_ok}
use Rattle.std.specs.Str.{IsAscii}
use Rattle.line_wire.proofs.ReplyParts.{mag_below}
use Rattle.line_wire.proofs.reply_reading.number_of.Goals as goal

pub returns-in-Ok : goal.returns-in-Ok
returns-in-Ok c = λ number small is.
    let read : c.parse.result ≡ Ok number = parse-signed_decimal w64 number c.in-Ok.text.now c.parse.result (record { sfits = mag_below number small })
    (mag_below number small) (c.in-Ok.ensures.cases.0 ∙ is) c.parse.ensures.value.0 in
    c.ok.ensures.value ∙ ap result_ok read

pub returns-in-Err : goal.returns-in-Err
returns-in-Err c =
    λ number small is. absurd (c.in-Err.ensures.cases.0 (IsUtf8-from_ascii c.args.piece.now
    (subst (λ (bytes : List ℕ). IsAscii bytes) (sym is) (IsAscii-signed number (mag_below number small)))))
