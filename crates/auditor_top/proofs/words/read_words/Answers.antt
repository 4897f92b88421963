use Rattle.std.proofs.Common.{rules, ◌≡◌, map, string_bytes, ap, sym, ◌∙◌}
use Rattle.std.proofs.lemmas.Result.{err_from_is_err_and}
use Rattle.clap.specs.Words.{app_of}
use Rattle.auditor_top.specs.Words.{command_of}
use Rattle.auditor_top.proofs.Batches.{is_batch}
use Rattle.auditor_top.proofs.Parses.{parsed_is, failed_is, same_fault, command_given, none_given}
use Rattle.auditor_top.proofs.words.read_words.Goals as goal

pub returns-in_err-line-clause-batch : goal.returns-in_err-line-clause-batch
returns-in_err-line-clause-batch c = λ batch twin asked. is_batch _ batch twin asked

pub returns-in_err-matches-clause-batch : goal.returns-in_err-matches-clause-batch
returns-in_err-matches-clause-batch c = λ batch twin asked. is_batch _ batch twin asked

pub returns-in_err-matches-clause-bad : goal.returns-in_err-matches-clause-bad
returns-in_err-matches-clause-bad c = λ is.
    let same : map string_bytes c.as_slice.result.now ≡ map string_bytes c.args.words.now.items = search rules in
    let told = err_from_is_err_and c.from_residual-in_err-matches.result c.from_residual-in_err-matches.ensures.1 in
    let bad = sym told.2 ∙ same_fault c.from_residual-in_err-matches.result told.0 told.1 is in
    ap command_of (sym same)
    ∙ failed_is (app_of c.in_ok-line.line) (map string_bytes c.as_slice.result.now) c.in_err-matches.field-0.0 c.in_ok-line.ensures
    c.in_err-matches.ensures.kinds bad

pub returns-clause-command : goal.returns-clause-command
returns-clause-command c =
    let same : map string_bytes c.as_slice.result.now ≡ map string_bytes c.args.words.now.items = search rules in
    let asked = parsed_is (app_of c.in_ok-line.line) (map string_bytes c.as_slice.result.now) c.in_ok-matches.matches c.in_ok-line.ensures
    c.in_ok-matches.ensures.matches c.in_ok-matches.ensures.kinds in
    command_given c.command_in.result _ c.ok_or.result c.ok_or.ensures.ok_part (ap command_of (sym same) ∙ (asked ∙ sym c.command_in.ensures))

pub returns-clause-batch : goal.returns-clause-batch
returns-clause-batch c = λ batch twin asked. is_batch _ batch twin asked

pub returns-clause-bad : goal.returns-clause-bad
returns-clause-bad c = λ is.
    let same : map string_bytes c.as_slice.result.now ≡ map string_bytes c.args.words.now.items = search rules in
    let asked = parsed_is (app_of c.in_ok-line.line) (map string_bytes c.as_slice.result.now) c.in_ok-matches.matches c.in_ok-line.ensures
    c.in_ok-matches.ensures.matches c.in_ok-matches.ensures.kinds in
    none_given c.command_in.result _ c.ok_or.result c.ok_or.ensures.ok_part (ap command_of (sym same) ∙ (asked ∙ sym c.command_in.ensures)) is
