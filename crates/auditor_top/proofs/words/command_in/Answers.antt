use Rattle.std.proofs.Common.{rules, ◌≡◌, Some, None, ◌∙◌}
use Rattle.clap.specs.Words.{found_of, rows_of}
use Rattle.auditor_top.specs.Words.{plain_command}
use Rattle.auditor_top.proofs.Parses.{flag_is, no_flag}
use Rattle.auditor_top.proofs.words.command_in.Goals as goal

pub returns-in_err-command : goal.returns-in_err-command
returns-in_err-command c =
    let found = found_of c.args.matches.now in
    let plain : None ≡ plain_command (rows_of found) = search rules in
    search rules ∙ no_flag found plain

pub returns : goal.returns
returns c =
    let found = found_of c.args.matches.now in
    let plain : Some c.in_ok-command.command ≡ plain_command (rows_of found) = search rules in
    c.twinned_if.ensures ∙ flag_is found _ c.in_ok-command.command c.get_str.ensures plain
