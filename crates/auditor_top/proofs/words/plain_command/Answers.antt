use Rattle.std.proofs.Common.{rules, ◌≡◌, Some, None, refl, ◌∙◌, codes}
use Rattle.clap.specs.Words.{found_of, first_value}
use Rattle.auditor_top.proofs.Parses.{values_are}
use Rattle.auditor_top.proofs.words.plain_command.Goals as goal

pub returns-in_err-word : goal.returns-in_err-word
returns-in_err-word c =
    let found = found_of c.args.matches.now in
    let word : None ≡ first_value found (codes "command") = search rules in
    search rules ∙ values_are found None _ _ word refl refl

pub returns : goal.returns
returns c =
    let found = found_of c.args.matches.now in
    let word : Some c.in_ok-word.word.now ≡ first_value found (codes "command") = search rules in
    c.command_with.ensures ∙ values_are found (Some c.in_ok-word.word.now) _ _ word c.get_str-2.ensures c.get_str-3.ensures
