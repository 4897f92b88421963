use Rattle.std.proofs.Common.{rules, ◌≡◌, true, false, Some, codes, ap, ◌∙◌}
use Rattle.clap.specs.Words.{App, Rule, app_of, rule_of, new_app, new_rule, with_rule}
use Rattle.clap.specs.declared.builder.arg.Arg.{Arg}
use Rattle.clap.specs.declared.builder.action.ArgAction.TheVariants.{SetTrue}
use Rattle.auditor_top.specs.Words.{command_rule, batch_rule, twin_rule}
use Rattle.auditor_top.proofs.Parses.{one_more, last_added}
use Rattle.auditor_top.proofs.words.command_line.Goals as goal

-- the arguments don't begin with the program's name
abbrev without_name : App → App
without_name line = record line { top = record line.top { no_binary_name = true } }

-- a second argument
abbrev number_rule : Rule
number_rule = new_rule (codes "number")

pub returns : goal.returns
returns c =
    let none : app_of c.no_binary_name.result ≡ without_name (new_app (codes "auditor")) = search rules in
    let command : rule_of c.required.result ≡ command_rule = ap rule_of c.required.ensures
    ∙ ap (λ (r : Rule). record r { required = true }) c.new-2.ensures.rule in
    let number : rule_of c.new-3.result ≡ number_rule = c.new-3.ensures.rule in
    let batch : rule_of c.long.result ≡ batch_rule = ap rule_of c.long.ensures
    ∙ ap (λ (r : Rule). record r { long = Some (codes "batch") }) c.new-4.ensures.rule in
    let twin : rule_of c.action.result ≡ twin_rule = ap rule_of (c.action.ensures ∙ ap (λ (a : Arg). record a { action = Some SetTrue }) c.long-2.ensures)
    ∙ ap (λ (r : Rule). record r { long = Some (codes "twin"); action = Some SetTrue }) c.new-5.ensures.rule in
    let twin_local : c.action.result.global ≡ false = ap (λ (a : Arg). a.global)
    (c.action.ensures ∙ ap (λ (a : Arg). record a { action = Some SetTrue }) c.long-2.ensures)
    ∙ c.new-5.ensures.optional.1 in
    let command_local : c.required.result.global ≡ false = ap (λ (a : Arg). a.global) c.required.ensures ∙ c.new-2.ensures.optional.1 in
    let number_local : c.new-3.result.global ≡ false = c.new-3.ensures.optional.1 in
    let batch_local : c.long.result.global ≡ false = ap (λ (a : Arg). a.global) c.long.ensures ∙ c.new-4.ensures.optional.1 in
    let one = one_more c.no_binary_name.result c.in_ok-arg.field-0 c.required.result
    (without_name (new_app (codes "auditor"))) command_rule c.in_ok-arg.ensures command_local none command in
    let two = one_more c.in_ok-arg.field-0 c.in_ok-arg-2.field-0 c.new-3.result
    (with_rule (without_name (new_app (codes "auditor"))) command_rule) number_rule c.in_ok-arg-2.ensures number_local one number in
    let three = one_more c.in_ok-arg-2.field-0 c.in_ok-arg-3.field-0 c.long.result
    (with_rule (with_rule (without_name (new_app (codes "auditor"))) command_rule) number_rule) batch_rule c.in_ok-arg-3.ensures batch_local two batch in
    last_added c.in_ok-arg-3.field-0 c.action.result c.arg-4.result
    (with_rule (with_rule (with_rule (without_name (new_app (codes "auditor"))) command_rule) number_rule) batch_rule) twin_rule c.arg-4.ensures twin_local
    three twin
