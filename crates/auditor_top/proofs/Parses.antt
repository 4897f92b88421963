-- What `clap` reads of the arguments is the command that they are.
use Rattle.std.proofs.Common.{◌≡◌, ◌⊎◌, ℕ, true, false, List, [], ◌∷◌, Option, Some, None, option_and_then, Result, Ok, Err, IfOk, refl, sym, ap, subst, codes, ◌∙◌, inl, inr}
use Rattle.std.specs.Result.{result_ok}
use Rattle.clap.specs.Words.{App, Rule, AddsArg, app_of, rule_of, with_rule, Kinds, HasMatchesOf, HasKind, IsAmong, kind_of, is_simple, is_simple_and_free, fault_of, matches_of, found_of, rows_of, first_of, first_value}
use Rattle.std.specs.declared.alloc.AllocError.{AllocError}
use Rattle.clap.specs.declared.builder.arg.Arg.{Arg}
use Rattle.clap.specs.declared.builder.command.Command as clap
use Rattle.clap.specs.declared.error.Error.{Error}
use Rattle.clap.specs.declared.error.kind.ErrorKind.{ErrorKind}
use Rattle.clap.specs.declared.error.kind.ErrorKind.TheVariants.{OutOfMemory}
use Rattle.clap.specs.declared.parser.matches.ArgMatches.{ArgMatches}
use Rattle.clap.specs.declared.parser.matches.Found.{Found}
use Rattle.clap.proofs.WalkLemmas.{first_value-rows}
use Rattle.clap.proofs.OnLiterals.{clap_on_literals}
use Rattle.auditor_top.specs.declared.words.Command.{Command}
use Rattle.auditor_top.specs.declared.words.WordFault.{WordFault}
use Rattle.auditor_top.specs.declared.words.WordFault.TheVariants.{Bad, NoMemory}
use Rattle.auditor_top.specs.Words.{auditor, command_with, command_in, plain_command, twinned_if, unless_refused, command_of, word_fault}

-- ---- the command line

-- a command line with one more argument
pub one_more : (old new : clap.Command) (argument : Arg) (app : App) (rule : Rule) → AddsArg old argument new → argument.global ≡ false → app_of old ≡ app
    → rule_of argument ≡ rule
    → app_of new ≡ with_rule app rule
one_more old new argument app rule adds local was is =
    adds.shape local ∙ ap (λ (line : App). with_rule line (rule_of argument)) was ∙ ap (λ (r : Rule). with_rule app r) is

-- the same, if memory may run out
pub last_added : (old : clap.Command) (argument : Arg) (r : Result clap.Command AllocError) (app : App) (rule : Rule) → IfOk r (λ new. AddsArg old argument new)
    → argument.global ≡ false → app_of old ≡ app → rule_of argument ≡ rule → IfOk r (λ new. app_of new ≡ with_rule app rule)
last_added old argument (Ok new) app rule adds local was is = one_more old new argument app rule adds local was is
last_added old argument (Err e) app rule adds local was is = tt

-- ---- the values of a parse

-- the command of three values
abbrev command_from : Option (List ℕ) → Option (List ℕ) → Option (List ℕ) → Option Command
command_from word number batch = option_and_then (λ name. command_with name number batch) word

pub values_are : (found : Found) (word number batch : Option (List ℕ)) → word ≡ first_value found (codes "command")
    → number ≡ first_value found (codes "number") → batch ≡ first_value found (codes "batch")
    → command_from word number batch ≡ plain_command (rows_of found)
values_are found word number batch word_is number_is batch_is =
    let rows = rows_of found in
    let first = word_is ∙ first_value-rows found (codes "command") in
    let second = number_is ∙ first_value-rows found (codes "number") in
    let third = batch_is ∙ first_value-rows found (codes "batch") in
    ap (λ (w : Option (List ℕ)). command_from w number batch) first
    ∙ (ap (λ (n : Option (List ℕ)). command_from (first_of (codes "command") rows) n batch) second
    ∙ ap (λ (b : Option (List ℕ)). command_from (first_of (codes "command") rows) (first_of (codes "number") rows) b) third)

-- and of these with the flag
pub flag_is : (found : Found) (flag : Option (List ℕ)) (command : Command) → flag ≡ first_value found (codes "twin") →
    Some command ≡ plain_command (rows_of found) → twinned_if flag command ≡ command_in (rows_of found)
flag_is found flag command first plain =
    ap (λ (f : Option (List ℕ)). twinned_if f command) (first ∙ first_value-rows found (codes "twin"))
    ∙ ap (λ (k : Option Command). option_and_then (twinned_if (first_of (codes "twin") (rows_of found))) k) plain

pub no_flag : (found : Found) → None ≡ plain_command (rows_of found) → None ≡ command_in (rows_of found)
no_flag found plain = ap (λ (k : Option Command). option_and_then (twinned_if (first_of (codes "twin") (rows_of found))) k) plain

-- ---- a parse

is_exact : is_simple auditor ≡ true
unfolding clap_on_literals
is_exact = refl

is_free : is_simple_and_free auditor ≡ true
unfolding clap_on_literals
is_free = refl

-- a parse that succeeds gives the command
pub parsed_is : (line : App) (words : List (List ℕ)) (m : ArgMatches) → line ≡ auditor → HasMatchesOf line words m
    → (is_simple_and_free line ≡ true → fault_of line words ≡ [])
    → command_of words ≡ command_in (rows_of (found_of m))
unfolding command_of
parsed_is line words m is has free =
    let rows = (has (ap is_simple is ∙ is_exact)).0 ∙ ap (λ (a : App). matches_of a words) is in
    let no_fault = sym (ap (λ (a : App). fault_of a words) is) ∙ free (ap is_simple_and_free is ∙ is_free) in
    ap (λ (kinds : Kinds). unless_refused kinds (command_in (matches_of auditor words))) no_fault ∙ sym (ap command_in rows)

-- if a kind of error is due, there is no command
refused_is : (kind : ErrorKind) (kinds : Kinds) (command : Option Command) → IsAmong kind kinds → unless_refused kinds command ≡ None
refused_is kind [] command among = absurd among
refused_is kind (k ∷ ks) command among = refl

fault_is : (words : List (List ℕ)) (kind : ErrorKind) → (kind ≡ OutOfMemory) ⊎ IsAmong kind (fault_of auditor words) → word_fault kind ≡ Bad →
    command_of words ≡ None
unfolding command_of
fault_is words kind (inl out) bad = let two : NoMemory ≡ Bad = sym (ap word_fault out) ∙ bad in cc
fault_is words kind (inr among) bad = refused_is kind (fault_of auditor words) (command_in (matches_of auditor words)) among

-- a parse that fails for another cause than memory has found no command
pub failed_is : (line : App) (words : List (List ℕ)) (e : Error) → line ≡ auditor → (is_simple_and_free line ≡ true → HasKind (fault_of line words) e)
    → word_fault (kind_of e) ≡ Bad
    → command_of words ≡ None
failed_is line words e is free bad =
    fault_is words (kind_of e) (subst (λ (a : App). HasKind (fault_of a words) e) is (free (ap is_simple_and_free is ∙ is_free))) bad

-- ---- the answer

-- an answer has one fault
pub same_fault : {T : Type 0} (r : Result T WordFault) (fault : WordFault) → r ≡ Err fault → r ≡ Err Bad → fault ≡ Bad
same_fault r fault is bad = cc

-- a command is answered if the arguments are one
pub command_given : (command asked : Option Command) (r : Result Command WordFault) → command ≡ result_ok r → asked ≡ command →
    IfOk r (λ named. asked ≡ Some named)
command_given command asked (Ok named) part is = is ∙ part
command_given command asked (Err fault) part is = tt

-- and a fault if they aren't
pub none_given : (command asked : Option Command) (r : Result Command WordFault) → command ≡ result_ok r → asked ≡ command → r ≡ Err Bad → asked ≡ None
none_given command asked r part is bad = is ∙ part ∙ ap result_ok bad
