-- Arguments name one command.
use Rattle.std.proofs.Common.{◌≡◌, Option, Some, None, Result, Err, sym, ◌∙◌, ap, subst}
use Rattle.auditor_top.specs.declared.words.Command.{Command}
use Rattle.auditor_top.specs.declared.ready.Ready.{Ready}
use Rattle.auditor_top.specs.declared.words.WordFault.{WordFault}
use Rattle.auditor_top.specs.declared.words.WordFault.TheVariants.{Bad}
use Rattle.auditor_top.specs.Ready.{command_for}

pub one_command : (asked : Option Command) (a b : Command) → asked ≡ Some a → asked ≡ Some b → a ≡ b
one_command asked a b is also = cc

-- what a command goes on with is its own
pub same_command : (asked : Command) (ready other : Ready) → ready ≡ other → command_for ready ≡ asked → asked ≡ command_for other
same_command asked ready other is own = sym (subst (λ (r : Ready). command_for r ≡ asked) is own)

pub asked_for : (words : Option Command) (asked : Command) (ready other : Ready) → words ≡ Some asked → ready ≡ other → command_for ready ≡ asked →
    words ≡ Some (command_for other)
asked_for words asked ready other named is own = named ∙ ap (λ (k : Command). Some k) (same_command asked ready other is own)

-- arguments that name no command name none
pub none_asked : {Y : Type 0} (asked : Option Command) (command : Command) → asked ≡ None → asked ≡ Some command → Y
none_asked asked command none is = cc

-- and those that are refused are none
pub refused_words : (asked : Option Command) (fault : WordFault) → (◌≡◌ {A = Result Command WordFault} (Err fault) (Err Bad) → asked ≡ None) → fault ≡ Bad
    → asked ≡ None
refused_words asked fault none bad = none (ap (λ (f : WordFault). Err f) bad)
