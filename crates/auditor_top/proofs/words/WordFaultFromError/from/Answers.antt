use Rattle.std.proofs.Common.{sym, ap, ◌∙◌}
use Rattle.auditor_top.specs.Words.{word_fault}
use Rattle.auditor_top.proofs.words.WordFaultFromError.from.Goals as goal

pub returns-in-OutOfMemory : goal.returns-in-OutOfMemory
returns-in-OutOfMemory c = sym (ap word_fault (sym c.kind.ensures ∙ c.in-OutOfMemory.is))
