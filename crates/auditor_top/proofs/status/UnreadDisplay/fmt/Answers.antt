use Rattle.std.proofs.Common.{sym, subst}
use Rattle.std.specs.Fmt.{HasWritten}
use Rattle.answer_journal.specs.declared.refusals.JournalRefusal.{JournalRefusal}
use Rattle.auditor_top.specs.Status.{journal_text}
use Rattle.auditor_top.proofs.status.UnreadDisplay.fmt.Goals as goal

pub returns-in-Untrue-clause-writes : goal.returns-in-Untrue-clause-writes
returns-in-Untrue-clause-writes g c = λ plain ok.
    subst (λ (r : JournalRefusal). HasWritten g.W.Write.write_str_gives c.args.f.now (journal_text r) c.write-in-Untrue.new.self) (sym c.in-Untrue.is)
    (c.write-in-Untrue.ensures.writes plain ok)

pub returns-in-Illegal-clause-writes : goal.returns-in-Illegal-clause-writes
returns-in-Illegal-clause-writes g c = λ plain ok.
    subst (λ (r : JournalRefusal). HasWritten g.W.Write.write_str_gives c.args.f.now (journal_text r) c.write-in-Illegal.new.self) (sym c.in-Illegal.is)
    (c.write-in-Illegal.ensures.writes plain ok)
