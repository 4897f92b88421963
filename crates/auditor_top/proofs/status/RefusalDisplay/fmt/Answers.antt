use Rattle.std.proofs.Common.{sym, subst}
use Rattle.std.specs.Fmt.{HasWritten}
use Rattle.auditor_top.specs.declared.status.Refusal.{Refusal}
use Rattle.auditor_top.specs.Status.{refusal_text}
use Rattle.auditor_top.proofs.status.RefusalDisplay.fmt.Goals as goal

pub returns-in-Disagrees-clause-writes : goal.returns-in-Disagrees-clause-writes
returns-in-Disagrees-clause-writes g c = λ plain ok.
    subst (λ (r : Refusal). HasWritten g.W.Write.write_str_gives c.args.f.now (refusal_text r) c.write-in-Disagrees.new.self) (sym c.in-Disagrees.is)
    (c.write-in-Disagrees.ensures.writes plain ok)
