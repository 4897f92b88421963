use Rattle.std.proofs.Common.{List, subst}
use Rattle.audit_types.specs.declared.records.Answered.{Answered}
use Rattle.audit_store.specs.Twice.{WasAppended}
use Rattle.audit_store.proofs.asking.keep.Goals as goal

pub returns-clause-appended : goal.returns-clause-appended
returns-clause-appended g c =
    subst (λ (group : List Answered). WasAppended g.B.Bench c.args.journal.now c.keep_ready.new.journal group c.args.bench.now c.keep_ready.new.bench)
    c.in_ok-ready.ensures.group c.in_ok-keep_ready.ensures.appended
