use Rattle.std.proofs.Common.{◌≡◌, [], ap, ◌∙◌}
use Rattle.audit_core.specs.declared.column.Column.{Column}
use Rattle.audit_core.specs.Columns.{known_in}
use Rattle.audit_core.proofs.SeenColumns.{with_none}
use Rattle.audit_core.proofs.column.Column.probe_with.Goals as goal

pub returns-in-Sum : goal.returns-in-Sum
returns-in-Sum c = record { judged = rw c.in-Sum.is c.probe_with.ensures.judged; decided = rw c.in-Sum.is c.probe_with.ensures.decided }

pub returns-in-Max : goal.returns-in-Max
returns-in-Max c =
    let none : c.args.apart.now ≡ [] = c.requires.sums (ap (λ (k : Column). (known_in k).kind) c.in-Max.is ∙ c.bounds.ensures.maxima) in
    let same = with_none c.in-Max.maxima c.bounds.ensures.no_groups in record {
      judged = rw (none, c.in-Max.is, same) c.probe.ensures.judged;
      decided = rw (none, c.in-Max.is, same) c.probe.ensures.decided;
    }
