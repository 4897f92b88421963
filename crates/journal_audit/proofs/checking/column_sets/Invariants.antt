use Rattle.std.proofs.Common.{◌≡◌, take, map, filter}
use Rattle.std.specs.Prelude.{◌==◌}
use Rattle.audit_types.specs.declared.records.Answered.{Answered}
use Rattle.journal_audit.proofs.checking.column_sets.Given as goal

abbrev pub invariant-loop-record : goal.invariant-loop-record
invariant-loop-record l = l.sets.items ≡ map (λ (r : Answered). r.rows) (filter (λ (r : Answered). r.column == l.column) (take l.record-index l.list))
