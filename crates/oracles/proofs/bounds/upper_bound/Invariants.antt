use Rattle.std.proofs.Common.{◌≡◌, take}
use Rattle.audit_types.specs.Extremes.{upper_bound}
use Rattle.audit_types.specs.History.{answers_of}
use Rattle.oracles.proofs.bounds.upper_bound.Given as goal

abbrev pub invariant-loop-record : goal.invariant-loop-record
invariant-loop-record l = l.bound ≡ upper_bound (answers_of l.column (take l.record-index l.history)) l.row
