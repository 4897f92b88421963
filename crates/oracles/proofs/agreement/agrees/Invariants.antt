use Rattle.std.proofs.Common.{◌≡◌, take}
use Rattle.std.specs.List.{AllByRecursion}
use Rattle.audit_types.specs.Truth.{truth}
use Rattle.audit_types.specs.History.{answers_of}
use Rattle.oracles.proofs.agreement.agrees.Given as goal

abbrev pub invariant-loop-record : goal.invariant-loop-record
invariant-loop-record l = AllByRecursion (λ a. truth l.kind l.numbers a.rows ≡ a.value) (answers_of l.column (take l.record-index l.history))
