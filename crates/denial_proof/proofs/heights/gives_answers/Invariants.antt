use Rattle.std.proofs.Common.{take}
use Rattle.std.specs.List.{AllByRecursion}
use Rattle.audit_types.specs.History.{answers_of}
use Rattle.denial_proof.specs.Lone.{IsGreatest}
use Rattle.denial_proof.proofs.heights.gives_answers.Given as goal

abbrev pub invariant-loop-record : goal.invariant-loop-record
invariant-loop-record l = AllByRecursion (IsGreatest l.numbers) (answers_of l.column (take l.record-index l.history))
