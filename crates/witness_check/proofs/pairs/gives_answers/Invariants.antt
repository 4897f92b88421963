use Rattle.std.proofs.Common.{take}
use Rattle.std.specs.List.{AllByRecursion}
use Rattle.audit_types.specs.History.{answers_of}
use Rattle.witness_check.specs.Pairs.{IsAnswerOf}
use Rattle.witness_check.proofs.pairs.gives_answers.Given as goal

abbrev pub invariant-loop-answered : goal.invariant-loop-answered
invariant-loop-answered l = AllByRecursion (IsAnswerOf l.numbers) (answers_of l.column (take l.answered-index l.list))
