use Rattle.std.proofs.Common.{arith}
use Rattle.audit_types.proofs.words.first_word.Goals as goal

pub returns-clause-none : goal.returns-clause-none
returns-clause-none c = λ k from below. c.loop-place.invariant k from (omega arith)
