use Rattle.std.proofs.Common.{sym}
use Rattle.int_rows.proofs.dividing.Divisor.guess.Goals as goal

pub returns-then-self-q : goal.returns-then-self-q
returns-then-self-q c = rw (sym c.self.view_is, sym (c.self.invariant.1 c.if-self-eq0.false)) (sym c.if-self-q.true)
