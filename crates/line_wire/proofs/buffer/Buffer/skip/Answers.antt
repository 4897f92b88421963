use Rattle.std.proofs.Common.{ℕ, List, ◌≤◌, length, drop, ap, ◌∙◌, arith}
use Rattle.line_wire.specs.Buffer.{Held}
use Rattle.line_wire.proofs.BufferRanges.{range-later, range-long}
use Rattle.line_wire.proofs.buffer.Buffer.skip.Goals as goal

pub returns-clause-pending : goal.returns-clause-pending
returns-clause-pending c =
    let pending = ap (λ (held : Held). held.pending) c.self.view_is in
    let some : 1 ≤ length c.args.self.now.pending = omega (arith, c.requires) in
    let inside = range-long c.self.inside.bytes.items c.self.inside.from c.self.inside.end 1 (omega arith) (rw (← pending) at some) in
    range-later c.self.inside.bytes.items c.self.inside.from c.self.inside.end 1 inside ∙ ap (λ (l : List ℕ). drop 1 l) pending
