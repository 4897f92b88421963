use Rattle.std.proofs.Common.{◌≡◌, ◌+◌, ◌-◌, length}
use Rattle.std.specs.Vec.{vec_capacity}
use Rattle.line_wire.specs.Lines.{most_input}
use Rattle.audit_session.proofs.Served.{Served, SpareServed}
use Rattle.audit_session.proofs.session.serve_with.Given as goal

abbrev pub invariant-loop-group : goal.invariant-loop-group
invariant-loop-group g l = record {
  served : Served g.P.Source g.B.Bench l.index l.batch l.planner (g.K.Keeper.store l.fn.keeper) (g.K.Keeper.store l.keeper) l.fn.source
      l.source l.fn.bench l.bench;
  spare : SpareServed g.P.Source g.K.Keeper g.S.Bench l.index l.batch l.fn.keeper l.keeper l.fn.source l.fn.spare l.spare
      served.answered.replies;
  room : vec_capacity l.group.replies ≡ l.batch;
}

abbrev pub decreases-loop-group : goal.decreases-loop-group
decreases-loop-group g l = most_input + length l.planner.pending - l.planner.taken
