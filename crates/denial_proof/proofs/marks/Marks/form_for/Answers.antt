use Rattle.std.proofs.Common.{◌+◌, length}
use Rattle.denial_proof.proofs.marks.Marks.form_for.Goals as goal

pub with_own-requires-clause-room : goal.with_own-requires-clause-room
with_own-requires-clause-room c =
    c.in_ok-with_asked.ensures.room (c.args.asked.now.rows.n + (length c.args.self.now.places.items + 1)) (rw c.in-Some.is at c.requires.room)
