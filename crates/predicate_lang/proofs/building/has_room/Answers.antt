use Rattle.std.proofs.Common.{refl}
use Rattle.predicate_lang.proofs.Frames.{room_is}
use Rattle.predicate_lang.proofs.building.has_room.Goals as goal

pub returns : goal.returns
returns c = room_is c.args.opened.now _ refl
