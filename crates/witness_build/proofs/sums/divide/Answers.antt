use Rattle.std.proofs.Common.{pos, rules}
use Rattle.std.specs.Prelude.{◌<ℤ◌, ◌≤ℤ◌}
use Rattle.audit_types.specs.Truth.{number_at}
use Rattle.witness_build.proofs.Dividing.{within_126, made_small, divided_turned, divided_positive}
use Rattle.witness_build.proofs.sums.divide.Goals as goal

pub turn-requires : goal.turn-requires
turn-requires c =
    within_126 c.make_primitive.new.row
    (made_small c.args.numbers.now c.make_primitive.new.row c.args.row c.requires.moves c.make_primitive.ensures c.requires.small)

pub returns-then-numbers-row-lt0 : goal.returns-then-numbers-row-lt0
returns-then-numbers-row-lt0 c =
    let negative : number_at c.make_primitive.new.row c.args.row <ℤ pos 0 = search rules in
    divided_turned c.args.numbers.now c.make_primitive.new.row c.args.row c.requires.moves c.make_primitive.ensures c.turn.new.numbers negative c.turn.ensures

pub returns-else-numbers-row-lt0 : goal.returns-else-numbers-row-lt0
returns-else-numbers-row-lt0 c =
    let positive : pos 0 ≤ℤ number_at c.make_primitive.new.row c.args.row = search rules in
    divided_positive c.args.numbers.now c.make_primitive.new.row c.args.row c.requires.moves c.make_primitive.ensures positive
