use Rattle.std.proofs.Common.{sym}
use Rattle.schema_json.specs.Kept.{group_of_entry}
use Rattle.schema_json.specs.Reading.{group_of}
use Rattle.schema_json.proofs.GatheredColumns.{all_columns, no_column}
use Rattle.schema_json.proofs.reading.gather_groups.Goals as goal

pub returns-in_default : goal.returns-in_default
returns-in_default c =
    no_column group_of_entry group_of
    c.args.list.now c.loop-value.groups.items c.loop-value.value-index c.loop-value.invariant c.value-item.result
    c.loop-value-test.true c.value-item.is
    (sym c.in_default.ensures)

pub returns : goal.returns
returns c = all_columns group_of_entry group_of c.args.list.now c.loop-value.groups.items c.loop-value.value-index c.loop-value.invariant
    c.loop-value-test.false
