use Rattle.table_load.specs.Reading.{file_columns}
use Rattle.table_load.proofs.AddedRows.{added_row, fault_of_row, of_memory}
use Rattle.table_load.proofs.HasReadMore.{rows_read}
use Rattle.table_load.proofs.reading.data_records.Goals as goal

pub add_row-requires-clause-of_memory : goal.add_row-requires-clause-of_memory
add_row-requires-clause-of_memory c =
    let opened = c.records.invariant.opened in
    let step = (c.in-Some.ensures.steps opened.read.turns opened.read.plain).0 opened.read.ready in
    of_memory c.records.records c.next.new.self c.in-Some.row opened.read.flexible step

pub returns-in-Err-add_row : goal.returns-in-Err-add_row
returns-in-Err-add_row c =
    let opened = c.records.invariant.opened in
    let steps = c.in-Some.ensures.steps opened.read.turns opened.read.plain in
    fault_of_row
    (file_columns c.args.which c.args.schema.now.columns) c.args.bytes.now c.args.roles.now c.records.rows.items c.records.records c.next.new.self c.in-Some.row
    c.in-Err-add_row.fault c.add_row.new.rows.items
    opened (steps.0 opened.read.ready) steps.3 c.requires.roles c.records.invariant.good c.records.invariant.at_most c.in-Err-add_row.ensures

pub records-preserved : goal.records-preserved
records-preserved c =
    let opened = c.records.invariant.opened in
    let steps = c.in-Some.ensures.steps opened.read.turns opened.read.plain in
    let added = added_row (file_columns c.args.which c.args.schema.now.columns) c.args.bytes.now c.args.roles.now c.records.rows.items c.records.records
    c.next.new.self c.in-Some.row c.add_row.new.rows.items
    opened (steps.0 opened.read.ready) steps.3 c.records.invariant.good c.records.invariant.at_most c.in_default-add_row.ensures in
    record { opened = added.opened; good = added.good; at_most = added.at_most }

pub returns : goal.returns
returns c =
    let opened = c.records.invariant.opened in
    let steps = c.in_default-next.ensures.steps opened.read.turns opened.read.plain in
    rows_read
    (file_columns c.args.which c.args.schema.now.columns) c.args.bytes.now c.records.rows c.records.records c.next.new.self c.some_rows.result
    opened (steps.0 opened.read.ready) (rw c.requires.roles at c.records.invariant.good) c.records.invariant.at_most c.some_rows.ensures
