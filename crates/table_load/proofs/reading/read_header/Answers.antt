use Rattle.table_load.specs.Reading.{file_columns}
use Rattle.table_load.proofs.FirstFaults.{long_file}
use Rattle.table_load.proofs.OpenedFiles.{first_of_memory, header_read}
use Rattle.table_load.proofs.reading.read_header.Goals as goal

pub returns-then-bytes-gt-MOST_TABLE : goal.returns-then-bytes-gt-MOST_TABLE
returns-then-bytes-gt-MOST_TABLE c = long_file _ c.args.bytes.now c.if-bytes-gt-MOST_TABLE.true

pub check_header-requires : goal.check_header-requires
check_header-requires c =
    let has = c.requires in
    first_of_memory c.args.records.now c.next.new.self c.next.result has.flexible ((c.next.ensures.steps has.turns has.plain).0 has.ready)

pub returns : goal.returns
returns c =
    let has = c.requires in
    let steps = c.next.ensures.steps has.turns has.plain in
    header_read
    (file_columns c.args.which c.args.schema.now.columns) c.args.bytes.now c.args.records.now
    c.next.new.self c.next.result c.check_header.result c.if-bytes-gt-MOST_TABLE.false has
    (steps.0 has.ready) steps.3 c.check_header.ensures
