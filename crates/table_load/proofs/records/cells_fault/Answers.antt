use Rattle.std.proofs.Common.{sym, ◌∙◌, drop}
use Rattle.csv.specs.Records.{fields_of}
use Rattle.table_load.proofs.FieldPlaces.{fault_here, fault_later, no_fault_left}
use Rattle.table_load.proofs.records.cells_fault.Goals as goal

pub returns-then-is_some : goal.returns-then-is_some
returns-then-is_some c =
    let told = rw c.field.ensures at c.cell_fault-fault.ensures in
    sym (c.loop-column.invariant
    ∙ fault_here c.args.line c.loop-column.column c.args.roles.now (fields_of c.args.row.now) _ c.cell_fault-fault.result c.requires.one_each
    c.loop-column-test.true told (sym c.is_some.ensures ∙ c.if-is_some.true))

pub loop-column-preserved : goal.loop-column-preserved
loop-column-preserved c =
    let told = rw c.field.ensures at c.cell_fault-fault.ensures in
    c.loop-column.invariant
    ∙ fault_later c.args.line c.loop-column.column c.args.roles.now (fields_of c.args.row.now) _ c.cell_fault-fault.result c.requires.one_each
    c.loop-column-test.true told (sym c.is_some.ensures ∙ c.if-is_some.false)

pub returns : goal.returns
returns c =
    sym (c.loop-column.invariant
    ∙ no_fault_left c.args.line c.loop-column.column c.args.roles.now (drop c.loop-column.column (fields_of c.args.row.now)) c.loop-column-test.false)
