-- The numbers of a schema's faults.
use Rattle.std.specs.Prelude.{ℕ}
use Rattle.schema_json.specs.declared.faults.SchemaFault.{SchemaFault}
use Rattle.schema_json.specs.declared.faults.SchemaFault.TheVariants.{TooLong, NotJson, Shape, BadName, Repeated, TooMany, NoMemory}

-- the number by which a fault is reported: its place in the order in which faults are looked for, from 1
abbrev pub fault_number : SchemaFault → ℕ
fault_number TooLong = 1
fault_number NotJson = 2
fault_number Shape = 3
fault_number BadName = 4
fault_number Repeated = 5
fault_number TooMany = 6
fault_number NoMemory = 7
