-- The faults of a table's file: their numbers, and which of several is the first.
use Rattle.std.specs.Prelude.{◌≡◌, ℕ, Option, Some, None, Result, Ok, Err}
use Rattle.table_load.specs.declared.faults.TableFault.{TableFault}
use Rattle.table_load.specs.declared.faults.TableFault.TheVariants.{TooLong, Header, Length, NotText, NotNumber, OutOfRange, TooManyRows, NoRows, NoMemory}

-- the number by which a fault is reported, from 1
abbrev pub fault_number : TableFault → ℕ
fault_number TooLong = 1
fault_number Header = 2
fault_number (Length line) = 3
fault_number (NotText line) = 4
fault_number (NotNumber line column) = 5
fault_number (OutOfRange line column) = 6
fault_number TooManyRows = 7
fault_number NoRows = 8
fault_number NoMemory = 9

-- a value, unless there is a fault
abbrev pub unless_fault : {X : Type 0} → Option TableFault → X → Result X TableFault
unless_fault None x = Ok x
unless_fault (Some fault) x = Err fault

-- if a fault isn't that memory ran out, this holds
abbrev pub UnlessMemory : TableFault → Type 0 → Type 0
UnlessMemory NoMemory P = Unit {0}
UnlessMemory TooLong P = P
UnlessMemory Header P = P
UnlessMemory (Length line) P = P
UnlessMemory (NotText line) P = P
UnlessMemory (NotNumber line column) P = P
UnlessMemory (OutOfRange line column) P = P
UnlessMemory TooManyRows P = P
UnlessMemory NoRows P = P

-- what was read is what the bytes mean, unless memory ran out
abbrev pub Loads : {X : Type 0} → Result X TableFault → Result X TableFault → Type 0
Loads (Ok x) meant = meant ≡ Ok x
Loads (Err fault) meant = UnlessMemory fault (meant ≡ Err fault)
