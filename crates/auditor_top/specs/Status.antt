-- The number and the text of each status.
use Rattle.std.specs.Prelude.{ℕ, List, ◌++◌, Option, Some, None, codes, decimal}
use Rattle.std.specs.Fmt.{signed_decimal}
use Rattle.schema_json.specs.Faults as schema
use Rattle.table_load.specs.Faults as table
use Rattle.table_load.specs.declared.faults.TableFault.{TableFault}
use Rattle.table_load.specs.declared.faults.TableFault.TheVariants as fault
use Rattle.question_plan.specs.Dues.{word_of}
use Rattle.answer_journal.specs.declared.refusals.JournalRefusal.{JournalRefusal}
use Rattle.answer_journal.specs.declared.refusals.JournalRefusal.TheVariants.{NotMade, Damaged, OtherShape, Untrue, Illegal}
use Rattle.auditor_top.specs.declared.status.Object.{Object}
use Rattle.auditor_top.specs.declared.status.Object.TheVariants.{Schema, Table, Input, Bench, Spare}
use Rattle.auditor_top.specs.declared.status.Refusal.{Refusal}
use Rattle.auditor_top.specs.declared.status.Refusal.TheVariants.{BadSchema, BadTable, BadOnly, BadGroup, BadJournal, AlreadyThere, NothingNew, BadSpare, TwinsDiffer, NothingLost, SpareThere, Disagrees}
use Rattle.auditor_top.specs.declared.status.Status.{Status}
use Rattle.auditor_top.specs.declared.status.Status.TheVariants.{Done, BadWords, Failed, InputLimit, NoMemory, Refused}

-- ---- the exit status of the program

-- over a journal that isn't gone on from
abbrev pub journal_code : JournalRefusal → ℕ
journal_code NotMade = 7
journal_code (Damaged at) = 9
journal_code (OtherShape kept now) = 10
journal_code (Untrue place kept now) = 11
journal_code (Illegal place group) = 12

-- of a refusal
abbrev pub refusal_code : Refusal → ℕ
refusal_code (BadSchema fault) = 3
refusal_code (BadTable fault) = 4
refusal_code BadOnly = 16
refusal_code (BadGroup place) = 16
refusal_code (BadJournal refusal) = journal_code refusal
refusal_code AlreadyThere = 8
refusal_code (NothingNew rows) = 17
refusal_code (BadSpare refusal) = 20
refusal_code (TwinsDiffer place) = 21
refusal_code NothingLost = 22
refusal_code SpareThere = 18
refusal_code (Disagrees line due) = 14

abbrev pub status_code : Status → ℕ
status_code Done = 0
status_code BadWords = 2
status_code (Failed Bench) = 6
status_code (Failed Spare) = 19
status_code (Failed source) = 5
status_code InputLimit = 13
status_code NoMemory = 15
status_code (Refused refusal) = refusal_code refusal

-- ---- what the program tells

-- the place of a fault in a line
abbrev pub at_line : ℕ → List ℕ
at_line line = codes " at line " ++ decimal line

-- the place of a fault in a column of a line
abbrev pub at_cell : ℕ → ℕ → List ℕ
at_cell line column = codes " at line " ++ decimal line ++ codes " column " ++ decimal column

-- where a fault is, if it has a place
abbrev pub place_text : TableFault → List ℕ
place_text fault.TooLong = codes ""
place_text fault.Header = codes ""
place_text (fault.Length line) = at_line line
place_text (fault.NotText line) = at_line line
place_text (fault.NotNumber line column) = at_cell line column
place_text (fault.OutOfRange line column) = at_cell line column
place_text fault.TooManyRows = codes ""
place_text fault.NoRows = codes ""
place_text fault.NoMemory = codes ""

-- the group that keeps a record's question from being released, if it is one
abbrev pub blamed_text : Option ℕ → List ℕ
blamed_text (Some group) = codes ": group " ++ decimal group
blamed_text None = codes ""

-- of an object of which a call failed
abbrev pub failure_text : Object → List ℕ
failure_text Schema = codes "cannot read schema"
failure_text Table = codes "cannot read table"
failure_text Input = codes "cannot read input"
failure_text Bench = codes "journal or output failed"
failure_text Spare = codes "spare failed"

-- of a journal that isn't gone on from
abbrev pub journal_text : JournalRefusal → List ℕ
journal_text NotMade = codes "no journal"
journal_text (Damaged at) = codes "journal damaged at byte " ++ decimal at
journal_text (OtherShape kept now) = codes "journal is of another table: rows " ++ decimal kept.rows ++ codes ", now " ++ decimal now.rows
journal_text (Untrue place kept now) = codes "record " ++ (decimal place ++
    (codes " holds " ++ (signed_decimal kept ++ (codes ", table gives " ++ signed_decimal now))))
journal_text (Illegal place group) = codes "record " ++ (decimal place ++ (codes " should not have been released" ++ blamed_text group))

-- of a refusal: of the journal on the spare what is told of the same journal in its own place
abbrev pub refusal_text : Refusal → List ℕ
refusal_text (BadSchema fault) = codes "schema: fault " ++ decimal (schema.fault_number fault)
refusal_text (BadTable fault) = codes "table: fault " ++ decimal (table.fault_number fault) ++ place_text fault
refusal_text BadOnly = codes "schema: only is bad"
refusal_text (BadGroup place) = codes "schema: group " ++ (decimal place ++ codes " is bad")
refusal_text (BadJournal refusal) = journal_text refusal
refusal_text AlreadyThere = codes "journal is already there"
refusal_text (NothingNew rows) = codes "nothing to grow: rows " ++ decimal rows
refusal_text (BadSpare refusal) = codes "spare: " ++ journal_text refusal
refusal_text (TwinsDiffer place) = codes "journals differ at record " ++ decimal place
refusal_text NothingLost = codes "no journal is lost"
refusal_text SpareThere = codes "spare is already there"
refusal_text (Disagrees line due) = codes "line " ++ (decimal line ++ (codes " disagrees, due " ++ word_of due))

-- of a status; nothing if the run is done
abbrev pub status_text : Status → List ℕ
status_text Done = codes ""
status_text BadWords = codes "usage: auditor init, serve [--batch N] [--twin], audit, simulate, drill N, grow, explain, compact, restore"
status_text (Failed object) = failure_text object
status_text InputLimit = codes "input is too long"
status_text NoMemory = codes "out of memory"
status_text (Refused refusal) = refusal_text refusal
