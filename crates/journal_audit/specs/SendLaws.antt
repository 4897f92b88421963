-- Facts on what was sent of a report.
use Rattle.std.specs.Prelude.{ℕ, List, []}
use Rattle.std.proofs.Common.{refl, sym}
use Rattle.std.proofs.lemmas.List.{append-nil}
use Rattle.journal_audit.specs.Reports.{Audit, Subject, SendsFront}
use Rattle.journal_audit.specs.Reports.AreLinesOn.{none}

-- no byte is a front of any lines
pub none_front : (audit : Audit) (about : List Subject) (bytes : List ℕ) → SendsFront audit about bytes bytes
none_front audit about bytes = record { first = []; others = about; all = refl; lines = []; are = none; sent = (0, sym (append-nil bytes)) }
