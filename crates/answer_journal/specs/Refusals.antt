-- Why a journal isn't read back.
use Rattle.std.specs.Prelude.{◌≡◌, ◌+◌, ℕ, List}
use Rattle.audit_types.specs.declared.shapes.Shape.{Shape}
use Rattle.answer_journal.specs.declared.refusals.JournalRefusal.{JournalRefusal}
use Rattle.answer_journal.specs.declared.refusals.JournalRefusal.TheVariants.{NotMade, Damaged, OtherShape, Untrue, Illegal}
use Rattle.journal_form.specs.Group.{GroupBreaks}
use Rattle.journal_form.specs.Journal.{BreaksAt}
use Rattle.answer_journal.specs.Moments.{IsMade}

-- what only reads a journal back refuses it for, whatever it is of
abbrev pub IsOfReading : JournalRefusal → Type 0
IsOfReading NotMade = Unit {0}
IsOfReading (Damaged at) = Unit {0}
IsOfReading refusal = ⊥

-- why it does, by the file
abbrev pub ReadCause : JournalRefusal → List ℕ → Type 0
ReadCause NotMade file = ¬ (IsMade file)
ReadCause (Damaged at) file = IsMade file × BreaksAt file at
ReadCause refusal file = ⊥

-- what has such a cause is such a refusal
pub is_of_reading : (file : List ℕ) (refusal : JournalRefusal) → ReadCause refusal file → IsOfReading refusal
is_of_reading file NotMade is = tt
is_of_reading file (Damaged at) is = tt
is_of_reading file (OtherShape kept now) is = is
is_of_reading file (Untrue place kept now) is = is
is_of_reading file (Illegal place group) is = is

-- why no group is read behind the open gate at a place, by the bytes after it
abbrev pub GroupCause : Shape → ℕ → List ℕ → ℕ → JournalRefusal → Type 0
GroupCause shape left behind gate (Damaged at) = (place : ℕ) × GroupBreaks shape left behind place × (at ≡ gate + 1 + place)
GroupCause shape left behind gate refusal = ⊥
