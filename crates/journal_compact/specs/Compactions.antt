-- What a compaction writes on the spare, and what it sends: a journal of the records that are kept of a history, and a line on them.
use Rattle.std.specs.Prelude.{◌≡◌, ◌⊎◌, ◌++◌, ℕ, List, length, codes, decimal}
use Rattle.audit_types.specs.declared.shapes.Shape.{Shape}
use Rattle.audit_types.specs.declared.records.Answered.{Answered}
use Rattle.bench_core.specs.Bench.{AppendsFront}
use Rattle.journal_form.specs.Journal.{StandsFor}
use Rattle.answer_journal.specs.Moments.{IsMade}
use Rattle.answer_journal.specs.Whole.{HoldsWhole}
use Rattle.implied_records.specs.Kept.{IsKeptOf}

-- the line that tells how many records a history has, and how many of them are kept
abbrev pub compact_line : ℕ → ℕ → List ℕ
compact_line records kept = codes "{\"records\":" ++ (decimal records ++ (codes ",\"kept\":" ++ (decimal kept ++ codes "}\n")))

-- the file stands for what is kept of the history, over the rows in force
pub record HoldsKept (shape : Shape) (history : List Answered) (file : List ℕ) : Type 0 where
  pub kept : List Answered
  pub are : IsKeptOf shape history kept
  pub stands : StandsFor file shape kept

-- the new file stands so, and holds what is kept whole, with nothing behind its last gate but what stood there in the old one
pub record WritesKept (shape : Shape) (history : List Answered) (old new : List ℕ) : Type 0 where
  pub holds : HoldsKept shape history new
  pub whole : HoldsWhole shape holds.kept old new

-- and the line on it was sent
abbrev pub Compacts : Shape → List Answered → List ℕ → List ℕ → List ℕ → List ℕ → Type 0
Compacts shape history spare new_spare before after =
    (writes : WritesKept shape history spare new_spare) × (after ≡ before ++ compact_line (length history) (length writes.holds.kept))

-- or a front of the line
abbrev pub CompactsFront : Shape → List Answered → List ℕ → List ℕ → List ℕ → List ℕ → Type 0
CompactsFront shape history spare new_spare before after =
    (writes : WritesKept shape history spare new_spare) × AppendsFront before (compact_line (length history) (length writes.holds.kept)) after

-- what a crash finds on the spare: nothing was sent there, and the image isn't a made journal, or stands for what is kept
abbrev pub IsUnmadeOrKept : Shape → List Answered → List ℕ → List ℕ → List ℕ → Type 0
IsUnmadeOrKept shape history before image sent = (sent ≡ before) × ((IsMade image → ⊥) ⊎ HoldsKept shape history image)

-- what a crash finds on the bench: the file is as it was, and nothing was sent, or a front of the line
abbrev pub SendsCounts : Shape → List Answered → List ℕ → List ℕ → List ℕ → List ℕ → Type 0
SendsCounts shape history file before image sent = (image ≡ file) × ((sent ≡ before) ⊎ ((kept : List Answered) × IsKeptOf shape history kept ×
    AppendsFront before (compact_line (length history) (length kept)) sent))
