-- What the steps of a compaction leave: the spare is written, and then the line is sent.
use Rattle.std.proofs.Common.{◌≡◌, ◌++◌, ℕ, List, length, inl, inr, ◌∙◌, ap, subst}
use Rattle.audit_types.specs.declared.shapes.Shape.{Shape}
use Rattle.audit_types.specs.declared.records.Answered.{Answered}
use Rattle.bench_core.specs.declared.bench.Bench.{Ghosts}
use Rattle.bench_core.specs.Bench.{AppendsFront, Elapses, Sending}
use Rattle.bench_core.specs.Calls.{IsQuiet, LeavesOnly}
use Rattle.bench_core.specs.Moments.{started, goes_on, weakens}
use Rattle.answer_journal.specs.FileCalls.{OnlyNow, LeavesNoMore}
use Rattle.journal_form.specs.Journal.{StandsFor}
use Rattle.implied_records.specs.Kept.{IsKeptOf}
use Rattle.answer_journal.specs.Moments.{IsUnmadeOrWhole}
use Rattle.answer_journal.specs.Whole.{HoldsWhole}
use Rattle.journal_compact.specs.Compactions.{HoldsKept, WritesKept, Compacts, CompactsFront, IsUnmadeOrKept, SendsCounts, compact_line}

-- what is kept of a history, and the same list as it was written
module _ (shape written_shape : Shape) (history read kept list : List Answered) (same_shape : written_shape ≡ shape) (same_history : read ≡ history)
    (same_list : list ≡ kept) (kept_is : IsKeptOf written_shape read kept) where
  are : IsKeptOf shape history kept
  are = subst (λ (s : Shape). IsKeptOf s history kept) same_shape (subst (λ (h : List Answered). IsKeptOf written_shape h kept) same_history kept_is)

  abbrev holds : (file : List ℕ) → StandsFor file written_shape list → HoldsKept shape history file
  holds file stands = record {
    kept = kept;
    are = are;
    stands = subst (λ (s : Shape). StandsFor file s kept) same_shape (subst (λ (l : List Answered). StandsFor file written_shape l) same_list stands);
  }

  module _ (line : List ℕ) (line_is : line ≡ compact_line (length history) (length kept)) (old file before after : List ℕ)
      (stands : StandsFor file written_shape list) (whole : HoldsWhole written_shape list old file) where
    abbrev writes : WritesKept shape history old file
    writes = record {
      holds = holds file stands;
      whole = subst (λ (s : Shape). HoldsWhole s kept old file) same_shape (subst (λ (l : List Answered). HoldsWhole written_shape l old file) same_list whole);
    }

    pub sent_whole : after ≡ before ++ line → Compacts shape history old file before after
    sent_whole is = (writes, is ∙ ap (λ (l : List ℕ). before ++ l) line_is)

    pub sent_front : AppendsFront before line after → CompactsFront shape history old file before after
    sent_front front = (writes, subst (λ (l : List ℕ). AppendsFront before l after) line_is front)

  module _ {B : Type 0} (bench : Ghosts B) where
    -- the journal was written whole
    pub writes_kept : (old new : B) (before : List ℕ) → LeavesOnly bench old new (IsUnmadeOrWhole written_shape list before) →
        LeavesOnly bench old new (IsUnmadeOrKept shape history before)
    writes_kept old new before only =
        weakens bench old new (IsUnmadeOrWhole written_shape list before) (IsUnmadeOrKept shape history before) (λ image sent. found image sent) only
      where
        found : (image sent : List ℕ) → IsUnmadeOrWhole written_shape list before image sent → IsUnmadeOrKept shape history before image sent
        found image sent (same, inl unmade) = (same, inl unmade)
        found image sent (same, inr stands) = (same, inr (holds image stands))

    -- the line was sent, or a front of it
    pub sends_line : (line : List ℕ) → line ≡ compact_line (length history) (length kept) → (old new : B) → OnlyNow bench old → IsQuiet bench old →
        LeavesNoMore bench old new →
        Elapses (bench.moment old) (bench.moment new) (bench.since old) (bench.since new) (Sending (bench.leaves new) (bench.sent old) line) →
        LeavesOnly bench old new (SendsCounts shape history (bench.file old) (bench.sent old))
    sends_line line is old new only_now quiet left time =
        let counts : List ℕ → List ℕ → Type 0 = SendsCounts shape history (bench.file old) (bench.sent old) in
        goes_on bench old old new counts (Sending (bench.leaves new) (bench.sent old) line)
        (started bench old counts (λ image sent was. let now = only_now image sent was in (quiet image now.0, inl now.1))) time
        (λ image sent within. (quiet image (left image within.0), inr (kept, are, subst (λ (l : List ℕ). AppendsFront (bench.sent old) l sent) is within.1)))
