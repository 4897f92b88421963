-- What a crash leaves while a journal is written whole.
use Rattle.std.proofs.Common.{◌≡◌, ℕ, ◌+◌, ◌≤◌, inl, inr, List, length, get_or, drop, sym, ap, ◌∙◌, arith}
use Rattle.std.specs.Prelude.{All}
use Rattle.audit_types.specs.declared.shapes.Shape.{Shape}
use Rattle.audit_types.specs.declared.records.Answered.{Answered}
use Rattle.audit_types.specs.History.{FitsShape}
use Rattle.bench_core.specs.declared.bench.Bench.{Ghosts}
use Rattle.bench_core.specs.Calls.{IsQuiet, IsUntouched, LeavesOnly, OnlyReads}
use Rattle.bench_core.specs.Moments.{weakens}
use Rattle.answer_journal.specs.Append.{appended}
use Rattle.answer_journal.specs.FileCalls.{after_reads}
use Rattle.answer_journal.specs.Moments.{IsMade, IsUnmadeOrOpened, IsUnmadeOrWhole}
use Rattle.journal_form.specs.Journal.{StandsFor}
use Rattle.answer_journal.specs.Whole.{AreBehindGate}
use Rattle.answer_journal.proofs.WholeJournals.{stands_whole}

-- a file that isn't made, left alone
pub untouched_unmade : (shape : Shape) (list : List Answered) (file before : List ℕ) → (IsMade file → ⊥) → (image sent : List ℕ) →
    IsUntouched file before image sent →
    IsUnmadeOrWhole shape list before image sent
untouched_unmade shape list file before unmade image sent (same, is) = (
  same,
  inl (λ made. unmade (omega (arith, made.0, ap length is), ap (λ l. get_or l 0 0) (sym is) ∙ made.1)),
)

module _ (shape : Shape) (list : List Answered) (behind : List ℕ) (few : length list ≤ 65536) (fit : All (λ r. FitsShape shape r.column r.rows) list)
    (are : AreBehindGate shape list behind) where
  whole_or_unmade : (before image sent : List ℕ) → IsUnmadeOrOpened behind before image sent → IsUnmadeOrWhole shape list before image sent
  whole_or_unmade before image sent (same, inl unmade) = (same, inl unmade)
  whole_or_unmade before image sent (same, inr opened) = (same, inr (stands_whole shape list behind image few fit are opened))

  -- a look at a file that isn't made, and then the bytes behind its gate
  pub all_moments : {D : Type 0} (bench : Ghosts D) (old mid new : D) → (IsMade (bench.file old) → ⊥) → OnlyReads bench old mid → IsQuiet bench old →
      LeavesOnly bench mid new (IsUnmadeOrOpened behind (bench.sent mid)) → LeavesOnly bench old new (IsUnmadeOrWhole shape list (bench.sent old))
  all_moments bench old mid new unmade looked quiet wrote =
      after_reads bench old mid new (IsUnmadeOrWhole shape list) (untouched_unmade shape list (bench.file old) (bench.sent old) unmade) looked quiet
      (weakens bench mid new (IsUnmadeOrOpened behind (bench.sent mid)) (IsUnmadeOrWhole shape list (bench.sent mid))
      (λ image sent. whole_or_unmade (bench.sent mid) image sent) wrote)

  -- what is appended to a closed gate at the front stands for the list
  pub stands_appended : (file new : List ℕ) → new ≡ appended 0 behind file → StandsFor new shape list
  stands_appended file new is = stands_whole shape list behind new few fit are (record { rest = drop (0 + 1 + length behind) file; file_is = is })
