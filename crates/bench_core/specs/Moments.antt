-- What a call of several steps leaves at every moment, by what each of its steps leaves. Calls that only read, and failures.
use Rattle.std.proofs.Common.{◌≡◌, inl, inr, ⊎_elim, ℕ, ◌≤◌, List, sym, subst, ◌∙◌, arith}
use Rattle.bench_core.specs.declared.bench.Bench.{Ghosts}
use Rattle.bench_core.specs.Bench.{Elapses, Unsent, Stays}
use Rattle.bench_core.specs.Calls.{IsQuiet, LeavesOnly, IsUntouched, OnlyReads, TellsFault}
use Rattle.bench_core.specs.Causes.{Rose}

module _ {D : Type 0} (bench : Ghosts D) where
  -- before the first call
  pub started : (old : D) (P : List ℕ → List ℕ → Type 0) → ((image sent : List ℕ) → bench.since old (bench.moment old) image sent → P image sent) → LeavesOnly bench old old P
  started old P here = record { later = omega arith; each = here; before = λ t image sent le was. inl was }

  -- one call more, within which a crash finds what has P
  pub goes_on : (old mid new : D) (P within : List ℕ → List ℕ → Type 0) → LeavesOnly bench old mid P → Elapses (bench.moment mid) (bench.moment new) (bench.since mid) (bench.since new) within
      → ((image sent : List ℕ) → within image sent → P image sent) → LeavesOnly bench old new P
  goes_on old mid new P within so_far time here = record {
    later = omega (arith, so_far.later, time.later);
    each = λ image sent was. ⊎_elim (so_far.each image sent) (here image sent) (time.nothing_else (bench.moment old) image sent so_far.later was);
    before = λ t image sent le was. ⊎_elim (so_far.before t image sent le) (λ now. inr (here image sent now)) (time.nothing_else t image sent (omega (arith, le, so_far.later)) was);
  }

  -- two parts of a call, one after the other
  pub joins : (old mid new : D) (P : List ℕ → List ℕ → Type 0) → LeavesOnly bench old mid P → LeavesOnly bench mid new P → LeavesOnly bench old new P
  joins old mid new P first second = record {
    later = omega (arith, first.later, second.later);
    each = λ image sent was. ⊎_elim (first.each image sent) (λ here. here) (second.before (bench.moment old) image sent first.later was);
    before = λ t image sent le was. ⊎_elim (first.before t image sent le) (λ here. inr here) (second.before t image sent (omega (arith, le, first.later)) was);
  }

  -- what has P has Q
  pub weakens : (old new : D) (P Q : List ℕ → List ℕ → Type 0) → ((image sent : List ℕ) → P image sent → Q image sent) → LeavesOnly bench old new P → LeavesOnly bench old new Q
  weakens old new P Q to only = record {
    later = only.later;
    each = λ image sent was. to image sent (only.each image sent was);
    before = λ t image sent le was. ⊎_elim (λ earlier. inl earlier) (λ here. inr (to image sent here)) (only.before t image sent le was);
  }

  -- after calls that only read the bench is still quiet
  pub still_quiet : (old new : D) → OnlyReads bench old new → IsQuiet bench old → IsQuiet bench new
  still_quiet old new reads quiet image left = quiet image (reads.crash image left) ∙ sym reads.file

  -- one call that stays only reads. Since its first moment nothing else is found than what is there then
  pub one_read : (old new : D) → ((image sent : List ℕ) → bench.since old (bench.moment old) image sent → bench.leaves old image × (sent ≡ bench.sent old))
      → Stays bench.file bench.sent bench.leaves bench.moment bench.since old new → OnlyReads bench old new
  one_read old new only_now stays =
      let Untouched : List ℕ → List ℕ → Type 0 = IsUntouched (bench.file old) (bench.sent old) in
      record {
        file = stays.file;
        sent = stays.sent;
        crash = stays.crash;
        untouched = λ quiet.
            goes_on old old new Untouched (Unsent (bench.leaves new) (bench.sent old))
            (started old Untouched (λ image sent was. let now = only_now image sent was in (now.1, quiet image now.0)))
            stays.time (λ image sent within. (within.1, quiet image (stays.crash image within.0)));
      }

  -- two parts of a call that only read, one after the other
  pub then_reads : (old mid new : D) → OnlyReads bench old mid → OnlyReads bench mid new → OnlyReads bench old new
  then_reads old mid new first second = record {
    file = second.file ∙ first.file;
    sent = second.sent ∙ first.sent;
    crash = λ image left. first.crash image (second.crash image left);
    untouched = λ quiet.
        joins old mid new (IsUntouched (bench.file old) (bench.sent old)) (first.untouched quiet)
        (subst (λ (file : List ℕ). LeavesOnly bench mid new (IsUntouched file (bench.sent old))) first.file
        (subst (λ (sent : List ℕ). LeavesOnly bench mid new (IsUntouched (bench.file mid) sent)) first.sent
        (second.untouched (still_quiet old mid first quiet))));
  }

  -- a part in which no call failed, and then one that says it
  pub then_tells : (old mid new : D) (First Then : Type 0) → TellsFault bench old mid First → (First → ⊥) → TellsFault bench mid new Then → TellsFault bench old new Then
  then_tells old mid new First Then first none rest =
      let same = first.steady none in record {
        later = subst (λ (n : ℕ). n ≤ bench.faults new) same rest.later;
        failed = λ answered. subst (λ (n : ℕ). Rose n (bench.faults new)) same (rest.failed answered);
        last_call = rest.last_call;
        steady = λ other. rest.steady other ∙ same;
      }
