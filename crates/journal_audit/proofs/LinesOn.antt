-- Sending lines on one subject after another: what was sent on the first ones and then on more was sent on all of them.
use Rattle.std.proofs.Common.{◌≡◌, ℕ, List, [], ◌∷◌, ◌++◌, Result, Ok, Err, refl, sym, ◌∙◌, subst, arith}
use Rattle.std.proofs.lemmas.Bool.{false≢true}
use Rattle.std.proofs.lemmas.List.{append-nil}
use Rattle.std.specs.Result.{IsErr, IsErrAnd}
use Rattle.bench_core.specs.declared.bench.Bench.{Ghosts}
use Rattle.bench_core.specs.Bench.{Sending}
use Rattle.bench_core.specs.Causes.{Rose}
use Rattle.bench_core.specs.Calls.{IsQuiet, LeavesOnly}
use Rattle.bench_core.specs.Moments.{started, goes_on, joins, weakens}
use Rattle.bench_core.specs.declared.stops.Stop.{Stop}
use Rattle.bench_core.specs.declared.stops.Stop.TheVariants as stop
use Rattle.journal_audit.specs.Reports.{Audit, Subject, HasLine, IsLineOn, SendsFront, SendsMeanwhile, SendsLine, SendsLinesOn}
use Rattle.journal_audit.specs.Reports.AreLinesOn.{none, one, left_out}
use Rattle.journal_audit.proofs.Sending.{none_sent, one_sent, one_front, sent_then, front_of_more, then_front, takes_both}
use Rattle.journal_audit.specs.SendLaws.{none_front}

-- what an answer that is a refusal says
pub refusal_is : {T E : Type 0} (r : Result T E) (P : E → Type 0) → IsErr r × IsErrAnd r P → (e : E) × ((r ≡ Err e) × P e)
refusal_is (Ok x) P is = absurd (false≢true is.0)
refusal_is (Err e) P is = (e, (refl, is.1))

-- a moment that a bench has just come to
abbrev pub NowOnly : {D : Type 0} → Ghosts D → Type 0
NowOnly {D} bench = (at : D) (image sent : List ℕ) → bench.since at (bench.moment at) image sent → bench.leaves at image × (sent ≡ bench.sent at)

module _ {D : Type 0} (bench : Ghosts D) (only_now : NowOnly bench) (audit : Audit) where
  -- a crash now finds the file as it is, and what was sent
  found_now : (about : List Subject) (old : D) → IsQuiet bench old → LeavesOnly bench old old (SendsMeanwhile audit about (bench.file old) (bench.sent old))
  found_now about old quiet = started bench old (SendsMeanwhile audit about (bench.file old) (bench.sent old)) (λ image sent was.
      let now = only_now old image sent was in
      record {
        same = quiet image now.0;
        front = subst (λ bytes. SendsFront audit about (bench.sent old) bytes) (sym now.1)
            (none_front audit about (bench.sent old));
      })

  -- before the first line
  pub no_lines : (old : D) → SendsLinesOn bench audit [] old old (Ok tt)
  no_lines old = record {
    sends = λ told. none_sent audit (bench.sent old);
    part = λ told. tt;
    moments = λ told quiet. found_now [] old quiet;
    ticks = λ told. ([], none, omega arith);
    file = refl;
    crash = λ image left. left;
    later = omega arith;
    failed = λ is. cc;
    last_call = λ is. cc;
    steady = λ other. refl;
    ends = tt;
  }

  -- memory runs out before the next line
  pub no_memory : (about : List Subject) (old : D) → SendsLinesOn bench audit about old old (Err stop.NoMemory)
  no_memory about old = record {
    sends = λ told. tt;
    part = λ told. none_front audit about (bench.sent old);
    moments = λ told quiet. found_now about old quiet;
    ticks = λ told. tt;
    file = refl;
    crash = λ image left. left;
    later = omega arith;
    failed = λ is. cc;
    last_call = λ is. cc;
    steady = λ other. refl;
    ends = tt;
  }

  -- a line's send
  module _ (subject : Subject) (line : List ℕ) (has : HasLine audit subject) (is : IsLineOn audit subject line) (old new : D) where
    while_sending : {r : Result (Unit {0}) Stop} → SendsLine bench line old new r → IsQuiet bench old →
        LeavesOnly bench old new (SendsMeanwhile audit (subject ∷ []) (bench.file old) (bench.sent old))
    while_sending sends quiet =
        goes_on bench old old new (SendsMeanwhile audit (subject ∷ []) (bench.file old) (bench.sent old)) (Sending (bench.leaves new) (bench.sent old) line)
        (found_now (subject ∷ []) old quiet) sends.time
        (λ image sent within. record {
          same = quiet image (sends.crash image within.0);
          front =
              one_front audit subject line (bench.sent old) sent has is within.1;
        })

    -- it was sent, or a front of it was
    pub line_on : (r : Result (Unit {0}) Stop) → SendsLine bench line old new r → SendsLinesOn bench audit (subject ∷ []) old new r
    line_on (Ok u) sends = record {
      sends = λ told. one_sent audit subject line (bench.sent old) (bench.sent new) has is (sends.sends told);
      part = λ told. tt;
      moments = λ told quiet. while_sending sends quiet;
      ticks = λ told. (line ∷ [], one subject line has is none, sends.ticks told);
      file = sends.file;
      crash = sends.crash;
      later = sends.later;
      failed = sends.failed;
      last_call = sends.last_call;
      steady = sends.steady;
      ends = sends.ends;
    }
    line_on (Err e) sends = record {
      sends = λ told. tt;
      part = λ told. one_front audit subject line (bench.sent old) (bench.sent new) has is (sends.part told);
      moments = λ told quiet. while_sending sends quiet;
      ticks = λ told. tt;
      file = sends.file;
      crash = sends.crash;
      later = sends.later;
      failed = sends.failed;
      last_call = sends.last_call;
      steady = sends.steady;
      ends = sends.ends;
    }

  -- no line on what has none
  pub no_line_on : (subject : Subject) (old : D) → ¬ (HasLine audit subject) → SendsLinesOn bench audit (subject ∷ []) old old (Ok tt)
  no_line_on subject old lacks = record {
    sends = λ told. record { lines = []; are = left_out subject lacks none; sent_is = sym (append-nil (bench.sent old)) };
    part = λ told. tt;
    moments = λ told quiet. found_now (subject ∷ []) old quiet;
    ticks = λ told. ([], left_out subject lacks none, omega arith);
    file = refl;
    crash = λ image left. left;
    later = omega arith;
    failed = λ is. cc;
    last_call = λ is. cc;
    steady = λ other. refl;
    ends = tt;
  }

  module _ (xs ys : List Subject) (a b c : D) (first : SendsLinesOn bench audit xs a b (Ok tt)) where
    still_quiet : IsQuiet bench a → IsQuiet bench b
    still_quiet quiet image left = quiet image (first.crash image left) ∙ sym first.file

    while_both : (r : Result (Unit {0}) Stop) → SendsLinesOn bench audit ys b c r → bench.told → IsQuiet bench a →
        LeavesOnly bench a c (SendsMeanwhile audit (xs ++ ys) (bench.file a) (bench.sent a))
    while_both r second told quiet = joins bench a b c (SendsMeanwhile audit (xs ++ ys) (bench.file a) (bench.sent a))
        (weakens bench a b (SendsMeanwhile audit xs (bench.file a) (bench.sent a)) (SendsMeanwhile audit (xs ++ ys) (bench.file a) (bench.sent a))
        (λ image sent here. record { same = here.same; front = front_of_more audit xs ys (bench.sent a) sent here.front }) (first.moments told quiet))
        (weakens bench b c (SendsMeanwhile audit ys (bench.file b) (bench.sent b)) (SendsMeanwhile audit (xs ++ ys) (bench.file a) (bench.sent a))
        (λ image sent here. record {
          same = here.same ∙ first.file;
          front =
              then_front audit xs ys (bench.sent a) (bench.sent b) sent (first.sends told) here.front;
        })
        (second.moments told (still_quiet quiet)))

    -- the first lines and then more
    pub and_then : (r : Result (Unit {0}) Stop) → SendsLinesOn bench audit ys b c r → SendsLinesOn bench audit (xs ++ ys) a c r
    and_then (Ok u) second = record {
      sends = λ told. sent_then audit xs ys (bench.sent a) (bench.sent b) (bench.sent c) (first.sends told) (second.sends told);
      part = λ told. tt;
      moments = while_both (Ok u) second;
      ticks = λ told. takes_both audit xs ys (bench.moment a) (bench.moment b) (bench.moment c) (first.ticks told) (second.ticks told);
      file = second.file ∙ first.file;
      crash = λ image left. first.crash image (second.crash image left);
      later = omega (arith, first.later, second.later);
      failed = λ is. cc;
      last_call = λ is. cc;
      steady = λ other. second.steady (λ is. cc) ∙ first.steady (λ is. cc);
      ends = tt;
    }
    and_then (Err e) second = record {
      sends = λ told. tt;
      part = λ told. then_front audit xs ys (bench.sent a) (bench.sent b) (bench.sent c) (first.sends told) (second.part told);
      moments = while_both (Err e) second;
      ticks = λ told. tt;
      file = second.file ∙ first.file;
      crash = λ image left. first.crash image (second.crash image left);
      later = omega (arith, first.later, second.later);
      failed = λ is. subst (λ (n : ℕ). Rose n (bench.faults c)) (first.steady (λ is. cc)) (second.failed is);
      last_call = second.last_call;
      steady = λ other. second.steady other ∙ first.steady (λ is. cc);
      ends = second.ends;
    }

  -- a refusal among the first lines is one among all
  pub refused : (xs ys : List Subject) (a b : D) (e : Stop) → SendsLinesOn bench audit xs a b (Err e) → SendsLinesOn bench audit (xs ++ ys) a b (Err e)
  refused xs ys a b e first = record {
    sends = λ told. tt;
    part = λ told. front_of_more audit xs ys (bench.sent a) (bench.sent b) (first.part told);
    moments =
        λ told quiet. weakens bench a b (SendsMeanwhile audit xs (bench.file a) (bench.sent a)) (SendsMeanwhile audit (xs ++ ys) (bench.file a) (bench.sent a))
        (λ image sent here. record { same = here.same; front = front_of_more audit xs ys (bench.sent a) sent here.front }) (first.moments told quiet);
    ticks = λ told. tt;
    file = first.file;
    crash = first.crash;
    later = first.later;
    failed = first.failed;
    last_call = first.last_call;
    steady = first.steady;
    ends = first.ends;
  }

  -- a refusal on this, after the first lines and before others
  pub refused_among : (first this others all : List Subject) (a b c : D) (r : Result (Unit {0}) Stop) (e : Stop) → all ≡ first ++ this ++ others
      → r ≡ Err e
      → SendsLinesOn bench audit first a b (Ok tt) → SendsLinesOn bench audit this b c (Err e) → SendsLinesOn bench audit all a c r
  refused_among first this others all a b c r e split is before now =
      subst (λ l. SendsLinesOn bench audit l a c r) (sym split)
      (subst (λ r. SendsLinesOn bench audit (first ++ this ++ others) a c r) (sym is)
      (refused (first ++ this) others a c e (and_then first this a b c before (Err e) now)))
