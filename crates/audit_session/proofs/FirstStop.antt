-- Before the first call a stop leaves the history and sends nothing.
use Rattle.std.proofs.Common.{◌≡◌, ℕ, ◌*◌, List, [], ◌++◌, take, sym, ◌∙◌, subst, refl, arith}
use Rattle.std.proofs.lemmas.List.{append-nil}
use Rattle.audit_types.specs.declared.records.Answered.{Answered}
use Rattle.table_load.specs.Database.{Database}
use Rattle.bench_core.specs.declared.bench.Bench.{Ghosts}
use Rattle.bench_core.specs.Calls.{IsQuiet, LeavesOnly}
use Rattle.bench_core.specs.Moments.{started}
use Rattle.line_wire.specs.Lines.{CountedLine}
use Rattle.question_plan.specs.Session.{AreReplies}
use Rattle.question_plan.specs.Replies.{IsDue}
use Rattle.audit_session.specs.Stops.{LeavesBoth, StopsOver, stands_over}
use Rattle.audit_session.specs.Ends.{ServesSome}
use Rattle.audit_session.specs.Groups.{SpareAmong}
use Rattle.audit_session.proofs.StopsOfGroups.{both_between, stop_between}

pub stops_first : {B : Type 0} (bench : Ghosts B) (at : B) (base : Database) (batch : ℕ) (history : List Answered) (lines : List CountedLine)
    → ((image bytes : List ℕ) → bench.since at (bench.moment at) image bytes → bench.leaves at image × (bytes ≡ bench.sent at))
    → IsQuiet bench at → stands_over base (bench.file at) history → LeavesOnly bench at at (StopsOver base batch history lines (bench.sent at))
stops_first bench at base batch history lines only_now quiet stands = started bench at _ (λ image bytes was.
    let found = only_now image bytes was in (
      [],
      found.1 ∙ sym (append-nil (bench.sent at)),
      stop_between (IsDue base) (stands_over base) batch history lines 0 [] image []
          (subst (λ (n : ℕ). AreReplies (IsDue base) history (take n lines) []) none tt)
          (subst (λ (h : List Answered). stands_over base image h) (sym (append-nil history))
          (subst (λ (f : List ℕ). stands_over base f history) (sym (quiet image found.0)) stands)) refl,
    ))
  where
    none : 0 ≡ 0 * batch
    none = omega arith

-- and no group was answered
pub serves_none : (base : Database) (batch : ℕ) (history : List Answered) (lines : List CountedLine) (sent : List ℕ)
    → ServesSome base history batch lines history sent sent
serves_none base batch history lines sent = record {
  count = 0;
  serves = record {
    replies = [];
    due = subst (λ (n : ℕ). AreReplies (IsDue base) history (take n lines) []) none tt;
    history_is = sym (append-nil history);
    sent_is = sym (append-nil sent);
  };
}
  where
    none : 0 ≡ 0 * batch
    none = omega arith

-- before the first call a spare's image stands as at the first stop
pub spare_first : {E : Type 0} (told : Type 0) (spare : Ghosts E) (at : E) (base : Database) (batch : ℕ) (history : List Answered) (lines : List CountedLine)
    → ((image bytes : List ℕ) → spare.since at (spare.moment at) image bytes → spare.leaves at image × (bytes ≡ spare.sent at))
    → IsQuiet spare at → stands_over base (spare.file at) history → LeavesOnly spare at at (SpareAmong told base batch history lines (spare.sent at))
spare_first told spare at base batch history lines only_now quiet stands = started spare at _ (λ image bytes was.
    let found = only_now image bytes was in
    let here = subst (λ (f : List ℕ). stands_over base f history) (sym (quiet image found.0)) stands in
    (found.1, ([], (([], stop_here [] image here), λ _. stop_here lines image here))))
  where
    none : 0 ≡ 0 * batch
    none = omega arith

    stop_here : (ls : List CountedLine) (image : List ℕ) → stands_over base image history → StopsOver base batch history ls [] image []
    stop_here ls image here = (
      [],
      refl,
      stop_between (IsDue base) (stands_over base) batch history ls 0 [] image []
          (subst (λ (n : ℕ). AreReplies (IsDue base) history (take n ls) []) none tt)
          (subst (λ (h : List Answered). stands_over base image h) (sym (append-nil history)) here) refl,
    )

-- before the first call both files stand for the history
pub both_first : {B E : Type 0} (bench : Ghosts B) (at : B) (spare : Ghosts E) (end : E) (base : Database) (batch : ℕ) (history : List Answered)
    (lines : List CountedLine) (image other : List ℕ) → IsQuiet bench at → stands_over base (bench.file at) history → IsQuiet spare end
    → stands_over base (spare.file end) history → bench.leaves at image → spare.leaves end other
    → LeavesBoth base batch history lines (bench.sent at) (bench.sent at) image other
both_first bench at spare end base batch history lines image other quiet stands spare_quiet spare_stands left spare_left =
    both_between base batch 0 history lines [] (bench.sent at) (bench.sent at) image other
    (subst (λ (n : ℕ). AreReplies (IsDue base) history (take n lines) []) none tt) (sym (append-nil (bench.sent at)))
    (here image (bench.file at) (quiet image left) stands) (here other (spare.file end) (spare_quiet other spare_left) spare_stands)
  where
    none : 0 ≡ 0 * batch
    none = omega arith

    here : (image file : List ℕ) → image ≡ file → stands_over base file history → stands_over base image (history ++ [])
    here image file same stands =
        subst (λ (h : List Answered). stands_over base image h) (sym (append-nil history))
        (subst (λ (f : List ℕ). stands_over base f history) (sym same) stands)
