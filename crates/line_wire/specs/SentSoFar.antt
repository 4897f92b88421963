-- What was sent so far, piece by piece, while the file stays.
use Rattle.std.proofs.Common.{◌≡◌, ℕ, ◌+◌, List, [], ◌++◌, length, take, refl, sym, ◌∙◌, ap, subst, arith, append_assoc}
use Rattle.std.proofs.Math.Seq.{take-append-add}
use Rattle.std.proofs.lemmas.List.{append-nil}
use Rattle.bench_core.specs.declared.bench.Bench.{Ghosts}
use Rattle.bench_core.specs.Bench.{AppendsFront, Elapses, Sending}
use Rattle.bench_core.specs.Calls.{IsQuiet, LeavesOnly}
use Rattle.bench_core.specs.Moments.{started, goes_on}

-- these bytes were sent, by so many calls of which none failed, and each crash meanwhile finds what has P
pub record SentSoFar {B : Type 0} (bench : Ghosts B) (first now : B) (P : List ℕ → List ℕ → Type 0) (bytes : List ℕ) (count : ℕ) : Type 0 where
  pub sent : bench.told → bench.sent now ≡ bench.sent first ++ bytes
  pub file : bench.file now ≡ bench.file first
  pub crash : (image : List ℕ) → bench.leaves now image → bench.leaves first image
  pub moments : bench.told → IsQuiet bench first → LeavesOnly bench first now P
  pub ticks : bench.told → bench.moment now ≡ bench.moment first + count
  pub steady : bench.faults now ≡ bench.faults first

module _ {B : Type 0} (bench : Ghosts B) (first : B) (P : List ℕ → List ℕ → Type 0) where
  -- before the first call nothing was
  pub none_sent : ((image sent : List ℕ) → bench.since first (bench.moment first) image sent → bench.leaves first image × (sent ≡ bench.sent first))
      → ((image : List ℕ) → image ≡ bench.file first → P image (bench.sent first)) → SentSoFar bench first first P [] 0
  none_sent only_now none = record {
    sent = λ told. sym (append-nil (bench.sent first));
    file = refl;
    crash = λ image left. left;
    moments = λ told quiet. started bench first P (λ image sent was.
        let found = only_now image sent was in
        subst (λ (l : List ℕ). P image l) (sym found.1) (none image (quiet image found.0)));
    ticks = λ told. omega arith;
    steady = refl;
  }

  -- a call that sends one piece more, or a front of it
  module _ (now : B) (bytes : List ℕ) (count : ℕ) (so_far : SentSoFar bench first now P bytes count) (piece all : List ℕ) (is : all ≡ bytes ++ piece)
      (may : (image sent : List ℕ) → image ≡ bench.file first → AppendsFront (bench.sent first) all sent → P image sent)
      (new : B) (file : bench.file new ≡ bench.file now) (crash : (image : List ℕ) → bench.leaves new image → bench.leaves now image)
      (time : Elapses (bench.moment now) (bench.moment new) (bench.since now) (bench.since new) (Sending (bench.leaves new) (bench.sent now) piece)) where
    -- a front of all is sent
    pub front_sent : bench.told → (sent : List ℕ) → AppendsFront (bench.sent now) piece sent → AppendsFront (bench.sent first) all sent
    front_sent told sent part = (
      length bytes + part.0,
      part.1 ∙ ap (λ (l : List ℕ). l ++ take part.0 piece) (so_far.sent told)
          ∙ append_assoc (bench.sent first) bytes (take part.0 piece)
          ∙ ap (λ (l : List ℕ). bench.sent first ++ l)
          (sym (take-append-add bytes piece part.0) ∙ ap (λ (l : List ℕ). take (length bytes + part.0) l) (sym is)),
    )

    pub moments_then : bench.told → IsQuiet bench first → LeavesOnly bench first new P
    moments_then told quiet =
        goes_on bench first now new P (Sending (bench.leaves new) (bench.sent now) piece) (so_far.moments told quiet) time
        (λ image sent found. may image sent (quiet image (so_far.crash image (crash image found.0))) (front_sent told sent found.1))

    -- all is sent
    pub one_sent : (bench.told → bench.sent new ≡ bench.sent now ++ piece) → (bench.told → bench.moment new ≡ bench.moment now + 1)
        → bench.faults new ≡ bench.faults now → SentSoFar bench first new P all (count + 1)
    one_sent whole ticks still = record {
      sent = λ told.
          whole told ∙ ap (λ (l : List ℕ). l ++ piece) (so_far.sent told) ∙ append_assoc (bench.sent first) bytes piece
          ∙ ap (λ (l : List ℕ). bench.sent first ++ l) (sym is);
      file = file ∙ so_far.file;
      crash = λ image left. so_far.crash image (crash image left);
      moments = moments_then;
      ticks = λ told. omega (arith, ticks told, so_far.ticks told);
      steady = still ∙ so_far.steady;
    }
