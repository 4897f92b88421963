-- What each call of a bench in memory leaves, by the record of its calls.
use Rattle.std.proofs.Common.{◌≡◌, ℕ, ◌+◌, ◌<◌, ◌≤◌, inl, inr, ⊎_elim, max, false, List, [], ◌∷◌, ◌++◌, length, get_or, take, refl, sym, ap, subst, ◌∙◌, arith, length-take, append-nil, ◌^◌, Err}
use Rattle.std.specs.Prelude.{nat_lt}
use Rattle.std.proofs.lemmas.Bool.{cases_Bool, cases_lt, lt-ltb}
use Rattle.std.proofs.lemmas.List.{take-take, take_all}
use Rattle.bench_core.specs.Causes.{HasCause, next_count}
use Rattle.bench_core.specs.Bench.{AppendsFront, Torn, Follows, Unsent, Sending, Elapses}
use Rattle.bench_core.specs.Crash.{IsImage}
use Rattle.bench_core.specs.Machine.{Call, wrote, unwritten, synced, sending, other, State, start, after, dirtied, written, Leaves, Found, During, Since}
use Rattle.bench_core.specs.MachineLaws.{after_all-push, elapses, synced_quiet}
use Rattle.bench_core.specs.BenchContents.{BenchContents, state_of, file_of, sent_of, may_leave, found_since, passed, failed, failed_write, failed_send, torn_byte, IsTornFile}
use Rattle.bench_core.specs.BenchLaws.{always_sound, reads_itself}
use Rattle.bench_core.proofs.Writes.{before_write, was_left, is_torn}
use Rattle.bench_core.proofs.TiedToItsCalls.{length-written}

pub passed_state : (b : BenchContents) (c : Call) → state_of (passed b c) ≡ after (state_of b) c
passed_state b c = after_all-push (start b.first) b.past c

-- the call alone joins the pairs since an earlier moment
pub time_passed : (b : BenchContents) (c : Call) (P : List ℕ → List ℕ → Type 0) → ((image sent : List ℕ) → During (state_of b) c image sent → P image sent)
    → Elapses (length b.past) (length (b.past ++ c ∷ [])) (found_since b) (Since (start b.first) (b.past ++ c ∷ [])) P
time_passed b c P here =
    let time = elapses (start b.first) b.past c in
    record {
      later = time.later;
      nothing_else = λ t image sent le since. ⊎_elim (λ was. inl was) (λ in_it. inr (here image sent in_it)) (time.nothing_else t image sent le since);
      keeps = time.keeps;
    }

-- nothing joins them
pub time_still : (b : BenchContents) (P : List ℕ → List ℕ → Type 0) → Elapses (length b.past) (length b.past) (found_since b) (found_since b) P
time_still b P = record { later = omega arith; nothing_else = λ t image sent le since. inl since; keeps = λ t image sent le since. since }

-- a call on the file finds what it leaves, and nothing more sent
pub time_unsent : (b : BenchContents) (c : Call) → ((image sent : List ℕ) → During (state_of b) c image sent → Found (after (state_of b) c) image sent)
    → (after (state_of b) c).sent ≡ (state_of b).sent
    → Elapses (length b.past) (length (b.past ++ c ∷ [])) (found_since b) (Since (start b.first) (b.past ++ c ∷ []))
    (Unsent (may_leave (passed b c)) (sent_of b))
time_unsent b c found same =
    time_passed b c (Unsent (may_leave (passed b c)) (sent_of b))
    (λ image sent in_it. let f = found image sent in_it in (subst (λ (s : State). Leaves s image) (sym (passed_state b c)) f.0, f.1 ∙ same))

-- a send finds a front of its piece sent
pub time_sending : (b : BenchContents) (piece whole : List ℕ) → ((sent : List ℕ) → AppendsFront (sent_of b) piece sent → AppendsFront (sent_of b) whole sent)
    → Elapses (length b.past) (length (b.past ++ sending piece ∷ [])) (found_since b) (Since (start b.first) (b.past ++ sending piece ∷ []))
    (Sending (may_leave (passed b (sending piece))) (sent_of b) whole)
time_sending b piece whole longer =
    time_passed b (sending piece) (Sending (may_leave (passed b (sending piece))) (sent_of b) whole)
    (λ image sent in_it. (
      subst (λ (s : State). Leaves s image) (sym (passed_state b (sending piece))) (record {
        no_shorter = in_it.0.no_shorter;
        no_longer = in_it.0.no_longer;
        same = in_it.0.same;
      }),
      longer sent in_it.1,
    ))

pub same_images : (b : BenchContents) (image : List ℕ) → may_leave (passed b other) image → may_leave b image
same_images b image left = subst (λ (s : State). Leaves s image) (passed_state b other) left

pub sent_images : (b : BenchContents) (piece image : List ℕ) → may_leave (passed b (sending piece)) image → may_leave b image
sent_images b piece image left =
    let after_it = subst (λ (s : State). Leaves s image) (passed_state b (sending piece)) left in
    record { no_shorter = after_it.no_shorter; no_longer = after_it.no_longer; same = after_it.same }

pub synced_file : (b : BenchContents) (image : List ℕ) → may_leave (passed b synced) image → image ≡ file_of b
synced_file b image left = synced_quiet (state_of b) image (subst (λ (s : State). Leaves s image) (passed_state b synced) left)

pub synced_images : (b : BenchContents) (image : List ℕ) → may_leave (passed b synced) image → may_leave b image
synced_images b image left = subst (λ (f : List ℕ). may_leave b f) (sym (synced_file b image left)) (reads_itself b)

-- a range that is torn to itself
pub torn_same : (at count : ℕ) (file : List ℕ) → Torn at count file file
torn_same at count file = record { before = refl; after = refl; no_shorter = omega arith; no_longer = omega arith }

pub follows_write : (b : BenchContents) (at : ℕ) (piece : List ℕ) → at ≤ length (file_of b) →
    Follows (Torn at (length piece)) (may_leave b) (may_leave (passed b (wrote at piece)))
follows_write b at piece inside image left =
    let s = state_of b in
    let file = written s.file at piece in
    let now = subst (λ (s : State). Leaves s image) (passed_state b (wrote at piece)) left in
    let image_left : IsImage s.stable (dirtied s.dirty at (length piece)) file image = record {
      no_shorter = now.no_shorter;
      no_longer = now.no_longer;
      same = now.same;
    } in
    let grown : length file ≤ max (length s.file) (at + length piece) = omega (arith, length-written s.file at piece inside) in (
      before_write s at (length piece) file image (always_sound b).long inside grown image_left,
      was_left s at (length piece) file image (always_sound b).long inside grown image_left,
      is_torn s at (length piece) file image (always_sound b).long inside grown image_left,
    )

pub follows_touch : (b : BenchContents) (at count : ℕ) → at ≤ length (file_of b) →
    Follows (Torn at count) (may_leave b) (may_leave (passed b (unwritten at count)))
follows_touch b at count inside image left =
    let s = state_of b in
    let now = subst (λ (s : State). Leaves s image) (passed_state b (unwritten at count)) left in
    let image_left : IsImage s.stable (dirtied s.dirty at count) s.file image = record {
      no_shorter = now.no_shorter;
      no_longer = now.no_longer;
      same = now.same;
    } in
    let grown : length s.file ≤ max (length s.file) (at + count) = omega arith in (
      before_write s at count s.file image (always_sound b).long inside grown image_left,
      was_left s at count s.file image (always_sound b).long inside grown image_left,
      is_torn s at count s.file image (always_sound b).long inside grown image_left,
    )

pub follows_nothing : (b : BenchContents) (at count : ℕ) → Follows (Torn at count) (may_leave b) (may_leave b)
follows_nothing b at count image left = (image, left, torn_same at count image)

-- a failed write touches its range, or nothing
pub touched_or_not : (b : BenchContents) (at count : ℕ) (Q : BenchContents → Type 0) → Q (record (failed b) { past = b.past ++ unwritten at count ∷ [] }) →
    Q (failed b) → Q (failed_write b at count)
touched_or_not b at count Q touched not = elim (cases_Bool (nat_lt b.calls b.room.calls)) [ inl e ↦ rw e touched | inr e ↦ rw e not ]

-- a failed send sends a front, or nothing
pub front_or_none : (b : BenchContents) (front : List ℕ) (Q : BenchContents → Type 0) → Q (record (failed b) { past = b.past ++ sending front ∷ [] }) →
    (front ≡ [] → Q (failed b)) → Q (failed_send b front)
front_or_none b [] Q some none = none refl
front_or_none b (x ∷ front) Q some none = some

-- the count of faults of a call that fails
pub failed_cause : {T E : Type 0} (e : E) (faults : ℕ) → faults < 2 ^ 64 → HasCause {T = T} faults (next_count faults) (Err e)
failed_cause e faults within = record { later = omega arith; failed = refl; steady = tt }

-- a front of a front
pub shorter_front : (before piece : List ℕ) (count : ℕ) (sent : List ℕ) → AppendsFront before (take count piece) sent → AppendsFront before piece sent
shorter_front before piece count sent (k, e) =
    elim (cases_lt k count) [
      | inl lt ↦ (k, e ∙ ap (λ front. before ++ front) (take-take k count piece (omega arith)))
      | inr le ↦ (count, e ∙ ap (λ front. before ++ front) (take_all k (take count piece) (omega (arith, length-take count piece))))
    ]

-- no front
pub no_front : (before piece : List ℕ) → AppendsFront before piece before
no_front before piece = (0, sym (append-nil before))

-- the stable bytes alone are an image
pub stable_image : (b : BenchContents) → may_leave b (state_of b).stable
stable_image b = record { no_shorter = omega arith; no_longer = (always_sound b).long; same = λ at lt clean. refl }

clean_byte : (s : State) (k : ℕ) → k < length s.stable → s.dirty k ≡ false → torn_byte s k ≡ get_or s.stable k 0
clean_byte s k lt clean = rw (clean, lt-ltb k (length s.stable) lt) refl

-- the file with another byte in each place that isn't stable is an image
pub torn_image : (b : BenchContents) (image : List ℕ) → IsTornFile (state_of b) image → may_leave b image
torn_image b image torn =
    let sound = always_sound b in
    record {
      no_shorter = omega (arith, torn.long, sound.long);
      no_longer = omega (arith, torn.long);
      same = λ k lt clean. torn.each k (omega (arith, lt, sound.long)) ∙ clean_byte (state_of b) k lt clean;
    }
