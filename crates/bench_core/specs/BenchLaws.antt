-- The laws of the trait for a bench in memory.
use Rattle.std.proofs.Common.{◌≡◌, ℕ, ◌+◌, ◌-◌, ◌<◌, ◌≤◌, ◌⊎◌, inl, inr, false, List, [], ◌∷◌, ◌++◌, length, get_or, take, drop, refl, ap, ◌∙◌, arith, length-append, length-take, length-drop, append_assoc}
use Rattle.std.proofs.Math.ListN.{get_or-append}
use Rattle.std.proofs.lemmas.List.{get_or-append_right, get_or-take, get_or-drop}
use Rattle.std.proofs.lemmas.Bool.{or_parts}
use Rattle.std.proofs.lemmas.Bool.Decides.{nat_tests}
use Rattle.bench_core.specs.Machine.{Call, wrote, unwritten, synced, sending, other, State, start, after, after_all, in_range, written}
use Rattle.bench_core.specs.MachineLaws.{counts_now, only_now}
use Rattle.bench_core.specs.BenchContents.{BenchContents, state_of, file_of, sent_of, may_leave, found_since}

-- the file is as long as its stable bytes at least, and each of them that isn't dirty reads as it is
pub record IsSound (s : State) : Type 0 where
  pub long : length s.stable ≤ length s.file
  pub clean : (k : ℕ) → k < length s.stable → s.dirty k ≡ false → get_or s.file k 0 ≡ get_or s.stable k 0

-- a place out of the range is before it or after it
out_of_range : (at count k : ℕ) → in_range at count k ≡ false → (k < at) ⊎ (at + count ≤ k)
out_of_range at count k e = grind (arith, nat_tests)

-- a write leaves the places before it and after it
written_before : (file : List ℕ) (at : ℕ) (piece : List ℕ) (k : ℕ) → k < length file → k < at → get_or (written file at piece) k 0 ≡ get_or file k 0
written_before file at piece k inside before =
    ap (λ l. get_or l k 0) (append_assoc (take at file) piece (drop (at + length piece) file)) ∙ get_or-append (take at file) (piece ++ drop (at + length piece) file) 0 k (omega (arith, length-take at file)) ∙ get_or-take at file k 0 before

written_behind : (file : List ℕ) (at : ℕ) (piece : List ℕ) (k : ℕ) → k < length file → at + length piece ≤ k → get_or (written file at piece) k 0 ≡ get_or file k 0
written_behind file at piece k inside behind =
    let front : length (take at file ++ piece) ≡ at + length piece = omega (arith, length-append (take at file) piece, length-take at file) in
    get_or-append_right (take at file ++ piece) (drop (at + length piece) file) (at + length piece) k 0 front behind ∙ get_or-drop (at + length piece) file (k - (at + length piece)) 0 ∙ ap (λ n. get_or file n 0) (omega arith)

sound_after : (s : State) (c : Call) → IsSound s → IsSound (after s c)
sound_after s (wrote at piece) sound = record {
  long = omega (arith, sound.long, length-append (take at s.file ++ piece) (drop (at + length piece) s.file), length-append (take at s.file) piece, length-take at s.file, length-drop (at + length piece) s.file);
  clean = λ k lt clean. let neither = or_parts (s.dirty k) (in_range at (length piece) k) clean in
      elim (out_of_range at (length piece) k neither.1) [
        | inl low ↦ written_before s.file at piece k (omega (arith, lt, sound.long)) low ∙ sound.clean k lt neither.0
        | inr high ↦ written_behind s.file at piece k (omega (arith, lt, sound.long)) high ∙ sound.clean k lt neither.0
      ];
}
sound_after s (unwritten at count) sound = record { long = sound.long; clean = λ k lt clean. sound.clean k lt (or_parts (s.dirty k) (in_range at count k) clean).0 }
sound_after s synced sound = record { long = omega arith; clean = λ k lt clean. refl }
sound_after s (sending piece) sound = record { long = sound.long; clean = sound.clean }
sound_after s other sound = sound

sound_all : (s : State) (calls : List Call) → IsSound s → IsSound (after_all s calls)
sound_all s [] sound = sound
sound_all s (c ∷ calls) sound = sound_all (after s c) calls (sound_after s c sound)

pub always_sound : (bench : BenchContents) → IsSound (state_of bench)
always_sound bench = sound_all (start bench.first) bench.past (record { long = omega arith; clean = λ k lt clean. refl })

-- the file as it reads is one of the images
pub reads_itself : (bench : BenchContents) → may_leave bench (file_of bench)
reads_itself bench = let sound = always_sound bench in record { no_shorter = sound.long; no_longer = omega arith; same = sound.clean }

pub now_counts : (bench : BenchContents) (t : ℕ) (image : List ℕ) → t ≤ length bench.past → may_leave bench image → found_since bench t image (sent_of bench)
now_counts bench t image le left = counts_now (start bench.first) bench.past t image (sent_of bench) le (left, refl)

pub now_only : (bench : BenchContents) (image bytes : List ℕ) → found_since bench (length bench.past) image bytes → may_leave bench image × (bytes ≡ sent_of bench)
now_only bench image bytes since = only_now (start bench.first) bench.past image bytes since
