-- The laws of a bench that is kept by the record of its calls.
use Rattle.std.proofs.Common.{◌≡◌, ℕ, zero, suc, ◌≤◌, List, [], ◌∷◌, ◌++◌, length, refl, sym, ◌∙◌, ap, inl, inr, ◌⊎◌, ⊎_elim, arith, length-append}
use Rattle.std.proofs.Math.Seq.{take-length}
use Rattle.std.proofs.lemmas.Grind.{same_number_lists}
use Rattle.bench_core.specs.Bench.{Elapses}
use Rattle.bench_core.specs.Machine.{Call, wrote, unwritten, synced, sending, other, State, after, after_all, Leaves, Found, During, Since}

-- what is found after a call is found in it
found_during : (s : State) (c : Call) (image sent : List ℕ) → Found (after s c) image sent → During s c image sent
found_during s (wrote at piece) image sent found = found
found_during s (unwritten at count) image sent found = found
found_during s synced image sent found = found
found_during s (sending piece) image sent found = (record { no_shorter = found.0.no_shorter; no_longer = found.0.no_longer; same = found.0.same }, (length piece, found.1 ∙ ap (λ whole. s.sent ++ whole) (sym (take-length piece))))
found_during s other image sent found = found

adds : (s : State) (calls : List Call) (c : Call) (t : ℕ) (image sent : List ℕ) → t ≤ length calls → Since s (calls ++ c ∷ []) t image sent → Since s calls t image sent ⊎ During (after_all s calls) c image sent
adds s [] c zero image sent le (inl now) = inl now
adds s [] c zero image sent le (inr (inl in_it)) = inr in_it
adds s [] c zero image sent le (inr (inr then)) = inr (found_during s c image sent then)
adds s [] c (suc t) image sent le since = absurd (omega arith)
adds s (d ∷ calls) c zero image sent le (inl now) = inl (inl now)
adds s (d ∷ calls) c zero image sent le (inr (inl in_it)) = inl (inr (inl in_it))
adds s (d ∷ calls) c zero image sent le (inr (inr then)) = ⊎_elim (λ was. inl (inr (inr was))) (λ new. inr new) (adds (after s d) calls c zero image sent (omega arith) then)
adds s (d ∷ calls) c (suc t) image sent le since = adds (after s d) calls c t image sent (omega arith) since

keeps : (s : State) (calls : List Call) (c : Call) (t : ℕ) (image sent : List ℕ) → t ≤ length calls → Since s calls t image sent → Since s (calls ++ c ∷ []) t image sent
keeps s [] c zero image sent le now = inl now
keeps s [] c (suc t) image sent le none = absurd none
keeps s (d ∷ calls) c zero image sent le (inl now) = inl now
keeps s (d ∷ calls) c zero image sent le (inr (inl in_it)) = inr (inl in_it)
keeps s (d ∷ calls) c zero image sent le (inr (inr then)) = inr (inr (keeps (after s d) calls c zero image sent (omega arith) then))
keeps s (d ∷ calls) c (suc t) image sent le since = keeps (after s d) calls c t image sent (omega arith) since

-- one call more
pub elapses : (s : State) (calls : List Call) (c : Call) → Elapses (length calls) (length (calls ++ c ∷ [])) (Since s calls) (Since s (calls ++ c ∷ [])) (During (after_all s calls) c)
elapses s calls c = record {
  later = omega (arith, length-append calls (c ∷ []));
  nothing_else = adds s calls c;
  keeps = keeps s calls c;
}

-- this moment is one of those since an earlier one
pub counts_now : (s : State) (calls : List Call) (t : ℕ) (image sent : List ℕ) → t ≤ length calls → Found (after_all s calls) image sent → Since s calls t image sent
counts_now s [] zero image sent le now = now
counts_now s [] (suc t) image sent le now = absurd (omega arith)
counts_now s (d ∷ calls) zero image sent le now = inr (inr (counts_now (after s d) calls zero image sent (omega arith) now))
counts_now s (d ∷ calls) (suc t) image sent le now = counts_now (after s d) calls t image sent (omega arith) now

-- since this moment there is no other
pub only_now : (s : State) (calls : List Call) (image sent : List ℕ) → Since s calls (length calls) image sent → Found (after_all s calls) image sent
only_now s [] image sent now = now
only_now s (d ∷ calls) image sent since = only_now (after s d) calls image sent since

-- a sync leaves the file alone
pub synced_quiet : (s : State) (image : List ℕ) → Leaves (after s synced) image → image ≡ s.file
synced_quiet s image left = same_number_lists image s.file (omega (arith, left.no_shorter, left.no_longer)) (λ k inside. left.same k (omega (arith, inside, left.no_longer)) refl)

-- the state after one call more
pub after_all-push : (s : State) (calls : List Call) (c : Call) → after_all s (calls ++ c ∷ []) ≡ after (after_all s calls) c
after_all-push s [] c = refl
after_all-push s (d ∷ calls) c = after_all-push (after s d) calls c
