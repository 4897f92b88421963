-- What a write may leave follows from what might have been left before it.
use Rattle.std.proofs.Common.{◌≡◌, ℕ, ◌+◌, ◌<◌, ◌≤◌, min, max, true, false, cond, List, length, get_or, take, drop, map, sym, ◌∙◌, inl, inr, ◌⊎◌, arith, length-take, length-drop}
use Rattle.std.specs.Prelude.{◌&&◌, nat_lt}
use Rattle.std.specs.List.{range_with_len}
use Rattle.std.proofs.lemmas.List.{get_or-take, get_or-drop}
use Rattle.std.proofs.lemmas.List.FromFn.{length-map-range_with_len, get_or-map-range_with_len}
use Rattle.std.proofs.lemmas.Grind.{same_number_lists}
use Rattle.std.proofs.lemmas.Bool.{cond-true, cond-false, cases_Bool, and_left, and_right, and_from, or_from, lt-ltb, lt-leb, le-ltb}
use Rattle.bench_core.specs.Bench.{Torn}
use Rattle.bench_core.specs.Crash.{IsImage}
use Rattle.bench_core.specs.Machine.{State, Leaves, in_range, dirtied}

module _ (s : State) (at count : ℕ) (file image : List ℕ) (sound : length s.stable ≤ length s.file) (inside : at ≤ length s.file)
    (grown : length file ≤ max (length s.file) (at + count)) (left : IsImage s.stable (dirtied s.dirty at count) file image) where
  cell : ℕ → ℕ
  cell k = cond (in_range at count k && nat_lt k (length s.stable)) (get_or s.stable k 0) (get_or image k 0)

  size : ℕ
  size = min (length image) (length s.file)

  -- the image before the write: the stable bytes stand in the range
  pub before_write : List ℕ
  before_write = map cell (range_with_len 0 size)

  length-before : length before_write ≡ min (length image) (length s.file)
  unfolding before_write size
  length-before = length-map-range_with_len cell 0 size

  reads : (k : ℕ) → k < min (length image) (length s.file) → get_or before_write k 0 ≡ cell k
  unfolding before_write size
  reads k lt = get_or-map-range_with_len cell 0 size k k 0 lt (omega arith)

  cell-out : (k : ℕ) → in_range at count k ≡ false → cell k ≡ get_or image k 0
  unfolding cell
  cell-out k out = cond-false _ _ _ (and_left (in_range at count k) (nat_lt k (length s.stable)) out)

  cell-in : (k : ℕ) → in_range at count k ≡ true → k < length s.stable → cell k ≡ get_or s.stable k 0
  unfolding cell
  cell-in k in_it lt = cond-true _ _ _ (and_from (in_range at count k) (nat_lt k (length s.stable)) in_it (lt-ltb k (length s.stable) lt))

  below : (k : ℕ) → k < at → in_range at count k ≡ false
  below k lt = and_left _ _ (lt-leb at k lt)

  above : (k : ℕ) → at + count ≤ k → in_range at count k ≡ false
  above k le = and_right _ _ (le-ltb k (at + count) le)

  clean : (k : ℕ) → k < length s.stable → s.dirty k ≡ false → get_or before_write k 0 ≡ get_or s.stable k 0
  clean k lt is = reads k (omega (arith, lt, sound, left.no_shorter)) ∙ by_range (cases_Bool (in_range at count k))
    where
      by_range : (in_range at count k ≡ true) ⊎ (in_range at count k ≡ false) → cell k ≡ get_or s.stable k 0
      by_range (inl in_it) = cell-in k in_it lt
      by_range (inr out) = cell-out k out ∙ left.same k lt (or_from (s.dirty k) (in_range at count k) is out)

  pub was_left : Leaves s before_write
  was_left = record {
    no_shorter = omega (arith, length-before, sound, left.no_shorter);
    no_longer = omega (arith, length-before);
    same = clean;
  }

  pub is_torn : Torn at count before_write image
  is_torn = record {
    before = same_number_lists (take at image) (take at before_write) (omega (arith, length-take at image, length-take at before_write, length-before, inside))
        (λ k lt.
        let low : k < at = omega (arith, lt, length-take at image) in
        let there : k < min (length image) (length s.file) = omega (arith, lt, length-take at image, inside) in
        get_or-take at image k 0 low ∙ sym (cell-out k (below k low)) ∙ sym (reads k there) ∙ sym (get_or-take at before_write k 0 low));
    after =
        same_number_lists (drop (at + count) image) (drop (at + count) before_write)
        (omega (arith, length-drop (at + count) image, length-drop (at + count) before_write, length-before, grown, left.no_longer))
        (λ k lt.
        let there : at + count + k < min (length image) (length s.file) = omega (arith, lt, length-drop (at + count) image, grown, left.no_longer) in
        get_or-drop (at + count) image k 0 ∙ sym (cell-out (at + count + k) (above (at + count + k) (omega arith))) ∙ sym (reads (at + count + k) there)
        ∙ sym (get_or-drop (at + count) before_write k 0));
    no_shorter = omega (arith, length-before);
    no_longer = omega (arith, length-before, grown, left.no_longer);
  }
