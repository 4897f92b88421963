-- Places that a loop touches one after the other.
use Rattle.std.proofs.Common.{◌≡◌, ◌≢◌, ℕ, ◌+◌, ◌<◌, ◌≤◌, ◌⊎◌, inl, inr, Bool, true, false, ◌&&◌, ◌||◌, List, length, get_or, set, refl, sym, ap, ◌∙◌, arith, get_or-set_same, get_or-set_other, length-set}
use Rattle.std.specs.Prelude.{nat_le, nat_lt}
use Rattle.std.proofs.lemmas.Bool.{cases_eq, or_right}
use Rattle.std.proofs.lemmas.Bool.Decides.{nat_tests}
use Rattle.bench_core.specs.DiskContents.{is_dirty}

-- the places from `at` on, below `place`, are touched as well
pub record Touched (old : List Bool) (at place : ℕ) (new : List Bool) : Type 0 where
  pub flags : (k : ℕ) → is_dirty new k ≡ (is_dirty old k || (nat_le at k && nat_lt k place))
  pub long : length new ≡ length old

same_test : (at place k : ℕ) → k ≢ place → (nat_le at k && nat_lt k place) ≡ (nat_le at k && nat_lt k (place + 1))
same_test at place k other = grind (arith, nat_tests)

this_test : (at place : ℕ) → at ≤ place → (nat_le at place && nat_lt place (place + 1)) ≡ true
this_test at place le = grind (arith, nat_tests)

pub touched_more : (old : List Bool) (at place : ℕ) (new : List Bool) → at ≤ place → place < length new → Touched old at place new →
    Touched old at (place + 1) (set new place true)
touched_more old at place new le lt so_far = record {
  flags = λ k. elim (cases_eq k place) [
    | inl e ↦ ap (λ j. get_or (set new place true) j false) e ∙ get_or-set_same new place true false lt
        ∙ sym (ap (λ j. is_dirty old j || (nat_le at j && nat_lt j (place + 1))) e ∙ ap (λ b. is_dirty old place || b) (this_test at place le)
        ∙ or_right (is_dirty old place) true refl)
    | inr other ↦ get_or-set_other new place k true false other ∙ so_far.flags k ∙ ap (λ b. is_dirty old k || b) (same_test at place k other)
  ];
  long = length-set new place true ∙ so_far.long;
}

pub same_end : (at count end long k : ℕ) → k < long → (end ≡ at + count) ⊎ ((end ≡ long) × (long ≤ at + count)) →
    (nat_le at k && nat_lt k end) ≡ (nat_le at k && nat_lt k (at + count))
same_end at count end long k lt (inl e) = ap (λ n. nat_le at k && nat_lt k n) e
same_end at count end long k lt (inr e) = let e0 = e.0 in let e1 = e.1 in grind (arith, nat_tests)

none_test : (at place k : ℕ) → place ≤ at → (nat_le at k && nat_lt k place) ≡ false
none_test at place k le = grind (arith, nat_tests)

or_false : (a b : Bool) → b ≡ false → (a || b) ≡ a
or_false true b e = refl
or_false false b e = e

pub touched_none : (old : List Bool) (at : ℕ) → Touched old at at old
touched_none old at = record { flags = λ k. sym (or_false (is_dirty old k) _ (none_test at at k (omega arith))); long = refl }
