-- The groups that a walk gathers, and the sampled rows that are found one by one.
use Rattle.std.proofs.Common.{◌≡◌, ℕ, ◌+◌, ◌*◌, ◌%◌, ◌^◌, ◌<◌, ◌≤◌, true, false, List, [], ◌∷◌, ◌++◌, refl, sym, ap, ◌∙◌, subst, arith, inl, inr}
use Rattle.std.specs.Prelude.{bit_or}
use Rattle.std.specs.Int.{bit_at, bit_not, w64}
use Rattle.std.proofs.lemmas.Nat.Bits.{bit_at-zero, bit_at_set_same, bit_at_set_other, bit_at-lt, bit_at_not}
use Rattle.std.proofs.lemmas.Bool.{true≢false, cases_eq}
use Rattle.audit_types.specs.Rows.{has_row}
use Rattle.audit_types.specs.WalkLaws.{has-push, has-front, has-last}
use Rattle.max_bounds.specs.Groups.{step_of, IsSample, IsInGroup, AreGroups}
use Rattle.max_bounds.proofs.Walks.{seen_before}

-- no row is in a group
pub no_groups : AreGroups IsInGroup [] 0
no_groups = record {
  has = λ r g there small is. absurd (true≢false (sym there));
  only = λ g small one. let none = bit_at-zero g in absurd (omega arith);
}

-- one row more adds its group
pub groups_more : (rows : List ℕ) (groups row : ℕ) → AreGroups IsInGroup rows groups →
    AreGroups IsInGroup (rows ++ row ∷ []) (bit_or groups (1 * 2 ^ (row % 64) % 2 ^ 64))
groups_more rows groups row are =
    let g = row % 64 in
    let below : g < 64 = omega arith in
    record {
      has = λ r q there small is. elim (cases_eq q g) [
        | inl same ↦ ap (bit_at (bit_or groups (1 * 2 ^ g % 2 ^ 64))) same ∙ bit_at_set_same w64 groups g below
        | inr apart ↦ bit_at_set_other w64 groups g below q apart ∙ elim (has-push rows row r there) [
          | inl front ↦ are.has r q front small is
          | inr last ↦ absurd (apart (sym is ∙ ap (λ k. k % 64) (sym last)))
        ]
      ];
      only = λ q small one. elim (cases_eq q g) [
        | inl same ↦ (row, has-last rows row, sym same)
        | inr apart ↦
            let found = are.only q small (sym (bit_at_set_other w64 groups g below q apart) ∙ one) in
            (found.0, has-front rows row found.0 found.1, found.2)
      ];
    }

-- a number of which no bit is unset has each group
all_groups : (groups : ℕ) → groups < 2 ^ 64 → bit_not w64 groups ≡ 0 → (g : ℕ) → g < 64 → bit_at groups g ≡ 1
all_groups groups fits none g below =
    let turned = bit_at_not w64 groups g fits below in
    let same = ap (λ x. bit_at x g) none ∙ bit_at-zero g in
    let bit = bit_at-lt groups g in
    omega arith

-- if each group was seen, the rows that are left add none
pub groups_complete : (yielded left later rows : List ℕ) (row groups : ℕ) → yielded ++ left ≡ rows → left ≡ row ∷ later →
    AreGroups IsInGroup (yielded ++ row ∷ []) groups → groups ≡ 18446744073709551615 → AreGroups IsInGroup rows groups
groups_complete yielded left later rows row groups together first are full = record {
  has = λ r g there small is. ap (λ x. bit_at x g) full ∙ all_groups 18446744073709551615 (omega arith) refl g small;
  only = λ g small one.
      let found = are.only g small one in
      (found.0, seen_before yielded left later rows row found.0 together first found.1, found.2);
}

-- ---- samples

-- of the sampled rows up to a number, those that are among these rows
pub record AreSamplesBelow (rows : List ℕ) (step : ℕ) (number : ℕ) (samples : ℕ) : Type 0 where
  pub has : (g : ℕ) → g < number → has_row rows (g * step) ≡ true → bit_at samples g ≡ 1
  pub only : (g : ℕ) → g < 64 → bit_at samples g ≡ 1 → has_row rows (g * step) ≡ true

pub no_samples : (rows : List ℕ) (step : ℕ) → AreSamplesBelow rows step 0 0
no_samples rows step = record {
  has = λ g less there. absurd (omega (arith, less));
  only = λ g small one. let none = bit_at-zero g in absurd (omega arith);
}

-- the next one is there
pub sample_more : (rows : List ℕ) (step number samples : ℕ) → number < 64 → AreSamplesBelow rows step number samples → has_row rows (number * step) ≡ true →
    AreSamplesBelow rows step (number + 1) (bit_or samples (1 * 2 ^ number % 2 ^ 64))
sample_more rows step number samples below so_far there = record {
  has = λ g less here. elim (cases_eq g number) [
    | inl same ↦ ap (bit_at (bit_or samples (1 * 2 ^ number % 2 ^ 64))) same ∙ bit_at_set_same w64 samples number below
    | inr apart ↦ bit_at_set_other w64 samples number below g apart ∙ so_far.has g (omega (arith, less, apart)) here
  ];
  only = λ g small one. elim (cases_eq g number) [
    | inl same ↦ ap (λ k. has_row rows (k * step)) same ∙ there
    | inr apart ↦ so_far.only g small (sym (bit_at_set_other w64 samples number below g apart) ∙ one)
  ];
}

-- or it isn't
pub sample_missing : (rows : List ℕ) (step number samples : ℕ) → AreSamplesBelow rows step number samples → has_row rows (number * step) ≡ false →
    AreSamplesBelow rows step (number + 1) samples
sample_missing rows step number samples so_far missing = record {
  has = λ g less here. elim (cases_eq g number) [
    | inl same ↦ absurd (true≢false (sym here ∙ ap (λ k. has_row rows (k * step)) same ∙ missing))
    | inr apart ↦ so_far.has g (omega (arith, less, apart)) here
  ];
  only = so_far.only;
}

-- at the end all samples were looked at
pub samples_complete : (n : ℕ) (rows : List ℕ) (step number samples : ℕ) → step ≡ step_of n → 64 ≤ number → AreSamplesBelow rows step number samples →
    AreGroups (IsSample n) rows samples
samples_complete n rows step number samples exact all so_far = record {
  has = λ r g there small is. so_far.has g (omega (arith, small, all))
      (subst (λ q. has_row rows q ≡ true) (is ∙ ap (λ s. g * s) (sym exact)) there);
  only = λ g small one. (g * step, so_far.only g small one, ap (λ s. g * s) exact);
}
