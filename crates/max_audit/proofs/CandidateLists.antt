-- The list of candidates: how it is gathered, and that it is all of them once it is sorted and rid of repeats.
use Rattle.std.proofs.Common.{◌≡◌, ℕ, zero, suc, ◌+◌, ◌<◌, ℤ, pos, List, [], ◌∷◌, ◌++◌, length, refl, sym, ap, ◌∙◌, subst, arith, inl, inr, ◌⊎◌, get_or, SFits, to_z, of_z, add-one}
use Rattle.std.specs.Prelude.{◌≤ℤ◌, ◌<ℤ◌, ◌+ℤ◌, ◌-ℤ◌, ◌↔◌}
use Rattle.std.specs.Int.{int_min, w64, w128}
use Rattle.std.specs.List.{AllByRecursion, All, Contains, dedup}
use Rattle.std.specs.List.Sorted.{IsPermutation, IsSorted, IsStrictlySortedBy}
use Rattle.std.specs.Ordering.{MatchOrdering, int_cmp, int_eq, eq_by_cmp}
use Rattle.std.specs.Cmp.{ranked_equal}
use Rattle.std.proofs.lemmas.Cmp.{int_ranked, int_cmp_total, int_eq_equiv}
use Rattle.std.proofs.lemmas.Bool.Decides.{Decides-int_eq, same_from_decides}
use Rattle.std.proofs.lemmas.List.Elements.{All-push}
use Rattle.std.proofs.lemmas.List.Filters.{All-dedup}
use Rattle.std.proofs.lemmas.List.Kept.{IsStrictlySortedBy-dedup, Contains-dedup, Contains-from_dedup}
use Rattle.std.proofs.lemmas.List.Sorted.{Contains-permutation, IsPermutation-sym, All-permutation}
use Rattle.std.proofs.lemmas.Int.{ints, clamps, by_lt_z}
use Rattle.audit_types.specs.Column.{Answer, IsOneOf}
use Rattle.audit_types.specs.Extremes.{IsCandidate}
use Rattle.audit_types.specs.Extremes.IsCandidate.{first, equal, above, below}
use Rattle.audit_types.specs.ListLaws.{all-push}
use Rattle.max_audit.specs.Candidates.{AreCandidates, IsBelowAll, IsNearRange}
use Rattle.max_bounds.specs.AnswerLaws.{all_at, all_from}

-- the least of some answers: one of all, and at most each that was taken
pub record IsLeastSoFar (all taken : List Answer) (least : ℤ) : Type 0 where
  pub one : (a : Answer) × IsOneOf a all × (a.value ≡ least)
  pub low : AllByRecursion (λ b. least ≤ℤ b.value) taken

-- one answer more
pub least_step : (all taken : List Answer) (least : ℤ) (x : Answer) → IsOneOf x all → IsLeastSoFar all taken least →
    IsLeastSoFar all (taken ++ x ∷ []) (int_min least x.value)
least_step all taken least x one h = record {
  one = elim (lesser least x.value) [
    | inl e ↦ (h.one.0, h.one.1, h.one.2 ∙ sym e)
    | inr e ↦ (x, one, sym e)
  ];
  low = all-push (λ b. int_min least x.value ≤ℤ b.value) taken x
      (all_from (λ b. int_min least x.value ≤ℤ b.value) taken
      (λ b among. let low = all_at (λ c. least ≤ℤ c.value) taken b h.low among in omega (arith, ints, clamps)))
      (omega (arith, ints, clamps));
}
  where
    lesser : (a b : ℤ) → (int_min a b ≡ a) ⊎ (int_min a b ≡ b)
    lesser a b = by_lt_z b a (λ less. inr (omega (arith, ints, clamps))) (λ not. inl (omega (arith, ints, clamps)))

-- the number below the least of all is below all
pub least_ends : (all : List Answer) (least : ℤ) → IsLeastSoFar all all least → IsBelowAll all (least -ℤ pos 1)
least_ends all least h = inr (h.one.0, h.one.1, subst (λ z. AllByRecursion (λ b. z ≤ℤ b.value) all) (sym h.one.2) h.low, ap (λ z. z -ℤ pos 1) (sym h.one.2))

-- each answer, and the number above it
abbrev pub around : List Answer → List ℤ
around [] = []
around (a ∷ answers) = a.value ∷ (a.value +ℤ pos 1) ∷ around answers

-- one answer more
pub around-push : (answers : List Answer) (x : Answer) → around (answers ++ x ∷ []) ≡ (around answers ++ x.value ∷ []) ++ (x.value +ℤ pos 1) ∷ []
around-push [] x = refl
around-push (a ∷ answers) x = ap (λ l. a.value ∷ (a.value +ℤ pos 1) ∷ l) (around-push answers x)

-- a list contains its first number
here : (x y : ℤ) (list : List ℤ) → y ≡ x → Contains (y ∷ list) x
here x y list e = (0, omega arith, e)

-- and those after it
later : (x y : ℤ) (list : List ℤ) → Contains list x → Contains (y ∷ list) x
later x y list (k, within, e) = (suc k, omega arith, e)

-- and no others
here_or_later : (x y : ℤ) (list : List ℤ) → Contains (y ∷ list) x → (y ≡ x) ⊎ Contains list x
here_or_later x y list (zero, within, e) = inl e
here_or_later x y list (suc k, within, e) = inr (k, omega arith, e)

-- a number of the list is an answer or the number above one
from_around : (answers : List Answer) (x : ℤ) → Contains (around answers) x → (a : Answer) × IsOneOf a answers × ((a.value ≡ x) ⊎ (a.value +ℤ pos 1 ≡ x))
from_around [] x (k, within, e) = absurd (omega arith)
from_around (a ∷ answers) x there = elim (here_or_later x a.value ((a.value +ℤ pos 1) ∷ around answers) there) [
  | inl e ↦ (a, inl refl, inl e)
  | inr rest ↦ elim (here_or_later x (a.value +ℤ pos 1) (around answers) rest) [
    | inl e ↦ (a, inl refl, inr e)
    | inr more ↦ let found = from_around answers x more in (found.0, inr found.1, found.2)
  ]
]

-- and each of these is in the list
to_around : (answers : List Answer) (x : ℤ) (a : Answer) → IsOneOf a answers → (a.value ≡ x) ⊎ (a.value +ℤ pos 1 ≡ x) → Contains (around answers) x
to_around [] x a one is = absurd one
to_around (b ∷ answers) x a (inl e) (inl is) = here x b.value ((b.value +ℤ pos 1) ∷ around answers) (ap (λ (y : Answer). y.value) e ∙ is)
to_around (b ∷ answers) x a (inl e) (inr is) =
    later x b.value ((b.value +ℤ pos 1) ∷ around answers) (here x (b.value +ℤ pos 1) (around answers) (ap (λ (y : Answer). y.value +ℤ pos 1) e ∙ is))
to_around (b ∷ answers) x a (inr among) is =
    later x b.value ((b.value +ℤ pos 1) ∷ around answers) (later x (b.value +ℤ pos 1) (around answers) (to_around answers x a among is))

-- what stands below all is a candidate
below_is_candidate : (answers : List Answer) (x : ℤ) → IsBelowAll answers x → IsCandidate answers x
below_is_candidate answers x (inl (e, f)) = rw (e, f) first
below_is_candidate answers x (inr (a, one, low, e)) = rw e (below a one low)

-- and no other is below all
candidate_below : (answers : List Answer) (lowest : ℤ) (a : Answer) → IsOneOf a answers → AllByRecursion (λ b. a.value ≤ℤ b.value) answers →
    IsBelowAll answers lowest → lowest ≡ a.value -ℤ pos 1
candidate_below answers lowest a one low (inl (e, f)) = absurd (subst (IsOneOf a) e one)
candidate_below answers lowest a one low (inr (b, other, least, e)) =
    let up = all_at (λ c. a.value ≤ℤ c.value) answers b low other in
    let down = all_at (λ c. b.value ≤ℤ c.value) answers a least one in
    omega (arith, ints)

-- the number below all, the answers and the numbers above them are the candidates
pub gathered : (answers : List Answer) (lowest : ℤ) → IsBelowAll answers lowest → (x : ℤ) → Contains (lowest ∷ around answers) x ↔ IsCandidate answers x
gathered answers lowest is x = (
  (λ there. elim (here_or_later x lowest (around answers) there) [
    | inl e ↦ subst (IsCandidate answers) e (below_is_candidate answers lowest is)
    | inr near ↦ let found = from_around answers x near in elim found.2 [
      | inl e ↦ subst (IsCandidate answers) e (equal found.0 found.1)
      | inr e ↦ subst (IsCandidate answers) e (above found.0 found.1)
    ]
  ]),
  (λ candidate. among answers lowest x is candidate),
)
  where
    among : (all : List Answer) (low x : ℤ) → IsBelowAll all low → IsCandidate all x → Contains (low ∷ around all) x
    among [] low x below_all first = elim below_all [
      | inl (e, f) ↦ here (pos 0) low [] f
      | inr found ↦ absurd found.1
    ]
    among all low x below_all (equal a one) = later a.value low (around all) (to_around all a.value a one (inl refl))
    among all low x below_all (above a one) = later (a.value +ℤ pos 1) low (around all) (to_around all (a.value +ℤ pos 1) a one (inr refl))
    among all low x below_all (below a one least) = here (a.value -ℤ pos 1) low (around all) (candidate_below all low a one least below_all)

-- the number below one of 64 bits, as the code computes it
pub one_below : (z : ℤ) → SFits w64 z → to_z w128 (of_z w128 (to_z w128 (of_z w128 z) -ℤ pos 1)) ≡ z -ℤ pos 1
one_below z fits = omega (arith, ints)

-- and the number above it
pub one_above : (z : ℤ) → SFits w64 z → to_z w128 (of_z w128 (to_z w128 (of_z w128 (to_z w64 (of_z w64 z))) +ℤ pos 1)) ≡ z +ℤ pos 1
one_above z fits = omega (arith, ints)

-- both are near the range
pub near_itself : (z : ℤ) → SFits w64 z → IsNearRange z
near_itself z fits = record { low = omega (arith, ints); high = omega (arith, ints) }

-- and so is the number above it
pub near_above : (z : ℤ) → SFits w64 z → IsNearRange (z +ℤ pos 1)
near_above z fits = record { low = omega (arith, ints); high = omega (arith, ints) }

-- the list with the numbers of one answer more
pub pushed : (lowest : ℤ) (taken : List Answer) (x : Answer) (before once twice : List ℤ) (w v : ℤ) → before ≡ lowest ∷ around taken →
    once ≡ before ++ w ∷ [] → twice ≡ once ++ v ∷ [] → w ≡ x.value → v ≡ x.value +ℤ pos 1 → twice ≡ lowest ∷ around (taken ++ x ∷ [])
pushed lowest taken x before once twice w v e f g same more = rw (g, f, e, same, more, around-push) refl

-- and they are as near the range
pub near-pushed : (a : ℤ) (before once twice : List ℤ) (w v : ℤ) → SFits w64 a → All IsNearRange before → once ≡ before ++ w ∷ [] → twice ≡ once ++ v ∷ [] →
    w ≡ a → v ≡ a +ℤ pos 1 → All IsNearRange twice
near-pushed a before once twice w v fits near f g same more =
    rw (g, f, same, more) (All-push IsNearRange _ _ (All-push IsNearRange _ _ near (near_itself a fits)) (near_above a fits))

-- strictly sorted numbers ascend, place by place
ascends : (list : List ℤ) → IsStrictlySortedBy int_cmp list → (k : ℕ) → k + 1 < length list → get_or list k (pos 0) <ℤ get_or list (k + 1) (pos 0)
unfolding IsStrictlySortedBy
ascends [] sorted k within = absurd (omega arith)
ascends (x ∷ []) sorted k within = absurd (omega arith)
ascends (x ∷ y ∷ list) sorted zero within = subst (λ r. MatchOrdering r (x <ℤ y) (x ≡ y) (y <ℤ x)) sorted.0.0 (int_ranked x y (int_cmp x y) refl)
ascends (x ∷ y ∷ list) sorted (suc k) within = rw add-one (rw add-one at (ascends (y ∷ list) sorted.1 k (omega arith)))

-- equal exactly if neither is less
tied : (x y : ℤ) → int_eq x y ≡ eq_by_cmp int_cmp x y
tied x y = same_from_decides (int_eq x y) (eq_by_cmp int_cmp x y) (Decides-int_eq x y) (ranked_equal x y (int_cmp x y) (int_ranked x y (int_cmp x y) refl))

-- sorted and rid of repeats, the list is that of all candidates
pub AreCandidates-sorted : (answers : List Answer) (lowest : ℤ) (raw sorted kept : List ℤ) → IsBelowAll answers lowest → raw ≡ lowest ∷ around answers →
    IsPermutation raw sorted → IsSorted int_cmp sorted → kept ≡ dedup int_eq sorted → AreCandidates answers kept
AreCandidates-sorted answers lowest raw sorted kept is all moved in_order rid = record {
  ascending = rw rid (ascends (dedup int_eq sorted) (IsStrictlySortedBy-dedup int_cmp_total tied sorted in_order));
  each = λ a. (
    (λ there. (gathered answers lowest is a).0 (rw all at (Contains-permutation sorted raw a (IsPermutation-sym raw sorted moved)
        (Contains-from_dedup int_eq sorted a (rw rid at there))))),
    (λ candidate. rw rid (Contains-dedup int_eq_equiv (λ x y. (Decides-int_eq x y).0) sorted a
        (Contains-permutation raw sorted a moved (rw all ((gathered answers lowest is a).1 candidate))))),
  );
}

-- and each is as near the range as those that were gathered
pub near-sorted : (raw sorted kept : List ℤ) → All IsNearRange raw → IsPermutation raw sorted → kept ≡ dedup int_eq sorted → All IsNearRange kept
near-sorted raw sorted kept near moved rid = rw rid (All-dedup int_eq IsNearRange sorted (All-permutation IsNearRange raw sorted moved near))
