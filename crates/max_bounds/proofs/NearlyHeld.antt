-- Sets with descending answers: the first of which few people are left, and those of its answer that are held whole.
use Rattle.std.proofs.Common.{◌≡◌, ◌≢◌, ℕ, List, [], ◌∷◌, ◌++◌, refl, sym, ap, ◌∙◌, subst, arith, inl, inr, ◌⊎◌}
use Rattle.std.specs.Prelude.{◌≤ℤ◌}
use Rattle.std.specs.List.{AllByRecursion}
use Rattle.std.proofs.lemmas.Int.{ints, by_lt_z}
use Rattle.audit_types.specs.Column.{Answer, IsOneOf}
use Rattle.max_bounds.specs.Kept.{left_of}
use Rattle.audit_types.specs.Headcount.{Headcount, AreFew}
use Rattle.max_bounds.specs.Few.{HasNearlyHeld}
use Rattle.max_bounds.specs.Outside.{HasWithin}
use Rattle.max_bounds.specs.AnswerLaws.{all_at, front_or_last}

-- an answer of two lists, one after the other, is of one of them
of_either : (xs ys : List Answer) (a : Answer) → IsOneOf a (xs ++ ys) → IsOneOf a xs ⊎ IsOneOf a ys
of_either [] ys a one = inr one
of_either (x ∷ xs) ys a (inl e) = inl (inl e)
of_either (x ∷ xs) ys a (inr later) = elim (of_either xs ys a later) [ inl front ↦ inl (inr front) | inr rest ↦ inr rest ]

of_first : (xs ys : List Answer) (a : Answer) → IsOneOf a xs → IsOneOf a (xs ++ ys)
of_first [] ys a one = absurd one
of_first (x ∷ xs) ys a (inl e) = inl e
of_first (x ∷ xs) ys a (inr later) = inr (of_first xs ys a later)

of_second : (xs ys : List Answer) (a : Answer) → IsOneOf a ys → IsOneOf a (xs ++ ys)
of_second [] ys a one = one
of_second (x ∷ xs) ys a one = inr (of_second xs ys a one)

-- of each of the sets so far rows of enough people are left
pub record AreSeen (people : Headcount) (seen : List Answer) (rows : List ℕ) : Type 0 where
  pub some : (b : Answer) → IsOneOf b seen → left_of rows b ≢ []
  pub many : (b : Answer) → IsOneOf b seen → AreFew people [] (left_of rows b) → ⊥

pub none_seen : (people : Headcount) (rows : List ℕ) → AreSeen people [] rows
none_seen people rows = record { some = λ b one. absurd one; many = λ b one. absurd one }

-- and of one more
pub seen_more : (people : Headcount) (seen : List Answer) (rows : List ℕ) (x : Answer) → AreSeen people seen rows → left_of rows x ≢ [] →
    (AreFew people [] (left_of rows x) → ⊥) → AreSeen people (seen ++ x ∷ []) rows
seen_more people seen rows x h some many = record {
  some = λ b one. elim (front_or_last seen x b one) [
    | inl front ↦ h.some b front
    | inr last ↦ λ none. some (ap (left_of rows) last ∙ none)
  ];
  many = λ b one. elim (front_or_last seen x b one) [
    | inl front ↦ h.many b front
    | inr last ↦ λ few. many (subst (λ (y : Answer). AreFew people [] (left_of rows y)) (sym last) few)
  ];
}

-- so none of them is nearly held
pub none_held : (people : Headcount) (seen : List Answer) (rows : List ℕ) → AreSeen people seen rows → HasNearlyHeld people (λ a. a.rows) seen rows → ⊥
none_held people seen rows h (a, held) = h.many a held.one held.few_left

module _ (people : Headcount) (seen : List Answer) (rows : List ℕ) (x : Answer) (rest : List Answer) (low : AllByRecursion (λ b. b.value ≤ℤ x.value) rest)
    (h : AreSeen people seen rows) where
  -- once a set is held whole, none is nearly held
  pub held_never : left_of rows x ≡ [] → HasNearlyHeld people (λ a. a.rows) (seen ++ x ∷ rest) rows → ⊥
  held_never whole (a, held) =
      let above = held.lower x (of_second seen (x ∷ rest) x (inl refl)) whole in
      elim (of_either seen (x ∷ rest) a held.one) [
        | inl front ↦ h.many a front held.few_left
        | inr later ↦ elim later [
          | inl last ↦ held.some_left (ap (left_of rows) (sym last) ∙ whole)
          | inr behind ↦ let under = all_at (λ c. c.value ≤ℤ x.value) rest a low behind in absurd (omega (arith, ints))
        ]
      ]

  -- the first of which few are left is nearly held if none of its answer is held whole
  pub held_here : left_of rows x ≢ [] → AreFew people [] (left_of rows x) → (HasWithin (seen ++ x ∷ rest) rows x.value → ⊥) →
      HasNearlyHeld people (λ a. a.rows) (seen ++ x ∷ rest) rows
  held_here some few none = (
    x,
    record {
      one = of_second seen (x ∷ rest) x (inl refl);
      some_left = some;
      few_left = few;
      lower = λ b one whole. elim (of_either seen (x ∷ rest) b one) [
        | inl front ↦ absurd (h.some b front whole)
        | inr later ↦ elim later [
          | inl last ↦ absurd (some (ap (left_of rows) last ∙ whole))
          | inr behind ↦ let under = all_at (λ c. c.value ≤ℤ x.value) rest b low behind in
              by_lt_z b.value x.value (λ less. less) (λ late. absurd (none (b, one, record { same = omega (arith, ints, under, late); none_left = whole })))
        ]
      ];
    },
  )

  -- and otherwise none is
  pub not_held : HasWithin (seen ++ x ∷ rest) rows x.value → HasNearlyHeld people (λ a. a.rows) (seen ++ x ∷ rest) rows → ⊥
  not_held (b, one, is) (a, held) =
      let above = held.lower b one is.none_left in
      let same = is.same in
      elim (of_either seen (x ∷ rest) a held.one) [
        | inl front ↦ h.many a front held.few_left
        | inr later ↦ elim later [
          | inl last ↦ let equal : x.value ≡ a.value = ap (λ (y : Answer). y.value) last in absurd (omega (arith, ints))
          | inr behind ↦ let under = all_at (λ c. c.value ≤ℤ x.value) rest a low behind in absurd (omega (arith, ints))
        ]
      ]
