-- Laws of what holds of each answer of a list.
use Rattle.std.proofs.Common.{◌≡◌, List, [], ◌∷◌, ◌++◌, refl, subst, inl, inr, ◌⊎◌, ℕ, zero, suc, ◌<◌, length, get_or, ℤ, SFits, to_z, of_z, sym, ap, ◌∙◌, arith}
use Rattle.std.specs.List.{AllByRecursion}
use Rattle.audit_types.specs.Column.{Answer, IsOneOf}
use Rattle.audit_types.specs.Rows.{AreRows}
use Rattle.audit_types.specs.Extremes.{upper_bound, is_bound, extremes, IsConsistent}
use Rattle.std.specs.Int.{w64, w128}
use Rattle.std.proofs.lemmas.Int.{ints, to_z-of_z}
use Rattle.std.proofs.lemmas.List.{get_or_default}
use Rattle.max_bounds.specs.declared.answered.AnsweredMax.{AnsweredMax}
use Rattle.max_bounds.specs.Maxima.{answer_of, answers_of, no_pair, pair_at}
use Rattle.max_bounds.specs.RowListLaws.{filter-ascends}

module _ (P : Answer → Type 0) where
  -- what holds of all answers holds of each
  pub all_at : (answers : List Answer) (a : Answer) → AllByRecursion P answers → IsOneOf a answers → P a
  all_at [] a h one = absurd one
  all_at (x ∷ answers) a h (inl e) = subst P e h.0
  all_at (x ∷ answers) a h (inr later) = all_at answers a h.1 later

  -- what holds of each answer holds of all
  pub all_from : (answers : List Answer) → ((a : Answer) → IsOneOf a answers → P a) → AllByRecursion P answers
  all_from [] h = tt
  all_from (x ∷ answers) h = (h x (inl refl), all_from answers (λ a one. h a (inr one)))

  -- some answer passes, or none does
  pub one_or_none : (Q : Answer → Type 0) → ((a : Answer) → P a ⊎ Q a) → (answers : List Answer) →
      ((a : Answer) × IsOneOf a answers × P a) ⊎ ((a : Answer) → IsOneOf a answers → Q a)
  one_or_none Q test [] = inr (λ a one. absurd one)
  one_or_none Q test (x ∷ answers) = elim (test x) [
    | inl p ↦ inl (x, inl refl, p)
    | inr q ↦ elim (one_or_none Q test answers) [
      | inl (a, one, p) ↦ inl (a, inr one, p)
      | inr none ↦ inr (λ a one. elim one [ inl e ↦ subst Q e q | inr later ↦ none a later ])
    ]
  ]

-- an earlier answer is one of the answers with one more
pub one_of_front : (answers : List Answer) (x a : Answer) → IsOneOf a answers → IsOneOf a (answers ++ x ∷ [])
one_of_front [] x a one = absurd one
one_of_front (y ∷ answers) x a (inl e) = inl e
one_of_front (y ∷ answers) x a (inr later) = inr (one_of_front answers x a later)

-- and so is the last
pub one_of_last : (answers : List Answer) (x : Answer) → IsOneOf x (answers ++ x ∷ [])
one_of_last [] x = inl refl
one_of_last (y ∷ answers) x = inr (one_of_last answers x)

-- and there are no others
pub front_or_last : (answers : List Answer) (x a : Answer) → IsOneOf a (answers ++ x ∷ []) → IsOneOf a answers ⊎ (x ≡ a)
front_or_last [] x a (inl e) = inr e
front_or_last [] x a (inr later) = absurd later
front_or_last (y ∷ answers) x a (inl e) = inl (inl e)
front_or_last (y ∷ answers) x a (inr later) = elim (front_or_last answers x a later) [ inl one ↦ inl (inr one) | inr e ↦ inr e ]

-- an answer of the pair at a place is one of all
pub one_here : (pairs : List AnsweredMax) (i : ℕ) (x : AnsweredMax) → i < length pairs → x ≡ get_or pairs i x → IsOneOf (answer_of x) (answers_of pairs)
one_here [] i x within is = absurd (omega arith)
one_here (y ∷ pairs) zero x within is = inl (ap answer_of (sym is))
one_here (y ∷ pairs) (suc i) x within is = inr (one_here pairs i x (omega arith) is)

-- what is read at a place is what stands there
pub read_is : (pairs : List AnsweredMax) (i : ℕ) (x : AnsweredMax) → i < length pairs → x ≡ pair_at pairs i → x ≡ get_or pairs i x
read_is pairs i x within is = is ∙ get_or_default pairs i no_pair x within

-- an answer of 64 bits, as one of 128
pub widened : (a : ℤ) → SFits w64 a → to_z w128 (of_z w128 (to_z w64 (of_z w64 a))) ≡ a
widened a fits =
    ap (λ z. to_z w128 (of_z w128 z)) (to_z-of_z w64 a fits) ∙ to_z-of_z w128 a (let wide : SFits w128 a = omega (arith, ints) in wide)

-- the rows of an answer are rows of the table
pub rows_of : (n : ℕ) (answers : List Answer) → AllByRecursion (λ a. AreRows n a.rows) answers → (a : Answer) → IsOneOf a answers → AreRows n a.rows
rows_of n answers are a one = all_at (λ b. AreRows n b.rows) answers a are one

-- and so are its extreme rows
pub extreme_rows : (n : ℕ) (answers : List Answer) → AllByRecursion (λ a. AreRows n a.rows) answers → (a : Answer) → IsOneOf a answers →
    AreRows n (extremes answers a)
extreme_rows n answers are a one = filter-ascends 0 n (λ r. is_bound (upper_bound answers r) a.value) a.rows (rows_of n answers are a one)

-- of which it has one, if the answers are consistent
pub some_extreme : (answers : List Answer) → IsConsistent answers → (a : Answer) → IsOneOf a answers → 0 < length (extremes answers a)
some_extreme answers consistent a one = all_at (λ b. 0 < length (extremes answers b)) answers a consistent one
