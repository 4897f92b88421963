-- Walks over the answers and over the rows of a set, as far as an outlook asks: what is left of the extreme rows of each answer, and how high
-- the rows can be.
use Rattle.std.proofs.Common.{◌≡◌, ℕ, Bool, true, false, ℤ, List, [], ◌∷◌, ◌++◌, refl, sym, ap, ◌∙◌, subst, arith, inl, inr, ◌⊎◌}
use Rattle.std.specs.Prelude.{◌≤ℤ◌, IsTrue}
use Rattle.std.specs.List.{AllByRecursion}
use Rattle.std.proofs.lemmas.Int.{ints, clamps, by_lt_z}
use Rattle.audit_types.specs.Rows.{has_row}
use Rattle.audit_types.specs.Headcount.{Headcount, AreFew}
use Rattle.audit_types.specs.Column.{Answer, IsOneOf}
use Rattle.audit_types.specs.Extremes.{upper_bound, extremes}
use Rattle.audit_types.specs.ListLaws.{all-push, all-weaker}
use Rattle.audit_types.specs.WalkLaws.{has-push, has-front, has-last}
use Rattle.max_bounds.specs.Kept.{rows_at_least}
use Rattle.max_bounds.specs.Outside.{outside}
use Rattle.denial_proof.specs.declared.outlook.Left.{Left}
use Rattle.denial_proof.specs.declared.outlook.Left.TheVariants.{Nothing, Few, More}
use Rattle.denial_proof.specs.declared.outlook.Holding.{Holding}
use Rattle.denial_proof.specs.declared.outlook.Reach.{Reach}
use Rattle.denial_proof.specs.Outlook.{below_all, reach_of, IsLeft, IsHeldWhole, HasMoreOutside, HoldsAfter, IsHolding, ReachesAfter}

-- the walk over the answers, with one more
pub holding_step : (answers : List Answer) (people : Headcount) (rows : List ℕ) (seen : List Answer) (x : Answer) (left : Left) (old new : Holding) →
    AreFew people [] [] → IsOneOf x answers → IsLeft people (outside rows (extremes answers x)) left → HoldsAfter old left x.value new →
    IsHolding answers people rows seen old → IsHolding answers people rows (seen ++ x ∷ []) new
holding_step answers people rows seen x left old new few_none one is after before = by_left left is after
  where
    -- the others still have more outside, or are not above a number that is no less
    others : old.stranded ≤ℤ new.stranded → HasMoreOutside answers people rows x ⊎ (x.value ≤ℤ new.stranded) →
        AllByRecursion (λ a. HasMoreOutside answers people rows a ⊎ (a.value ≤ℤ new.stranded)) (seen ++ x ∷ [])
    others more own =
        all-push (λ a. HasMoreOutside answers people rows a ⊎ (a.value ≤ℤ new.stranded)) seen x
        (all-weaker (λ (a : Answer). HasMoreOutside answers people rows a ⊎ (a.value ≤ℤ old.stranded))
        (λ (a : Answer). HasMoreOutside answers people rows a ⊎ (a.value ≤ℤ new.stranded))
        (λ a told. elim told [ inl more_left ↦ inl more_left | inr most ↦ inr (omega (arith, ints)) ]) seen before.others) own

    Outside : ℤ → Answer → Type 0
    Outside whole a = (¬ (IsHeldWhole answers rows a)) ⊎ (a.value ≤ℤ whole)

    -- the others still have rows outside, or are not above a number that is no less
    greatest : old.whole ≤ℤ new.whole → Outside new.whole x → AllByRecursion (Outside new.whole) (seen ++ x ∷ [])
    greatest more own =
        all-push (Outside new.whole) seen x
        (all-weaker (Outside old.whole) (Outside new.whole)
        (λ a told. elim told [ inl some ↦ inl some | inr most ↦ inr (omega (arith, ints)) ]) seen before.greatest) own

    Whole : ℤ → Type 0
    Whole whole = (whole ≡ below_all) ⊎ ((a : Answer) × IsOneOf a answers × IsHeldWhole answers rows a × (a.value ≡ whole))

    by_left : (l : Left) → IsLeft people (outside rows (extremes answers x)) l → HoldsAfter old l x.value new →
        IsHolding answers people rows (seen ++ x ∷ []) new
    by_left Nothing held (whole, stranded) = record {
      whole = by_lt_z old.whole x.value
          (λ less. inr (x, one, held, omega (arith, ints, clamps)))
          (λ kept. let same : old.whole ≡ new.whole = omega (arith, ints, clamps) in subst Whole same before.whole);
      greatest = greatest (omega (arith, ints, clamps)) (inr (omega (arith, ints, clamps)));
      others = others (omega (arith, ints, clamps)) (inr (omega (arith, ints, clamps)));
    }
    by_left Few held (whole, stranded) = record {
      whole = subst Whole (sym whole) before.whole;
      greatest = greatest (omega (arith, ints)) (inl held);
      others = others (omega (arith, ints, clamps)) (inr (omega (arith, ints, clamps)));
    }
    by_left More many same = record {
      whole = subst (λ (h : Holding). Whole h.whole) (sym same) before.whole;
      greatest = greatest (let equal = ap (λ (h : Holding). h.whole) same in omega (arith, ints))
          (inl (λ none. many (subst (AreFew people []) (sym none) few_none)));
      others = others (let equal = ap (λ (h : Holding). h.stranded) same in omega (arith, ints)) (inl many);
    }

-- the walk over the rows, with one more
pub top_after : (answers : List Answer) (yielded : List ℕ) (r : ℕ) (old new : Reach) (are_many : Bool) →
    ((q : ℕ) → has_row yielded q ≡ true → reach_of (upper_bound answers q) ≤ℤ old.top) →
    ReachesAfter old (reach_of (upper_bound answers r)) are_many new →
    (q : ℕ) → has_row (yielded ++ r ∷ []) q ≡ true → reach_of (upper_bound answers q) ≤ℤ new.top
top_after answers yielded r old new are_many before (top, many) q there = elim (has-push yielded r q there) [
  | inl front ↦ let most = before q front in omega (arith, ints, clamps)
  | inr same ↦ subst (λ k. reach_of (upper_bound answers k) ≤ℤ new.top) same (omega (arith, ints, clamps))
]

-- some row can reach a number, or it is below all
abbrev pub IsReached : List Answer → List ℕ → ℤ → Type 0
IsReached answers rows top = (top ≡ below_all) ⊎ ((q : ℕ) × (has_row rows q ≡ true) × (top ≤ℤ reach_of (upper_bound answers q)))

pub reached_after : (answers : List Answer) (yielded : List ℕ) (r : ℕ) (old new : Reach) (are_many : Bool) → IsReached answers yielded old.top →
    ReachesAfter old (reach_of (upper_bound answers r)) are_many new → IsReached answers (yielded ++ r ∷ []) new.top
reached_after answers yielded r old new are_many before (top, many) = by_lt_z old.top (reach_of (upper_bound answers r))
    (λ less. inr (r, has-last yielded r, omega (arith, ints, clamps)))
    (λ more.
    let same : old.top ≡ new.top = omega (arith, ints, clamps) in
    elim before [
      | inl none ↦ inl (sym same ∙ none)
      | inr (q, there, high) ↦ inr (q, has-front yielded r q there, omega (arith, ints))
    ])

-- more than few rows can reach a number, or it is below all
abbrev pub CanMany : List Answer → Headcount → List ℕ → ℤ → Type 0
CanMany answers people rows x = (x ≤ℤ below_all) ⊎ (¬ (AreFew people [] (rows_at_least (upper_bound answers) x rows)))

pub many_after : (answers : List Answer) (people : Headcount) (rows : List ℕ) (height : ℤ) (old new : Reach) (are_many : Bool) →
    CanMany answers people rows old.many →
    (IsTrue are_many → ¬ (AreFew people [] (rows_at_least (upper_bound answers) height rows))) →
    ReachesAfter old height are_many new → CanMany answers people rows new.many
many_after answers people rows height old new true before told (top, many) = subst (CanMany answers people rows) (sym many) (inr (told refl))
many_after answers people rows height old new false before told (top, many) = subst (CanMany answers people rows) (sym many) before
