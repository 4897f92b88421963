-- The first rows of a form cleared, one after the other.
use Rattle.std.proofs.Common.{◌≡◌, ℕ, zero, suc, ◌+◌, ◌<◌, ℤ, List, [], ◌∷◌, ◌++◌, length, take, drop, get_or, refl, sym, ap, arith, subst}
use Rattle.std.specs.List.{AllByRecursion}
use Rattle.std.proofs.lemmas.List.{take_more}
use Rattle.audit_types.specs.Form.{IsPrimitive}
use Rattle.audit_types.specs.ListLaws.{all-push}
use Rattle.sum_basis.specs.Elimination.{IsWithin, IsZeroAtPivots, IsCleared, AreCleared}
use Rattle.sum_basis.specs.Growth.{ClearsFirst, ClearsWide}
use Rattle.sum_basis.proofs.Clearing.{cleared_all}

module _ (n width : ℕ) (new : List ℤ) where
  -- rows cleared in two parts are cleared
  pub cleared-append : (rows others made more : List (List ℤ)) → AreCleared n new rows made → AreCleared n new others more →
      AreCleared n new (rows ++ others) (made ++ more)
  cleared-append [] others [] more h k = k
  cleared-append [] others (m ∷ made) more h k = absurd h
  cleared-append (row ∷ rows) others [] more h k = absurd h
  cleared-append (row ∷ rows) others (m ∷ made) more h k = (h.0, cleared-append rows others made more h.1 k)

  -- at the start none is
  pub no_rows : (form : List (List ℤ)) → ClearsFirst n width form new 0 []
  no_rows form = record { cleared = tt; within = tt }

  -- one row more is cleared
  pub one_more_cleared : (form made : List (List ℤ)) (k : ℕ) (row : List ℤ) → k < length form → ClearsFirst n width form new k made →
      IsCleared n new (get_or form k []) row → IsWithin width row → ClearsFirst n width form new (k + 1) (made ++ row ∷ [])
  one_more_cleared form made k row h first is within = record {
    cleared = rw (take_more form k [] h) (cleared-append (take k form) (get_or form k [] ∷ []) made (row ∷ []) first.cleared (is, tt));
    within = all-push (IsWithin width) made row first.within within;
  }

  -- what holds of a form holds of its rows from a place on
  primitives_from : (form : List (List ℤ)) (k : ℕ) → AllByRecursion (IsPrimitive n) form → IsZeroAtPivots form new →
      AllByRecursion (IsPrimitive n) (drop k form) × IsZeroAtPivots (drop k form) new
  primitives_from form zero p z = (p, z)
  primitives_from [] (suc k) p z = (tt, tt)
  primitives_from (row ∷ form) (suc k) p z = primitives_from form k p.1 z.1

  -- a list is its first k items, item k and the others
  split_at : (form : List (List ℤ)) (k : ℕ) → k < length form → form ≡ take k form ++ get_or form k [] ∷ drop (suc k) form
  split_at [] k h = absurd (omega arith)
  split_at (row ∷ form) zero h = refl
  split_at (row ∷ form) (suc k) h = ap (λ l. row ∷ l) (split_at form k (omega arith))

  -- when the first rows and one more are cleared, the rest can be, if not by the code
  pub rest_cleared : (form made : List (List ℤ)) (k : ℕ) (row : List ℤ) → k < length form → IsPrimitive n new → AllByRecursion (IsPrimitive n) form
      → IsZeroAtPivots form new → ClearsFirst n width form new k made → IsCleared n new (get_or form k []) row
      → (rest : List (List ℤ)) × AreCleared n new form (made ++ row ∷ rest)
  rest_cleared form made k row h p q z first is =
      let parts = primitives_from form (suc k) q z in
      let rest = cleared_all n new (drop (suc k) form) p parts.0 parts.1 in
      let all = cleared-append (take k form) (get_or form k [] ∷ drop (suc k) form) made (row ∷ rest.0) first.cleared (is, rest.1) in
      (rest.0, subst (λ l. AreCleared n new l (made ++ row ∷ rest.0)) (sym (split_at form k h)) all)

  -- the last of rows within the width are within it
  later : (made more : List (List ℤ)) → AllByRecursion (IsWithin width) (made ++ more) → AllByRecursion (IsWithin width) more
  later [] more h = h
  later (m ∷ made) more h = later made more h.1

  -- any row that is too large does
  pub too_large : (form : List (List ℤ)) (k : ℕ) (row : List ℤ) → k < length form → IsPrimitive n new → AllByRecursion (IsPrimitive n) form →
      IsZeroAtPivots form new → IsCleared n new (get_or form k []) row → ¬ (IsWithin width row) → ClearsWide n width form new
  too_large [] k row h p q z is large = absurd (omega arith)
  too_large (r ∷ form) zero row h p q z is large =
      let rest = cleared_all n new form p q.1 z.1 in
      record { rows = row ∷ rest.0; cleared = (is, rest.1); wide = λ small. large small.0 }
  too_large (r ∷ form) (suc k) row h p q z is large =
      let first = cleared_all n new (r ∷ []) p (q.0, tt) (z.0, tt) in
      let more = too_large form k row (omega arith) p q.1 z.1 is large in
      record {
        rows = first.0 ++ more.rows;
        cleared = cleared-append (r ∷ []) form first.0 more.rows first.1 more.cleared;
        wide = λ small. more.wide (later first.0 more.rows small);
      }
