-- What is told of a form with a new row while its rows are cleared one after the other.
use Rattle.std.proofs.Common.{◌≡◌, ◌↔◌, ℕ, zero, suc, ◌+◌, ◌*◌, ◌<◌, ◌≤◌, Bool, true, ℤ, pos, List, [], ◌∷◌, ◌++◌, length, take, drop, get_or, refl, sym, subst, arith, inl, inr, ◌⊎◌, IsTrue}
use Rattle.std.specs.Prelude.{◌<ℤ◌, unsigned_abs}
use Rattle.std.specs.Int.{◌∣◌}
use Rattle.std.specs.List.{AllByRecursion}
use Rattle.std.proofs.lemmas.Int.{ints}
use Rattle.std.proofs.lemmas.Nat.Gcd.{dvd_refl, dvd_trans, le_of_dvd}
use Rattle.std.proofs.Math.Nat.{dvd-mul_right, mul-dvd-mul_left, mul-pos}
use Rattle.std.proofs.Math.Seq.{take-length}
use Rattle.std.proofs.lemmas.List.Elements.{All-from_recursion}
use Rattle.audit_types.specs.Form.{InSpan, IsPrimitive, IsReducedForm, IsLeastCommonMultiple, pivot, pivot_entry, pivot_entries}
use Rattle.audit_types.specs.ListLaws.{all-append, all-push, all-take, all-map, all-unmap}
use Rattle.audit_types.specs.Numbers.{size_positive}
use Rattle.audit_types.specs.FormRows.{pivot_below}
use Rattle.sum_basis.specs.Basis.{Echelon, HasUnitRow}
use Rattle.sum_basis.specs.Elimination.{IsWithin, IsFormWithin, IsZeroAtPivots, IsCleared, AreCleared, IsLone}
use Rattle.sum_basis.specs.Growth.{ClearsFirst, GrowsTo, GrowsWide}
use Rattle.sum_basis.specs.Spans.{own}
use Rattle.sum_basis.proofs.FormsAreUnique.{leads_from}
use Rattle.sum_basis.proofs.LeastMultiples.{least-push, least_positive, least_exists, least_unique, entries_positive, pivot_entries-push}
use Rattle.sum_basis.proofs.Placing.{placed, all_placed, parts_placed}
use Rattle.sum_basis.proofs.Growing.{placed_is_reduced}
use Rattle.sum_basis.proofs.ClearingFirst.{cleared-append, one_more_cleared, rest_cleared, too_large, no_rows}
use Rattle.sum_basis.proofs.Clearing.{primitives}
use Rattle.sum_basis.proofs.WideForms.{row_too_large, is_narrow}
use Rattle.sum_basis.proofs.UnitRowsInSpan.{unit_in_span, no_unit}
use Rattle.std.proofs.lemmas.List.{take_all, take-append-drop}

-- some row has one entry that is not 0
abbrev pub SomeLone : List (List ℤ) → Type 0
SomeLone [] = ⊥
SomeLone (row ∷ rows) = IsLone row ⊎ SomeLone rows

-- the first k rows of the form are cleared, and none is too large; and what their pivot entries and the lone ones among them come to
pub record IsLooked (n width : ℕ) (form : List (List ℤ)) (new : List ℤ) (k : ℕ) (common : ℤ) (fixing : Bool) : Type 0 where
  pub made : List (List ℤ)
  pub clears : ClearsFirst n width form new k made
  pub positive : pos 0 <ℤ common
  pub within : unsigned_abs common ≤ width
  pub multiple : IsLeastCommonMultiple (pivot_entries (new ∷ made)) (unsigned_abs common)
  pub lone : IsTrue fixing → SomeLone (new ∷ made)
  pub none : ¬ (IsTrue fixing) → AllByRecursion (λ r. ¬ (IsLone r)) (new ∷ made)

-- at the start only the new row was looked at
pub nothing_looked : (n width : ℕ) (form : List (List ℤ)) (new : List ℤ) (common : ℤ) (fixing : Bool) → IsPrimitive n new → unsigned_abs common ≤ width →
    common ≡ pivot_entry new → IsTrue fixing ↔ IsLone new → IsLooked n width form new 0 common fixing
nothing_looked n width form new common fixing p small e lone = record {
  made = [];
  clears = no_rows n width new form;
  positive = subst (λ z. pos 0 <ℤ z) (sym e) p.leading;
  within = small;
  multiple = rw e (record { multiple = (dvd_refl (unsigned_abs (pivot_entry new)), tt); least = λ k all. all.0 });
  lone = λ yes. inl (lone.0 yes);
  none = λ no. (λ is. no (lone.1 is), tt);
}

-- a lone row among more
some_push : (rows : List (List ℤ)) (row : List ℤ) → SomeLone rows ⊎ IsLone row → SomeLone (rows ++ row ∷ [])
some_push [] row (inl none) = absurd none
some_push [] row (inr is) = inl is
some_push (r ∷ rows) row (inl (inl is)) = inl is
some_push (r ∷ rows) row (inl (inr some)) = inr (some_push rows row (inl some))
some_push (r ∷ rows) row (inr is) = inr (some_push rows row (inr is))

-- one row more was looked at
pub one_more_looked : (n width : ℕ) (form : List (List ℤ)) (new : List ℤ) (k : ℕ) (common : ℤ) (fixing : Bool) (row : List ℤ) (m : ℕ) (multiple : ℤ)
    (lone also : Bool)
    → k < length form → IsLooked n width form new k common fixing
    → IsPrimitive n row → IsCleared n new (get_or form k []) row → IsWithin width row →
    IsLeastCommonMultiple (unsigned_abs common ∷ unsigned_abs (pivot_entry row) ∷ []) m → multiple ≡ pos m → m ≤ width → IsTrue lone ↔ IsLone row
    → IsTrue also ↔ (IsTrue fixing ⊎ IsTrue lone) → IsLooked n width form new (k + 1) multiple also
one_more_looked n width form new k common fixing row m multiple lone also h l p is small least e within one both = record {
  made = l.made ++ row ∷ [];
  clears = one_more_cleared n width new form l.made k row h l.clears is small;
  positive =
      let above = least_positive (unsigned_abs common) (unsigned_abs (pivot_entry row)) m (size_positive common l.positive)
      (size_positive (pivot_entry row) p.leading) least in
      omega (arith, ints);
  within = rw e within;
  multiple =
      rw (e, pivot_entries-push (new ∷ l.made) row) (least-push (pivot_entries (new ∷ l.made)) (unsigned_abs (pivot_entry row))
      (unsigned_abs common) m l.multiple least);
  lone =
      λ yes. elim (both.0 yes) [ inl before ↦ some_push (new ∷ l.made) row (inl (l.lone before)) | inr here ↦ some_push (new ∷ l.made) row (inr (one.0 here)) ];
  none = λ no. all-push (λ r. ¬ (IsLone r)) (new ∷ l.made) row (l.none (λ before. no (both.1 (inl before)))) (λ here. no (both.1 (inr (one.1 here))));
}

-- the rows in front of others
all_before : (P : List ℤ → Type 0) (made rest : List (List ℤ)) (row : List ℤ) → AllByRecursion P (made ++ row ∷ rest) → AllByRecursion P made × P row
all_before P [] rest row h = (tt, h.0)
all_before P (r ∷ made) rest row h = let more = all_before P made rest row h.1 in ((h.0, more.0), more.1)

-- the same, if the pivot entries are only known to divide the product of the new one and any multiple of the form's
pub record IsGlanced (n width : ℕ) (form : List (List ℤ)) (new : List ℤ) (k : ℕ) (fixing : Bool) : Type 0 where
  pub made : List (List ℤ)
  pub clears : ClearsFirst n width form new k made
  pub divides : (m : ℕ) → AllByRecursion (λ x. x ∣ m) (pivot_entries form) →
      AllByRecursion (λ r. unsigned_abs (pivot_entry r) ∣ (unsigned_abs (pivot_entry new) * m)) (new ∷ made)
  pub lone : IsTrue fixing → SomeLone (new ∷ made)
  pub none : ¬ (IsTrue fixing) → AllByRecursion (λ r. ¬ (IsLone r)) (new ∷ made)

-- at the start only the new row was looked at
pub nothing_glanced : (n width : ℕ) (form : List (List ℤ)) (new : List ℤ) (fixing : Bool) → IsTrue fixing ↔ IsLone new → IsGlanced n width form new 0 fixing
nothing_glanced n width form new fixing lone = record {
  made = [];
  clears = no_rows n width new form;
  divides = λ m all. (dvd-mul_right (unsigned_abs (pivot_entry new)) m, tt);
  lone = λ yes. inl (lone.0 yes);
  none = λ no. (λ is. no (lone.1 is), tt);
}

-- one row more was looked at
pub one_more_glanced : (n width : ℕ) (form : List (List ℤ)) (new : List ℤ) (k : ℕ) (fixing : Bool) (row : List ℤ) (lone also : Bool) → k < length form
    → IsGlanced n width form new k fixing → IsCleared n new (get_or form k []) row → IsWithin width row
    → IsTrue lone ↔ IsLone row → IsTrue also ↔ (IsTrue fixing ⊎ IsTrue lone) → IsGlanced n width form new (k + 1) also
one_more_glanced n width form new k fixing row lone also h g is small one both = record {
  made = g.made ++ row ∷ [];
  clears = one_more_cleared n width new form g.made k row h g.clears is small;
  divides = λ m all. all-push (λ r. unsigned_abs (pivot_entry r) ∣ (unsigned_abs (pivot_entry new) * m)) (new ∷ g.made) row (g.divides m all)
      (dvd_trans (unsigned_abs (pivot_entry row)) is.head (mul-dvd-mul_left (unsigned_abs (pivot_entry (get_or form k []))) (unsigned_abs (pivot_entry new))
      (All-from_recursion (λ r. unsigned_abs (pivot_entry r) ∣ m) form (all-unmap (λ r. unsigned_abs (pivot_entry r)) (λ x. x ∣ m) form all) k [] h)));
  lone =
      λ yes. elim (both.0 yes) [ inl before ↦ some_push (new ∷ g.made) row (inl (g.lone before)) | inr here ↦ some_push (new ∷ g.made) row (inr (one.0 here)) ];
  none = λ no. all-push (λ r. ¬ (IsLone r)) (new ∷ g.made) row (g.none (λ before. no (both.1 (inl before)))) (λ here. no (both.1 (inr (one.1 here))));
}

-- each cleared pivot entry divides what the new one makes of a multiple of the form's
heads_divide : (n : ℕ) (new : List ℤ) (form made : List (List ℤ)) (m : ℕ) → AreCleared n new form made →
    AllByRecursion (λ r. unsigned_abs (pivot_entry r) ∣ m) form → AllByRecursion (λ r. unsigned_abs (pivot_entry r) ∣ (unsigned_abs (pivot_entry new) * m)) made
heads_divide n new [] [] m cleared all = tt
heads_divide n new [] (row ∷ made) m cleared all = absurd cleared
heads_divide n new (r ∷ form) [] m cleared all = absurd cleared
heads_divide n new (r ∷ form) (row ∷ made) m cleared all = (
  dvd_trans (unsigned_abs (pivot_entry row)) cleared.0.head (mul-dvd-mul_left (unsigned_abs (pivot_entry r)) (unsigned_abs (pivot_entry new)) all.0),
  heads_divide n new form made m cleared.1 all.1,
)

-- a lone new row that leaves all rows small fixes a number
pub glanced_at_once : (n width : ℕ) (form : List (List ℤ)) (new : List ℤ) (made : List (List ℤ)) → AreCleared n new form made →
    AllByRecursion (IsWithin width) made →
    IsLone new → IsGlanced n width form new (length form) true
glanced_at_once n width form new made cleared small lone = record {
  made = made;
  clears = record { cleared = rw (take-length form) cleared; within = small };
  divides =
      λ m all. (
        dvd-mul_right (unsigned_abs (pivot_entry new)) m,
        heads_divide n new form made m cleared (all-unmap (λ r. unsigned_abs (pivot_entry r)) (λ x. x ∣ m) form all),
      );
  lone = λ yes. inl lone;
  none = λ no. absurd (no refl);
}

-- a lone row stays lone among more
some_before : (rows more : List (List ℤ)) → SomeLone rows → SomeLone (rows ++ more)
some_before [] more none = absurd none
some_before (r ∷ rows) more (inl is) = inl is
some_before (r ∷ rows) more (inr some) = inr (some_before rows more some)

-- what holds of a list holds of its items from a place on
all_from : (P : List ℤ → Type 0) (k : ℕ) (rows : List (List ℤ)) → AllByRecursion P rows → AllByRecursion P (drop k rows)
all_from P zero rows h = h
all_from P (suc k) [] h = tt
all_from P (suc k) (r ∷ rows) h = all_from P k rows h.1

-- once a row is lone, the others needn't be looked at if they stay small
pub glanced_to_end : (n width : ℕ) (form : List (List ℤ)) (new : List ℤ) (k : ℕ) (rest : List (List ℤ)) → IsGlanced n width form new k true
    → AreCleared n new (drop k form) rest → AllByRecursion (IsWithin width) rest → IsGlanced n width form new (length form) true
glanced_to_end n width form new k rest g cleared small = record {
  made = g.made ++ rest;
  clears = record {
    cleared =
        rw (take-length form) (subst (λ rows. AreCleared n new rows (g.made ++ rest)) (take-append-drop k form)
        (cleared-append n width new (take k form) (drop k form) g.made rest g.clears.cleared cleared));
    within = all-append (IsWithin width) g.made rest g.clears.within small;
  };
  divides =
      λ m all. all-append (λ r. unsigned_abs (pivot_entry r) ∣ (unsigned_abs (pivot_entry new) * m)) (new ∷ g.made) rest (g.divides m all)
      (heads_divide n new (drop k form) rest m cleared (all_from (λ r. unsigned_abs (pivot_entry r) ∣ m) k form
      (all-unmap (λ r. unsigned_abs (pivot_entry r)) (λ x. x ∣ m) form all)));
  lone = λ yes. some_before (new ∷ g.made) rest (g.lone refl);
  none = λ no. absurd (no refl);
}

-- if that product is within the limit, so is the least common multiple
pub glanced_is_looked : (n width : ℕ) (form : List (List ℤ)) (new : List ℤ) (k m : ℕ) (fixing : Bool) → IsPrimitive n new → 0 < m
    → AllByRecursion (λ x. x ∣ m) (pivot_entries form) → unsigned_abs (pivot_entry new) * m ≤ width → IsGlanced n width form new k fixing
    → (common : ℤ) × IsLooked n width form new k common fixing
glanced_is_looked n width form new k m fixing p some all within g =
    let rows = primitives n new (take k form) g.made g.clears.cleared in
    let least = least_exists (pivot_entries (new ∷ g.made)) (entries_positive (new ∷ g.made) (leads_from n (new ∷ g.made) (p, rows))) in
    let divides = least.2.least (unsigned_abs (pivot_entry new) * m)
    (all-map (λ r. unsigned_abs (pivot_entry r)) (λ x. x ∣ (unsigned_abs) (pivot_entry new) * m) (new ∷ g.made) (g.divides m all)) in
    let above : 0 < unsigned_abs (pivot_entry new) * m = mul-pos (size_positive (pivot_entry new) p.leading) some in
    let most = le_of_dvd above divides in
    let positive = least.1 in (
      pos least.0,
      record {
        made = g.made;
        clears = g.clears;
        positive = omega (arith, ints);
        within = omega arith;
        multiple = least.2;
        lone = g.lone;
        none = g.none;
      },
    )

module _ (form : Echelon) (new : List ℤ) (f : IsFormWithin form.width form.n form.rows) (p : IsPrimitive form.n new) (z : IsZeroAtPivots form.rows new) where
  -- a cleared row that is too large
  pub looked_large : (k : ℕ) (common : ℤ) (fixing : Bool) (row : List ℤ) → k < length form.rows → IsLooked form.n form.width form.rows new k common fixing →
      IsCleared form.n new (get_or form.rows k []) row → ¬ (IsWithin form.width row) → GrowsWide form new
  looked_large k common fixing row h l is large = row_too_large form new f p z (too_large form.n form.width new form.rows k row h p f.primitive z is large)

  -- pivot entries whose multiple is too large
  pub looked_multiple : (k : ℕ) (common : ℤ) (fixing : Bool) (row : List ℤ) (m : ℕ) → k < length form.rows →
      IsLooked form.n form.width form.rows new k common fixing
      → IsCleared form.n new (get_or form.rows k []) row
      → IsLeastCommonMultiple (unsigned_abs common ∷ unsigned_abs (pivot_entry row) ∷ []) m → form.width < m → GrowsWide form new
  looked_multiple k common fixing row m h l is least more =
      let rest = rest_cleared form.n form.width new form.rows l.made k row h p f.primitive z l.clears is in
      let all = l.made ++ row ∷ rest.0 in
      let grown = placed new all in
      let reduced = placed_is_reduced form.n form.rows all new f.primitive f.echelon p z rest.1 in (
        grown,
        reduced,
        λ narrow.
            let least_of = least_exists (pivot_entries grown) (entries_positive grown (leads_from form.n grown reduced.primitive)) in
            let same = least_unique (pivot_entries grown) narrow.common least_of.0 narrow.common_is least_of.2 in
            let each = parts_placed (λ r. unsigned_abs (pivot_entry r) ∣ least_of.0) new all
            (all-unmap (λ r. unsigned_abs (pivot_entry r)) (λ x. x ∣ least_of.0) grown least_of.2.multiple) in
            let parts = all_before (λ r. unsigned_abs (pivot_entry r) ∣ least_of.0) l.made rest.0 row each.1 in
            let first = l.multiple.least least_of.0 (each.0, all-map (λ r. unsigned_abs (pivot_entry r)) (λ x. x ∣ least_of.0) l.made parts.0) in
            let most = le_of_dvd least_of.1 (least.least least_of.0 (first, (parts.1, tt))) in
            let small = narrow.common_small in
            omega arith,
      )

  -- all rows were looked at
  module _ (k : ℕ) (common : ℤ) (fixing : Bool) (past : length form.rows ≤ k) (l : IsLooked form.n form.width form.rows new k common fixing)
      (small : IsWithin form.width new) where
    abbrev grown : List (List ℤ)
    grown = placed new l.made

    cleared : AreCleared form.n new form.rows l.made
    cleared = subst (λ rows. AreCleared form.n new rows l.made) (take_all k form.rows past) l.clears.cleared

    reduced : IsReducedForm form.n (form.rows ++ new ∷ []) grown
    reduced = placed_is_reduced form.n form.rows l.made new f.primitive f.echelon p z cleared

    form_within : IsFormWithin form.width form.n grown
    form_within = record {
      primitive = reduced.primitive;
      echelon = reduced.echelon;
      entries =
          all_placed (IsWithin form.width) new l.made small l.clears.within;
    }

    least : IsLeastCommonMultiple (pivot_entries grown) (unsigned_abs common)
    least = record {
      multiple =
          all-map (λ r. unsigned_abs (pivot_entry r)) (λ x. x ∣ (unsigned_abs) common) grown
          (all_placed (λ r. unsigned_abs (pivot_entry r) ∣ unsigned_abs common) new l.made l.multiple.multiple.0
          (all-unmap (λ r. unsigned_abs (pivot_entry r)) (λ x. x ∣ (unsigned_abs) common) l.made l.multiple.multiple.1));
      least =
          λ m all. let parts = parts_placed (λ r. unsigned_abs (pivot_entry r) ∣ m) new l.made
          (all-unmap (λ r. unsigned_abs (pivot_entry r)) (λ x. x ∣ m) grown all) in
          l.multiple.least m (parts.0, all-map (λ r. unsigned_abs (pivot_entry r)) (λ x. x ∣ m) l.made parts.1);
    }

    abbrev pub foreseen : Echelon
    foreseen = record { n = form.n; width = form.width; rows = placed new l.made }

    -- the form with the new row is narrow
    pub looked_grows : GrowsTo form new foreseen
    looked_grows = record {
      n = refl;
      width = refl;
      reduced = reduced;
      narrow =
          is_narrow form.n form.width (unsigned_abs common) grown form_within least l.within;
    }

    -- a lone row has a unit row in the span
    unit_of : (rows : List (List ℤ)) → AllByRecursion (InSpan grown) rows → AllByRecursion (IsPrimitive form.n) rows → SomeLone rows → HasUnitRow foreseen
    unit_of [] span q none = absurd none
    unit_of (row ∷ rows) span q (inl lone) = (pivot row, (pivot_below form.n row q.0, unit_in_span form.n grown row q.0 span.0 lone))
    unit_of (row ∷ rows) span q (inr some) = unit_of rows span.1 q.1 some

    -- with one of them the new row fixes a number
    pub looked_fixing : IsTrue fixing → HasUnitRow foreseen
    looked_fixing told =
        let inside = parts_placed (InSpan grown) new l.made (own grown) in
        unit_of (new ∷ l.made) (inside.0, inside.1) (p, primitives form.n new form.rows l.made cleared) (l.lone told)

    -- with none it fixes none
    pub looked_open : ¬ (IsTrue fixing) → ¬ (HasUnitRow foreseen)
    looked_open denied unit =
        let none = l.none denied in
        let all = all_placed (λ r. ¬ (IsLone r)) new l.made none.0 none.1 in
        no_unit foreseen (length grown) form_within (omega arith)
        (record { none = all-take (λ r. ¬ (IsLone r)) (length grown) grown all }) unit.0 unit.1.0 unit.1.1
