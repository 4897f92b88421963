-- The extreme rows of all answers once one more joins them.
use Rattle.std.proofs.Common.{◌≡◌, ℕ, ◌-◌, ◌≤◌, ℤ, Bool, true, false, cond, not, ◌&&◌, List, [], ◌∷◌, ◌++◌, length, map, take, drop, refl, sym, ap, ◌∙◌, arith, inl, inr, Option, Some, None}
use Rattle.std.specs.Prelude.{◌<ℤ◌, ◌≤ℤ◌, int_lt}
use Rattle.std.specs.Int.{int_min}
use Rattle.std.specs.Ordering.{int_eq}
use Rattle.std.specs.List.{filter}
use Rattle.std.proofs.lemmas.Int.{ints, clamps, by_lt_z}
use Rattle.std.proofs.lemmas.Bool.{true≢false, and_parts, and_from, and_right}
use Rattle.std.proofs.lemmas.Bool.Decides.{Decides-int_eq}
use Rattle.std.proofs.lemmas.List.Filters.{length-filter_both}
use Rattle.audit_types.specs.Rows.{has_row, AreRows}
use Rattle.audit_types.specs.RowLaws.{ascending_same}
use Rattle.audit_types.specs.Column.{Answer, IsOneOf}
use Rattle.audit_types.specs.Extremes.{least_of, upper_bound, is_bound, extremes}
use Rattle.max_bounds.specs.Maxima.{and_answer}
use Rattle.max_bounds.specs.Outside.{outside, HasWithin}
use Rattle.max_bounds.specs.Kept.{is_at_least, is_above, rows_at_least, rows_above, falls_of, lowered_set, AreLeast}
use Rattle.max_bounds.specs.AnswerLaws.{one_of_front, one_of_last, front_or_last}
use Rattle.max_bounds.specs.RowListLaws.{filter-has, has-filter, filter-ascends}
use Rattle.max_bounds.specs.BoundLaws.{upper_bound-push, exact_bound}
use Rattle.max_bounds.specs.OneMoreLaws.{filters_agree_on, asked, bound_in_set, keeps_extremes, lower_keeps, higher_loses}
use Rattle.max_bounds.proofs.Walks.{filter-none}
use Rattle.max_bounds.proofs.LoweredSets.{same_test}
use Rattle.max_bounds.proofs.OutsideRows.{in_set}
use Rattle.max_bounds.proofs.Descending.{inserted_is, inserted_has, one_of_inserted}
use Rattle.audit_types.specs.FilteredRows.{has_filtered}

-- what is at least a number, by the bound with it
at_least_test : (o : Option ℤ) (x : ℤ) → is_at_least x o ≡ is_bound (Some (least_of x o)) x
at_least_test None x = sym ((Decides-int_eq x x).1 refl)
at_least_test (Some b) x = elim (int_lt b x) as (λ t. int_lt b x ≡ t → not t ≡ int_eq (int_min x b) x) [
  | true ↦ λ less. elim (int_eq (int_min x b) x) as (λ t. int_eq (int_min x b) x ≡ t → false ≡ t) [
    | true ↦ λ e. let same = (Decides-int_eq (int_min x b) x).0 e in absurd (omega (arith, ints, clamps))
    | false ↦ λ e. refl
  ] refl
  | false ↦ λ more. sym ((Decides-int_eq (int_min x b) x).1 (omega (arith, ints, clamps)))
] refl

-- the bound of a row once the rows that have the new answer for theirs have it
settled_is : (has : Bool) (o : Option ℤ) (x : ℤ) → cond (has && is_at_least x o) (Some x) o ≡ cond has (Some (least_of x o)) o
settled_is false o x = refl
settled_is true None x = refl
settled_is true (Some b) x = elim (int_lt b x) as (λ t. int_lt b x ≡ t → cond (not t) (Some x) (Some b) ≡ Some (int_min x b)) [
  | true ↦ λ less. ap Some (omega (arith, ints, clamps))
  | false ↦ λ more. ap Some (omega (arith, ints, clamps))
] refl

-- a test of order, from the order
is_less : (a b : ℤ) → a <ℤ b → int_lt a b ≡ true
is_less a b less = elim (int_lt a b) as (λ t. int_lt a b ≡ t → t ≡ true) [
  | true ↦ λ e. refl
  | false ↦ λ e. absurd (omega (arith, ints))
] refl

not_less : (a b : ℤ) → b ≤ℤ a → int_lt a b ≡ false
not_less a b low = elim (int_lt a b) as (λ t. int_lt a b ≡ t → t ≡ false) [
  | true ↦ λ e. absurd (omega (arith, ints))
  | false ↦ λ e. refl
] refl

-- a bound above a number that a row has for an answer above it
above_it : (o : Option ℤ) (v x : ℤ) → x <ℤ v → is_bound o v ≡ true → is_above x o ≡ true
above_it o v x less is = ap (is_above x) (exact_bound o v is) ∙ is_less x v less

-- and one that is not that of an answer at most it
not_it : (o : Option ℤ) (v x : ℤ) → v ≤ℤ x → is_above x o ≡ true → is_bound o v ≡ false
not_it None v x low above = refl
not_it (Some b) v x low above = elim (int_eq b v) as (λ t. int_eq b v ≡ t → t ≡ false) [
  | true ↦ λ e. let same = (Decides-int_eq b v).0 e in absurd (omega (arith, ints))
  | false ↦ λ e. refl
] refl

-- values of answers that agree
pub map_agree : (f g : Answer → ℕ) (answers : List Answer) → ((a : Answer) → IsOneOf a answers → f a ≡ g a) → map f answers ≡ map g answers
map_agree f g [] same = refl
map_agree f g (a ∷ answers) same =
    let head : f a ≡ g a = same a (inl refl) in
    let tail : map f answers ≡ map g answers = map_agree f g answers (λ b one. same b (inr one)) in
    cc

module _ (answers : List Answer) (rows : List ℕ) (x : ℤ) where
  -- the answers with the new one
  abbrev more : List Answer
  more = and_answer answers rows x

  -- the rows that get it for their bound are its extreme rows
  pub next_extremes : rows_at_least (upper_bound answers) x rows ≡ extremes more (asked answers rows x)
  next_extremes = filters_agree_on (λ r. is_at_least x (upper_bound answers r)) (λ r. is_bound (upper_bound more r) x) rows (λ r there.
      at_least_test (upper_bound answers r) x ∙ ap (λ o. is_bound o x) (sym (bound_in_set answers rows x r there)))

  -- and with it all bounds are those with the new answer
  pub next_bounds : (r : ℕ) → cond (has_row (rows_at_least (upper_bound answers) x rows) r) (Some x) (upper_bound answers r) ≡ upper_bound more r
  next_bounds r =
      ap (λ b. cond b (Some x) (upper_bound answers r)) (has_filtered (λ q. is_at_least x (upper_bound answers q)) rows r)
      ∙ settled_is (has_row rows r) (upper_bound answers r) x ∙ sym (upper_bound-push answers (asked answers rows x) r)

  -- if no row falls, each answer keeps its extreme rows
  pub none_falls : rows_above (upper_bound answers) x rows ≡ [] → (a : Answer) → IsOneOf a answers → extremes more a ≡ extremes answers a
  none_falls none a one = keeps_extremes answers rows x a one (λ r b there in_set is. by_lt_z x b
      (λ less.
      let falls = has-filter (λ q. is_above x (upper_bound answers q)) rows r in_set (ap (is_above x) is ∙ is_less x b less) in
      absurd (true≢false (sym falls ∙ ap (λ l. has_row l r) none)))
      (λ not. omega (arith, ints)))

  module _ (n : ℕ) (are : AreRows n rows) where
    -- the extreme rows of a higher answer in the set are those of them that fall
    inside : (a : Answer) → AreRows n a.rows → x <ℤ a.value →
        filter (has_row rows) (extremes answers a) ≡ falls_of (upper_bound answers) (rows_above (upper_bound answers) x rows) a
    inside a of_table less =
        let falling = rows_above (upper_bound answers) x rows in
        let test : ℕ → Bool = λ r. has_row a.rows r && is_bound (upper_bound answers r) a.value in
        ascending_same 0 n n (filter (has_row rows) (extremes answers a)) (filter test falling)
        (filter-ascends 0 n (has_row rows) (extremes answers a) (filter-ascends 0 n (λ r. is_bound (upper_bound answers r) a.value) a.rows of_table))
        (filter-ascends 0 n test falling (filter-ascends 0 n (λ r. is_above x (upper_bound answers r)) rows are))
        (λ r. same_test (has_row (filter (has_row rows) (extremes answers a)) r) (has_row (filter test falling) r)
        (λ there.
        let one = filter-has (has_row rows) (extremes answers a) r there in
        let two = filter-has (λ q. is_bound (upper_bound answers q) a.value) a.rows r one.0 in
        has-filter test falling r (has-filter (λ q. is_above x (upper_bound answers q)) rows r one.1 (above_it (upper_bound answers r) a.value x less two.1))
        (and_from (has_row a.rows r) (is_bound (upper_bound answers r) a.value) two.0 two.1))
        (λ there.
        let one = filter-has test falling r there in
        let two = filter-has (λ q. is_above x (upper_bound answers q)) rows r one.0 in
        has-filter (has_row rows) (extremes answers a) r
        (has-filter (λ q. is_bound (upper_bound answers q) a.value) a.rows r (and_parts (has_row a.rows r) (is_bound (upper_bound answers r) a.value) one.1).0
        (and_parts (has_row a.rows r) (is_bound (upper_bound answers r) a.value) one.1).1)
        two.0))

    -- none of another's falls
    lower_falls : (a : Answer) → a.value ≤ℤ x → falls_of (upper_bound answers) (rows_above (upper_bound answers) x rows) a ≡ []
    lower_falls a low = filter-none (λ r. has_row a.rows r && is_bound (upper_bound answers r) a.value) (rows_above (upper_bound answers) x rows) (λ r there.
        let above = filter-has (λ q. is_above x (upper_bound answers q)) rows r there in
        and_right (has_row a.rows r) (is_bound (upper_bound answers r) a.value) (not_it (upper_bound answers r) a.value x low above.1))

    -- the count of an answer less those that fall is its next count, and it is no less than they
    pub next_count : (a : Answer) → IsOneOf a answers → AreRows n a.rows →
        (length (extremes answers a) - length (falls_of (upper_bound answers) (rows_above (upper_bound answers) x rows) a) ≡ length (extremes more a))
        × (length (falls_of (upper_bound answers) (rows_above (upper_bound answers) x rows) a) ≤ length (extremes answers a))
    next_count a one of_table = by_lt_z x a.value
        (λ less.
        let parts = length-filter_both (has_row rows) (λ r. not (has_row rows r)) (λ r. refl) (extremes answers a) in
        let falls : length (filter (has_row rows) (extremes answers a)) ≡ length (falls_of (upper_bound answers) (rows_above (upper_bound answers) x rows) a) =
        ap length (inside a of_table less) in
        let stay : length (extremes more a) ≡ length (outside rows (extremes answers a)) = ap length (higher_loses answers rows x a one less) in
        (omega arith, omega arith))
        (λ not.
        let none : length (falls_of (upper_bound answers) (rows_above (upper_bound answers) x rows) a) ≡ 0 = ap length (lower_falls a (omega (arith, ints))) in
        let stay : length (extremes more a) ≡ length (extremes answers a) = ap length (lower_keeps answers rows x a one (omega (arith, ints))) in
        (omega arith, omega arith))

  -- a set with a higher answer, lowered
  lowered_higher : (e : Answer) → x <ℤ e.value → lowered_set x rows e ≡ record { rows = outside rows e.rows; value = e.value }
  lowered_higher e less = ap (λ b. cond b (record { rows = outside rows e.rows; value = e.value }) e) (is_less x e.value less)

  -- and any other
  lowered_other : (e : Answer) → e.value ≤ℤ x → lowered_set x rows e ≡ e
  lowered_other e low = ap (λ b. cond b (record { rows = outside rows e.rows; value = e.value }) e) (not_less x e.value low)

  -- its value stays
  lowered_value : (e : Answer) → (lowered_set x rows e).value ≡ e.value
  lowered_value e =
      by_lt_z x e.value (λ less. ap (λ (a : Answer). a.value) (lowered_higher e less))
      (λ not. ap (λ (a : Answer). a.value) (lowered_other e (omega (arith, ints))))

  -- the extreme rows of an answer are lowered as its set is
  pub lowered_extremes : (a e : Answer) → IsOneOf a answers → a.value ≡ e.value → extremes answers a ≡ e.rows → extremes more a ≡ (lowered_set x rows e).rows
  lowered_extremes a e one same rows_are = by_lt_z x e.value
      (λ less. higher_loses answers rows x a one (omega (arith, ints)) ∙ ap (outside rows) rows_are ∙ sym (ap (λ (b : Answer). b.rows) (lowered_higher e less)))
      (λ not. lower_keeps answers rows x a one (omega (arith, ints)) ∙ rows_are ∙ sym (ap (λ (b : Answer). b.rows) (lowered_other e (omega (arith, ints)))))

  -- so are fewer rows
  lowered_fewer : (a e : Answer) → IsOneOf a answers → e.value ≡ a.value → ((r : ℕ) → has_row e.rows r ≡ true → has_row (extremes answers a) r ≡ true) →
      (r : ℕ) → has_row (lowered_set x rows e).rows r ≡ true → has_row (extremes more a) r ≡ true
  lowered_fewer a e one same fewer r there = by_lt_z x e.value
      (λ less.
      let found = filter-has (λ q. not (has_row rows q)) e.rows r (ap (λ (b : Answer). has_row b.rows r) (sym (lowered_higher e less)) ∙ there) in
      ap (λ l. has_row l r) (higher_loses answers rows x a one (omega (arith, ints)))
      ∙ has-filter (λ q. not (has_row rows q)) (extremes answers a) r (fewer r found.0) found.1)
      (λ not.
      ap (λ l. has_row l r) (lower_keeps answers rows x a one (omega (arith, ints)))
      ∙ fewer r (ap (λ (b : Answer). has_row b.rows r) (sym (lowered_other e (omega (arith, ints)))) ∙ there))

  -- least sets stay so if the extreme rows do
  pub least_same : (sets : List Answer) → ((a : Answer) → IsOneOf a answers → extremes more a ≡ extremes answers a) → AreLeast (extremes answers) answers sets →
      AreLeast (extremes more) answers sets
  least_same sets same h = record {
    each = λ e one. let found = h.each e one in (found.0, found.1, found.2, same found.0 found.1 ∙ found.3);
    covered = λ a one. let found = h.covered a one in (found.0, found.1, found.2, λ r there. ap (λ l. has_row l r) (same a one) ∙ found.3 r there);
  }

  -- and if both are lowered
  pub least_lowered : (sets : List Answer) → AreLeast (extremes answers) answers sets → AreLeast (extremes more) answers (map (lowered_set x rows) sets)
  least_lowered sets h = record {
    each = λ e' one.
        let from = from_map sets e' one in
        let found = h.each from.0 from.1 in (
          found.0,
          found.1,
          found.2 ∙ sym (lowered_value from.0) ∙ ap (λ (b : Answer). b.value) from.2,
          lowered_extremes found.0 from.0 found.1 found.2 found.3
              ∙ ap (λ (b : Answer). b.rows) from.2,
        );
    covered = λ a one.
        let found = h.covered a one in
        (lowered_set x rows found.0, to_map sets found.0 found.1, lowered_value found.0 ∙ found.2, lowered_fewer a found.0 one found.2 found.3);
  }
    where
      from_map : (all : List Answer) (e' : Answer) → IsOneOf e' (map (lowered_set x rows) all) → (e : Answer) × IsOneOf e all × (lowered_set x rows e ≡ e')
      from_map [] e' one = absurd one
      from_map (b ∷ all) e' (inl same) = (b, inl refl, same)
      from_map (b ∷ all) e' (inr later) = let found = from_map all e' later in (found.0, inr found.1, found.2)

      to_map : (all : List Answer) (e : Answer) → IsOneOf e all → IsOneOf (lowered_set x rows e) (map (lowered_set x rows) all)
      to_map [] e one = absurd one
      to_map (b ∷ all) e (inl same) = inl (ap (lowered_set x rows) same)
      to_map (b ∷ all) e (inr later) = inr (to_map all e later)

  -- with the new answer's own set, at any place
  pub least_inserted : (sets : List Answer) (place : ℕ) (own : List ℕ) → own ≡ extremes more (asked answers rows x) → AreLeast (extremes more) answers sets →
      AreLeast (extremes more) more (take place sets ++ record { rows = own; value = x } ∷ drop place sets)
  least_inserted sets place own is h = record {
    each = λ e one. elim (one_of_inserted sets place (record { rows = own; value = x }) e one) [
      | inl other ↦ let found = h.each e other in (found.0, one_of_front answers (asked answers rows x) found.0 found.1, found.2, found.3)
      | inr this ↦ (
        asked answers rows x,
        one_of_last answers (asked answers rows x),
        ap (λ (b : Answer). b.value) this,
        sym is
            ∙ ap (λ (b : Answer). b.rows) this,
      )
    ];
    covered = λ a one. elim (front_or_last answers (asked answers rows x) a one) [
      | inl front ↦ let found = h.covered a front in (found.0, inserted_has sets place (record { rows = own; value = x }) found.0 found.1, found.2, found.3)
      | inr last ↦ (
        record { rows = own; value = x },
        inserted_is sets place (record { rows = own; value = x }),
        ap (λ (b : Answer). b.value) last,
        λ r there. ap (λ b. has_row (extremes more b) r) (sym last) ∙ ap (λ l. has_row l r) (sym is) ∙ there,
      )
    ];
  }

  -- or without it, if a set of its value lies within its rows
  pub least_within : (sets : List Answer) → HasWithin sets rows x → AreLeast (extremes more) answers sets → AreLeast (extremes more) more sets
  least_within sets (w, within, is) h = record {
    each = λ e one. let found = h.each e one in (found.0, one_of_front answers (asked answers rows x) found.0 found.1, found.2, found.3);
    covered = λ a one. elim (front_or_last answers (asked answers rows x) a one) [
      | inl front ↦ h.covered a front
      | inr last ↦ (w, within, is.same ∙ ap (λ (b : Answer). b.value) last, λ r there. ap (λ b. has_row (extremes more b) r) (sym last) ∙ own r there)
    ];
  }
    where
      own : (r : ℕ) → has_row w.rows r ≡ true → has_row (extremes more (asked answers rows x)) r ≡ true
      own r there =
          let found = h.each w within in
          let extreme : has_row (extremes more found.0) r ≡ true = ap (λ l. has_row l r) found.3 ∙ there in
          let bound = filter-has (λ q. is_bound (upper_bound more q) found.0.value) found.0.rows r extreme in
          has-filter (λ q. is_bound (upper_bound more q) x) rows r (in_set rows w.rows r is.none_left there)
          (ap (is_bound (upper_bound more r)) (sym (found.2 ∙ is.same)) ∙ bound.1)
