-- What is told first: a row that all would know, a row that one asker would, a group that all would know, a group that one would.
use Rattle.std.proofs.Common.{◌≡◌, ◌≢◌, ℕ, ℤ, ◌<◌, ◌≤◌, Bool, true, false, not, ◌++◌, Option, None, Some, List, [], ◌∷◌, refl, sym, ap, ◌∙◌, subst, arith, inl, inr, ◌⊎◌}
use Rattle.std.specs.Prelude.{slice_get, ◌↔◌, Result, Ok, Err, IfOk, IfNone}
use Rattle.audit_types.specs.declared.NoMemory.{NoMemory}
use Rattle.std.proofs.lemmas.Bool.{cases_eq, cases_lt, ne_eqb, true≢false}
use Rattle.std.specs.List.{AllByRecursion}
use Rattle.audit_types.specs.Rows.{complement, has_row, IsLeast}
use Rattle.audit_types.specs.RowLaws.{has_first, has-rows_that}
use Rattle.audit_types.specs.declared.records.Protected.{Protected}
use Rattle.audit_types.specs.Form.{set_row, InSpan}
use Rattle.audit_types.specs.Headcount.{CountPeople, shared_in, beside_in, several_in}
use Rattle.audit_types.specs.HeadcountLaws.{few_by_rows, one_by_rows}
use Rattle.audit_types.specs.History.{Protection}
use Rattle.sum_basis.specs.Asking.{SpansBeside}
use Rattle.sum_basis.specs.Basis.{Echelon, SpansUnit, unit_row}
use Rattle.denial_proof.specs.declared.proof_parts.Target.{Target}
use Rattle.denial_proof.specs.declared.proof_parts.Target.TheVariants.{Row, Group}
use Rattle.denial_proof.specs.Canonical.{Tells, IsFirstTarget, IsFirstBeside, IsNoLater}
use Rattle.denial_proof.specs.Certificates.{IsAsker}
use Rattle.denial_proof.specs.Tellers.{IsTeller}
use Rattle.denial_proof.specs.Weights.{own_rows}
use Rattle.denial_proof.proofs.ProofsShowDanger.{group_there}

-- no place before the least, so it is no later than any
no_later : (P : ℕ → Type 0) (k j : ℕ) → IsLeast P (Some k) → P j → k ≤ j
no_later P k j least there = elim (cases_lt j k) [
  | inl before ↦ absurd (least.1 j before there)
  | inr after ↦ after
]

-- the least place of which two facts hold that are one
pub least_same : (P Q : ℕ → Type 0) → ((k : ℕ) → P k → Q k) → ((k : ℕ) → Q k → P k) → (least : Option ℕ) → IsLeast P least → IsLeast Q least
least_same P Q there back None none = λ k holds. none k (back k holds)
least_same P Q there back (Some k) (here, before) = (there k here, λ j l holds. before j l (back j holds))

-- ---- what the form tells to all

module _ (n : ℕ) (protected : Protection) (column : ℕ) (form : Echelon) (same_n : form.n ≡ n) where
  -- the number of a row whose unit row lies in the span
  pub row_told : CountPeople n protected.people → (row : ℕ) → SpansUnit form row → has_row (shared_in protected.people) row ≡ false →
      Tells n protected column form.rows None (Row row)
  row_told people row spans out = record {
    askers = tt;
    is_target = (subst (λ k. row < k) same_n spans.0, refl, (few_by_rows n protected.people people [] row (omega arith)).1 out);
    spanned = subst (λ k. InSpan form.rows (set_row k (row ∷ []))) same_n spans.1;
  }

  pub told_row : CountPeople n protected.people → (row : ℕ) → Tells n protected column form.rows None (Row row) →
      SpansUnit form row × (has_row (shared_in protected.people) row ≡ false)
  told_row people row tells = (
    (
      subst (λ k. row < k) (sym same_n) tells.is_target.0,
      subst (λ k. InSpan form.rows (set_row k (row ∷ []))) (sym same_n) tells.spanned,
    ),
    (few_by_rows n protected.people people [] row (omega arith)).0 tells.is_target.2,
  )

  -- the total of a group whose row does
  pub group_told : (place : ℕ) (entry : Protected) → slice_get protected.groups place ≡ Some entry → entry.column ≡ column →
      (row : ℕ) × (has_row entry.rows.list row ≡ true) × (has_row (own_rows None) row ≡ false) →
      InSpan form.rows (set_row form.n entry.rows.list) → Tells n protected column form.rows None (Group place)
  group_told place entry there of_column hit spanned = record {
    askers = tt;
    is_target = record { entry = entry; there = there; of_column = of_column; row = hit.0; holds = hit.1; other = hit.2 };
    spanned = subst (λ rows. InSpan form.rows (set_row n rows)) (sym (group_there protected.groups place entry there))
        (subst (λ k. InSpan form.rows (set_row k entry.rows.list)) same_n spanned);
  }

  pub told_group : (place : ℕ) (entry : Protected) → slice_get protected.groups place ≡ Some entry →
      Tells n protected column form.rows None (Group place) →
      (entry.column ≡ column) × ((row : ℕ) × (has_row entry.rows.list row ≡ true) × (has_row (own_rows None) row ≡ false))
      × InSpan form.rows (set_row form.n entry.rows.list)
  told_group place entry there tells =
      let found : Some entry ≡ Some tells.is_target.entry = sym there ∙ tells.is_target.there in
      let same : tells.is_target.entry ≡ entry = cc in (
        subst (λ (p : Protected). p.column ≡ column) same tells.is_target.of_column,
        (tells.is_target.row, subst (λ (p : Protected). has_row p.rows.list tells.is_target.row ≡ true) same tells.is_target.holds, refl),
        subst (λ k. InSpan form.rows (set_row k entry.rows.list)) (sym same_n)
            (subst (λ rows. InSpan form.rows (set_row n rows)) (group_there protected.groups place entry there) tells.spanned),
      )

-- ---- what it tells to one asker

-- a row is another one than hers exactly if it isn't her own
other_row : (q row : ℕ) → row ≢ q → has_row (q ∷ []) row ≡ false
other_row q row other = rw (ne_eqb q row (λ same. other (sym same))) refl

another_row : (q row : ℕ) → has_row (q ∷ []) row ≡ false → row ≢ q
another_row q row out same = true≢false (sym (has_first q []) ∙ ap (has_row (q ∷ [])) (sym same) ∙ out)

-- the one row of a set
same_row : (row r : ℕ) → has_row (row ∷ []) r ≡ true → r ≡ row
same_row row r there = elim (cases_eq r row) [
  | inl same ↦ same
  | inr other ↦ absurd (true≢false (sym there ∙ other_row row r other))
]

module _ (n : ℕ) (protected : Protection) (column : ℕ) (people : CountPeople n protected.people) (inside : 0 < protected.people.own) (form : Echelon)
    (same_n : form.n ≡ n) where
  -- who may ask
  asker : (q : ℕ) → q < form.n → has_row (several_in protected.people) q ≡ false → AllByRecursion (IsAsker n protected.people) (own_rows (Some q))
  asker q below single = (
    record {
      below = subst (λ k. q < k) same_n below;
      inside = inside;
      one = (one_by_rows n protected.people people q).1 single;
    },
    tt,
  )

  -- the number of another row
  pub row_by_teller : (row q : ℕ) → row < n → has_row (beside_in protected.people) row ≡ false →
      IsTeller form (several_in protected.people) (row ∷ []) q → Tells n protected column form.rows (Some q) (Row row)
  row_by_teller row q below out teller = record {
    askers = asker q teller.below teller.single;
    is_target = (
      below,
      other_row q row (λ same. teller.other (same_row row teller.row teller.inside ∙ same)),
      (few_by_rows n protected.people people (q ∷ []) row (omega arith)).1 out,
    );
    spanned = subst (λ k. InSpan (form.rows ++ set_row k (q ∷ []) ∷ []) (set_row k (row ∷ []))) same_n teller.spanned;
  }

  pub teller_of_row : (row q : ℕ) → Tells n protected column form.rows (Some q) (Row row) →
      (has_row (beside_in protected.people) row ≡ false) × IsTeller form (several_in protected.people) (row ∷ []) q
  teller_of_row row q tells = (
    (few_by_rows n protected.people people (q ∷ []) row (omega arith)).0 tells.is_target.2,
    record {
      below = subst (λ k. q < k) (sym same_n) tells.askers.0.below;
      single = (one_by_rows n protected.people people q).0 tells.askers.0.one;
      row = row;
      inside = has_first row [];
      other = another_row q row tells.is_target.1;
      spanned = subst (λ k. InSpan (form.rows ++ set_row k (q ∷ []) ∷ []) (set_row k (row ∷ []))) (sym same_n) tells.spanned;
    },
  )

  -- the total of a group
  pub group_by_teller : (place : ℕ) (entry : Protected) → slice_get protected.groups place ≡ Some entry → entry.column ≡ column → (q : ℕ) →
      IsTeller form (several_in protected.people) entry.rows.list q → Tells n protected column form.rows (Some q) (Group place)
  group_by_teller place entry there of_column q teller = record {
    askers = asker q teller.below teller.single;
    is_target = record {
      entry = entry;
      there = there;
      of_column = of_column;
      row = teller.row;
      holds = teller.inside;
      other = other_row q teller.row teller.other;
    };
    spanned = subst (λ rows. InSpan (form.rows ++ set_row n (q ∷ []) ∷ []) (set_row n rows)) (sym (group_there protected.groups place entry there))
        (subst (λ k. InSpan (form.rows ++ set_row k (q ∷ []) ∷ []) (set_row k entry.rows.list)) same_n teller.spanned);
  }

  pub teller_of_group : (place : ℕ) (entry : Protected) → slice_get protected.groups place ≡ Some entry → (q : ℕ) →
      Tells n protected column form.rows (Some q) (Group place) →
      (entry.column ≡ column) × IsTeller form (several_in protected.people) entry.rows.list q
  teller_of_group place entry there q tells =
      let found : Some entry ≡ Some tells.is_target.entry = sym there ∙ tells.is_target.there in
      let same : tells.is_target.entry ≡ entry = cc in (
        subst (λ (p : Protected). p.column ≡ column) same tells.is_target.of_column,
        record {
          below = subst (λ k. q < k) (sym same_n) tells.askers.0.below;
          single = (one_by_rows n protected.people people q).0 tells.askers.0.one;
          row = tells.is_target.row;
          inside = subst (λ (p : Protected). has_row p.rows.list tells.is_target.row ≡ true) same tells.is_target.holds;
          other = another_row q tells.is_target.row tells.is_target.other;
          spanned = subst (λ k. InSpan (form.rows ++ set_row k (q ∷ []) ∷ []) (set_row k entry.rows.list)) (sym same_n)
              (subst (λ rows. InSpan (form.rows ++ set_row n (q ∷ []) ∷ []) (set_row n rows)) (group_there protected.groups place entry there)
              tells.spanned);
        },
      )

-- outside nobody knows a number
pub nobody_tells : (n : ℕ) (protected : Protection) (column : ℕ) (rows : List (List ℤ)) → protected.people.own ≡ 0 → (q : ℕ) (target : Target) →
    ¬ (Tells n protected column rows (Some q) target)
nobody_tells n protected column rows outside q target tells = let some = tells.askers.0.inside in absurd (omega arith)

-- ---- who is a teller

-- one that is found among all rows but those that aren't this one is this one
pub only_teller : (form : Echelon) (several set : List ℕ) (q : ℕ) → q < form.n → has_row several q ≡ false →
    SpansBeside form (complement form.n (q ∷ [])) set → IsTeller form several set q
only_teller form several set q below single spans =
    let same : spans.own ≡ q = elim (cases_eq spans.own q) [
      | inl here ↦ here
      | inr other ↦
          let out = has-rows_that (λ r. not (has_row (q ∷ []) r)) form.n spans.own spans.below in
          absurd (true≢false (sym (ap not (other_row q spans.own other)) ∙ sym out ∙ spans.single))
    ] in record {
      below = below;
      single = single;
      row = spans.row;
      inside = spans.inside;
      other = λ here. spans.other (here ∙ sym same);
      spanned = subst (λ k. InSpan (form.rows ++ unit_row form.n k ∷ []) (set_row form.n set)) same spans.spanned;
    }

pub spans_by_teller : (form : Echelon) (several set : List ℕ) (q : ℕ) → IsTeller form several set q → SpansBeside form (complement form.n (q ∷ [])) set
spans_by_teller form several set q teller = record {
  own = q;
  below = teller.below;
  single = has-rows_that (λ r. not (has_row (q ∷ []) r)) form.n q teller.below ∙ ap not (has_first q []);
  row = teller.row;
  inside = teller.inside;
  other = teller.other;
  spanned = teller.spanned;
}

-- some row is one if one is found
pub some_teller : (form : Echelon) (several set : List ℕ) → ¬ (SpansBeside form several set) → (q : ℕ) → ¬ (IsTeller form several set q)
some_teller form several set none q teller = none (record {
  own = q;
  below = teller.below;
  single = teller.single;
  row = teller.row;
  inside = teller.inside;
  other = teller.other;
  spanned = teller.spanned;
})

-- the first place of which something holds for somebody, and the first for whom
pub first_beside : (P : ℕ → ℕ → Type 0) (place own : ℕ) → ((i : ℕ) → i < place → (p : ℕ) → ¬ (P i p)) → IsLeast (λ q. P place q) (Some own) →
    IsFirstBeside P place own
first_beside P place own none least = record { here = least.0; first = first }
  where
    first : (other p : ℕ) → P other p → (place < other) ⊎ ((place ≡ other) × (own ≤ p))
    first other p holds = elim (cases_lt other place) [
      | inl before ↦ absurd (none other before p holds)
      | inr after ↦ elim (cases_lt place other) [
        | inl later ↦ inl later
        | inr here ↦
            let same : other ≡ place = omega arith in
            inr (sym same, no_later (λ q. P place q) own p least (subst (λ k. P k p) same holds))
      ]
    ]

-- what a call answers to one question it answers to another that is the same
pub ok_same : {P Q : Type 0} → (P → Q) → (Q → P) → (result : Result Bool NoMemory) → IfOk result (λ b. (b ≡ true) ↔ P) → IfOk result (λ b. (b ≡ true) ↔ Q)
ok_same there back (Ok b) is = (λ yes. there (is.0 yes), λ q. is.1 (back q))
ok_same there back (Err fault) is = tt

pub ok_least : {P Q : ℕ → Type 0} → ((k : ℕ) → P k → Q k) → ((k : ℕ) → Q k → P k) → (result : Result (Option ℕ) NoMemory) →
    IfOk result (IsLeast P) → IfOk result (IsLeast Q)
ok_least there back (Ok least) is = least_same _ _ there back least is
ok_least there back (Err fault) is = tt

-- if nothing was found, nothing more is there
pub ok_none : {P Q : Type 0} {X : Type 0} → (P → Q) → (result : Result (Option X) NoMemory) → IfOk result (λ found. IfNone found P) →
    IfOk result (λ found. IfNone found Q)
ok_none there (Ok None) is = there is
ok_none there (Ok (Some x)) is = tt
ok_none there (Err fault) is = tt

-- ---- what comes first

module _ (n : ℕ) (protected : Protection) (column : ℕ) (rows : List (List ℤ)) where
  abbrev Told : Option ℕ → Target → Type 0
  Told own target = Tells n protected column rows own target

  pub row_first : (row : ℕ) → IsLeast (λ i. Tells n protected column rows None (Row i)) (Some row) →
      IsFirstTarget n protected column rows (Row row) None
  row_first row least = record { told = least.0; first = first }
    where
      first : (goal : Target) (other : Option ℕ) → Told other goal → IsNoLater (Row row) None goal other
      first (Row j) None tells = no_later (λ i. Told None (Row i)) row j least tells
      first (Row j) (Some p) tells = tt
      first (Group h) other tells = tt

  module _ (no_row : (i : ℕ) → ¬ (Tells n protected column rows None (Row i))) where
    pub pair_first : (row q : ℕ) → IsFirstBeside (λ i p. Tells n protected column rows (Some p) (Row i)) row q →
        IsFirstTarget n protected column rows (Row row) (Some q)
    pair_first row q least = record { told = least.here; first = first }
      where
        first : (goal : Target) (other : Option ℕ) → Told other goal → IsNoLater (Row row) (Some q) goal other
        first (Row j) None tells = no_row j tells
        first (Row j) (Some p) tells = least.first j p tells
        first (Group h) other tells = tt

    module _ (no_pair : (i p : ℕ) → ¬ (Tells n protected column rows (Some p) (Row i))) where
      pub group_first : (place : ℕ) → IsLeast (λ g. Tells n protected column rows None (Group g)) (Some place) →
          IsFirstTarget n protected column rows (Group place) None
      group_first place least = record { told = least.0; first = first }
        where
          first : (goal : Target) (other : Option ℕ) → Told other goal → IsNoLater (Group place) None goal other
          first (Row j) None tells = no_row j tells
          first (Row j) (Some p) tells = no_pair j p tells
          first (Group h) None tells = no_later (λ g. Told None (Group g)) place h least tells
          first (Group h) (Some p) tells = tt

      module _ (no_group : (g : ℕ) → ¬ (Tells n protected column rows None (Group g))) where
        pub teller_first : (place q : ℕ) → IsFirstBeside (λ g p. Tells n protected column rows (Some p) (Group g)) place q →
            IsFirstTarget n protected column rows (Group place) (Some q)
        teller_first place q least = record { told = least.here; first = first }
          where
            first : (goal : Target) (other : Option ℕ) → Told other goal → IsNoLater (Group place) (Some q) goal other
            first (Row j) None tells = no_row j tells
            first (Row j) (Some p) tells = no_pair j p tells
            first (Group h) None tells = no_group h tells
            first (Group h) (Some p) tells = least.first h p tells

        -- nothing is told to anybody
        pub nothing_told : ((g p : ℕ) → ¬ (Tells n protected column rows (Some p) (Group g))) → (target : Target) (own : Option ℕ) →
            ¬ (Tells n protected column rows own target)
        nothing_told no_teller (Row i) None tells = no_row i tells
        nothing_told no_teller (Row i) (Some p) tells = no_pair i p tells
        nothing_told no_teller (Group g) None tells = no_group g tells
        nothing_told no_teller (Group g) (Some p) tells = no_teller g p tells
