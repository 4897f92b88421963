-- The first records of a legal history leave each column of sums within the bounds: each record of it was released.
use Rattle.std.proofs.Common.{◌≡◌, ℕ, zero, suc, ◌+◌, ◌<◌, ◌≤◌, ℤ, pos, List, [], length, take, replicate, get_or, Some, refl, sym, subst, arith, inl, inr, add-one}
use Rattle.std.specs.Prelude.{slice_get, All}
use Rattle.std.proofs.lemmas.Bool.{cases_eq}
use Rattle.std.proofs.lemmas.List.Elements.{All-contains}
use Rattle.std.proofs.lemmas.Option.{slice_get_cases}
use Rattle.std.proofs.Math.Nat.{one-dvd}
use Rattle.audit_types.specs.declared.shapes.Kind.TheVariants.{Sum}
use Rattle.audit_types.specs.declared.records.Answered.{Answered}
use Rattle.audit_types.specs.Rows.{AreRows}
use Rattle.audit_types.specs.Shapes.{kind_at}
use Rattle.audit_types.specs.Form.{Reduced}
use Rattle.audit_types.specs.Column.{Known, IsGuarded, number, greatest, total}
use Rattle.audit_types.specs.Judgement.{IsWithinWidthFor}
use Rattle.audit_types.specs.History.{Table, AreProtected, IsLegal, known_of}
use Rattle.audit_types.specs.OutsiderLaws.{some_row}
use Rattle.audit_types.specs.Reach.{IsWithinBounds}
use Rattle.audit_types.specs.WidthLaws.{guarded_alike}
use Rattle.audit_core.specs.Laws.{sets_before, LegalIsNarrow, LegalIsWithinBounds}
use Rattle.audit_core.specs.FrontLaws.{sets_after_own, sets_after_other}
use Rattle.audit_core.proofs.MoreRows.{ReadsNew, total_of_new, number_of_new, greatest_of_new}
use Rattle.audit_core.proofs.PaddedChanges.{new_changes, zero_of_zeros}
use Rattle.audit_core.proofs.PaddedForms.{zeros_at}
use Rattle.audit_core.proofs.ProtectedGroups.{group_rows_of}

-- the sets have a form that is within what bounds the column
record AreWithin (known : Known) (sets : List (List ℕ)) : Type 0 where
  form : List (List ℤ)
  reduced : Reduced known.n sets form
  within : IsWithinBounds known sets form

-- with no sets each row changes alone
reads_alone : (known : Known) → All (AreRows known.n) known.groups → {value : List ℤ → ℤ} → IsGuarded known [] value → ReadsNew 0 known.n [] value
reads_alone known groups (number row below other alone) = number_of_new 0 known.n [] row (omega arith) below refl
reads_alone known groups (greatest rows maxima are some others few) =
    let hit = some_row rows some in greatest_of_new 0 known.n [] rows hit.0 are (omega arith) hit.1 refl
reads_alone known groups (total group row one inside other) =
    total_of_new 0 known.n [] group row (All-contains (AreRows known.n) known.groups group groups one) (omega arith) inside refl

within_at_first : (known : Known) → 0 < known.width → 0 < known.reach → All (AreRows known.n) known.groups → AreWithin known []
within_at_first known some reach groups = record {
  form = [];
  reduced = record { primitive = tt; echelon = tt; within = tt; spans = tt };
  within = record {
    narrow = record { entries = tt; common = 1; common_is = record { multiple = tt; least = λ k all. one-dvd k }; common_small = omega arith };
    near = λ value guarded changes. new_changes 0 known.n known.reach [] [] value tt (reads_alone known groups guarded)
        (zero_of_zeros known guarded (replicate known.n (pos 0)) (zeros_at known.n)) reach;
  };
}

module _ (table : Table) (history : List Answered) (column : ℕ) (protected : AreProtected table.setting.shape table.setting.protected)
    (legal : IsLegal table history)
    (sums : kind_at table.setting.shape column ≡ Sum) where
  abbrev known : Known
  known = known_of table.setting history column

  -- one record more
  within_next : (i : ℕ) (r : Answered) → slice_get history i ≡ Some r → i < length history → get_or history i r ≡ r →
      AreWithin known (sets_before column history i) →
      AreWithin known (sets_before column history (i + 1))
  within_next i r there below is rest = elim (cases_eq r.column column) [
    | inl own ↦
        let released = (legal.each i r there).released.0 in
        let of_column = subst (λ k. IsWithinWidthFor (kind_at table.setting.shape k) (known_of table.setting (take i history) k) r.rows.list) own released in
        let found = subst (λ kind. IsWithinWidthFor kind (known_of table.setting (take i history) column) r.rows.list) sums of_column in
        subst (AreWithin known) (sym (sets_after_own column history i r below is own)) (record {
          form = found.0;
          reduced = found.1;
          within = record {
            narrow = found.2.narrow;
            near = λ value guarded changes.
                found.2.near value (guarded_alike known (known_of table.setting (take i history) column) refl refl refl refl [] guarded) changes;
          };
        })
    | inr other ↦ subst (AreWithin known) (sym (sets_after_other column history i r below is other)) rest
  ]

  within_so_far : (place : ℕ) → place ≤ length history → AreWithin known (sets_before column history place)
  within_so_far zero le = within_at_first known protected.3 (omega (arith, protected.5))
      (group_rows_of table.setting.shape table.setting.protected column protected)
  within_so_far (suc i) le =
      let rest = within_so_far i (omega arith) in
      elim (slice_get_cases history i).1 [
        | inl (r, below, there, is) ↦ subst (λ k. AreWithin known (sets_before column history k)) (add-one i) (within_next i r there below is rest)
        | inr (past, none) ↦ absurd (omega arith)
      ]

pub legal_is_within_bounds : LegalIsWithinBounds
legal_is_within_bounds table history column place fit legal sums le =
    let found = within_so_far table history column fit legal sums place le in (found.form, found.reduced, found.within)

pub legal_is_narrow : LegalIsNarrow
legal_is_narrow table history column place fit legal sums le =
    let found = within_so_far table history column fit legal sums place le in
    record { form = found.form; reduced = found.reduced; narrow = found.within.narrow }
