-- What was legal for the first rows of a table is legal for all of them.
use Rattle.std.proofs.Common.{◌≡◌, ℕ, zero, suc, ◌<◌, ◌≤◌, ℤ, List, [], ◌∷◌, map, take, Some, refl, sym, ap, ◌∙◌, subst, arith}
use Rattle.std.specs.Prelude.{slice_get, All, Contains}
use Rattle.std.specs.List.{AllByRecursion}
use Rattle.std.proofs.lemmas.List.{get_or-take}
use Rattle.audit_types.specs.declared.records.Answered.{Answered}
use Rattle.audit_types.specs.declared.records.Verdict.TheVariants.{Released}
use Rattle.audit_types.specs.GreatestLaws.{same_truth}
use Rattle.audit_types.specs.Rows.{AreRows}
use Rattle.audit_types.specs.Truth.{truth}
use Rattle.audit_types.specs.Column.{Known}
use Rattle.audit_types.specs.Shapes.{kind_at}
use Rattle.audit_types.specs.Judgement.{IsDecision}
use Rattle.audit_types.specs.History.{Table, IsProtected, IsLegal, IsLegalRecord, answers_of, groups_of, known_of, setting_of, list_of}
use Rattle.audit_types.specs.ListLaws.{all_by_place, all-take}
use Rattle.sum_basis.specs.Laws.{SetsHaveOneForm}
use Rattle.audit_types.specs.RowLaws.{AscendsFrom-wider}
use Rattle.audit_types.specs.Widening.{over, wider, widened, protection_among, first_rows}
use Rattle.audit_types.specs.WideningLaws.{length-widened, record_of_widened, take-widened, answers_of-widened}
use Rattle.audit_core.specs.KindColumns.{known_in_setting}
use Rattle.audit_core.specs.WideningLaws.{LegalStays}
use Rattle.audit_core.proofs.OwnAnswers.{all_answers}
use Rattle.audit_core.proofs.MoreRows.{grown, CountAlike, IsGrown}
use Rattle.audit_core.proofs.DecisionsStay.{released_stays}
use Rattle.audit_core.proofs.FirstGroups.{first_part}

-- ---- the first rows of a table

list_of-first : (m : ℕ) (lists : List (List ℤ)) (column : ℕ) → list_of (map (take m) lists) column ≡ take m (list_of lists column)
list_of-first zero [] column = refl
list_of-first (suc m) [] column = refl
list_of-first m (w ∷ lists) zero = refl
list_of-first m (w ∷ lists) (suc column) = list_of-first m lists column

module _ (law : SetsHaveOneForm) (longer : Table) (fit : All (IsProtected longer.setting.shape) longer.setting.protected.groups)
    (reach : 0 < longer.setting.protected.reach) (m : ℕ) (le : m ≤ longer.setting.shape.rows)
    (history : List Answered) (legal : IsLegal (first_rows m longer) history) where
  -- what the first records tell of a column over the first rows
  abbrev known_before : ℕ → ℕ → Known
  known_before i column = known_of (setting_of (over m longer.setting.shape) (protection_among m longer.setting.protected)) (take i history) column

  fitting : (i : ℕ) (r : Answered) → slice_get history i ≡ Some r → AreRows m r.rows.list
  fitting i r here = let fits = (legal.each i r here).fits in subst (λ k. AreRows k r.rows.list) fits.same_n fits.are_rows

  sets_before : (i column : ℕ) → AllByRecursion (λ a. AreRows m a.rows) (answers_of column (take i history))
  sets_before i column =
      all_answers (λ a. AreRows m a.rows) column (take i history)
      (all-take (λ r. AreRows m r.rows.list) i history (all_by_place (λ r. AreRows m r.rows.list) history fitting))

  -- the rows of a group of the longer table that are among the first are a group of these
  groups_before : (i column : ℕ) (group : List ℕ) → Contains (groups_of column longer.setting.protected.groups) group →
      IsGrown (known_before i column) longer.setting.shape.rows group
  groups_before i column group there =
      let is = first_part longer.setting.shape m column longer.setting.protected.groups fit group there in record { are = is.are; first = is.first }

  -- the same people stand behind the first rows
  count_alike : (i column : ℕ) → CountAlike (known_before i column) longer.setting.protected.people
  count_alike i column =
      record { counts = λ row lt. sym (get_or-take m longer.setting.protected.people.counts row 1 lt); fewest = refl; own = refl }

  same_known : (i column : ℕ) → known_of longer.setting (widened longer.setting.shape.rows (take i history)) column
      ≡ grown longer.setting.shape.rows longer.setting.protected.people (groups_of column longer.setting.protected.groups) (known_before i column)
  same_known i column =
      ap (λ answers. known_in_setting longer.setting answers (kind_at longer.setting.shape column) (groups_of column longer.setting.protected.groups))
      (answers_of-widened longer.setting.shape.rows column (take i history))

  legal_record : (i : ℕ) (r : Answered) → slice_get history i ≡ Some r →
      IsLegalRecord longer (widened longer.setting.shape.rows (take i history)) (wider longer.setting.shape.rows r)
  legal_record i r here =
      let old = legal.each i r here in
      let are = fitting i r here in
      record {
        fits = record {
          column_below = old.fits.column_below;
          same_n = refl;
          are_rows = AscendsFrom-wider 0 m longer.setting.shape.rows r.rows.list le are;
          some = old.fits.some;
        };
        true_answer =
            old.true_answer ∙ ap (λ w. truth (kind_at longer.setting.shape r.column) w r.rows.list) (list_of-first m longer.secrets r.column)
            ∙ same_truth (take m (list_of longer.secrets r.column)) (list_of longer.secrets r.column) m
            (λ q lt. get_or-take m (list_of longer.secrets r.column) q _ lt) (kind_at longer.setting.shape r.column) r.rows.list are;
        released = subst (λ known. IsDecision known r.rows.list Released) (sym (same_known i r.column))
            (released_stays law (known_before i r.column) r.rows.list longer.setting.shape.rows (sets_before i r.column, are) le reach
            longer.setting.protected.people (groups_of r.column longer.setting.protected.groups) (count_alike i r.column) (groups_before i r.column)
            old.released);
      }

  pub legal_over_all : IsLegal longer (widened longer.setting.shape.rows history)
  legal_over_all = record {
    few = omega (arith, length-widened longer.setting.shape.rows history, legal.few);
    each = λ i s there.
        let found = record_of_widened longer.setting.shape.rows history i s there in
        subst (λ (s : Answered). IsLegalRecord longer (take i (widened longer.setting.shape.rows history)) s) found.2
        (subst (λ (h : List Answered). IsLegalRecord longer h (wider longer.setting.shape.rows found.0))
        (sym (take-widened longer.setting.shape.rows i history)) (legal_record i found.0 found.1));
  }

pub legal_stays : SetsHaveOneForm → LegalStays
legal_stays law table longer history fit extends legal =
    legal_over_all law longer fit.0 (omega (arith, fit.5)) table.setting.shape.rows (omega (arith, extends.0)) history
    (subst (λ (t : Table). IsLegal t history) extends.1 legal)
