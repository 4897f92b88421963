-- The form that grew by a row is the one that grows by what is left of it.
use Rattle.std.proofs.Common.{◌≡◌, ◌↔◌, ℕ, ◌≤◌, Bool, IsTrue, ℤ, List, [], ◌∷◌, ◌++◌, sym, ap, ◌∙◌, subst, arith}
use Rattle.std.specs.Prelude.{Result, IfOk}
use Rattle.std.proofs.lemmas.Result.{IfOk-weaker}
use Rattle.audit_types.specs.Form.{set_row, InSpan, IsNarrow}
use Rattle.audit_types.specs.Truth.{number_at, sum_over}
use Rattle.sum_basis.specs.Basis.{Echelon}
use Rattle.sum_basis.specs.Elimination.{IsSmallForm}
use Rattle.sum_basis.specs.Growth.{GrowsTo, GrowsWide, IsNewRow}
use Rattle.sum_basis.specs.Reach.{IsGrownBy, IsReached, ReachesAll}
use Rattle.sum_basis.specs.Sparse.{row_of, IsNew}
use Rattle.sum_basis.specs.declared.sparse.FreeEntry.{FreeEntry}
use Rattle.sum_basis.proofs.Exactness.{other_row}
use Rattle.sum_basis.specs.Spans.{own}
use Rattle.sum_basis.proofs.FormsAreUnique.{forms_are_unique}
use Rattle.sum_basis.proofs.SpanKeepsForm.{span_keeps_form}

module _ (form : Echelon) (v : List ℤ) (new : Echelon) (grows : GrowsTo form v new) where
  -- by the list of the new row
  pub by_list : (list : List FreeEntry) → IsNew form.n list → IsNewRow form v (row_of form.n list) → IsGrownBy form list new.rows
  by_list [] is row = absurd (let some = is.some in omega arith)
  by_list (e ∷ es) is row = other_row form.n form.rows new.rows v (row_of form.n (e ∷ es)) row.back row.there grows.reduced

  -- by nothing, if the row lies in the span
  pub by_nothing : IsSmallForm form.n form.rows → InSpan form.rows v → IsGrownBy form [] new.rows
  by_nothing f span =
      forms_are_unique form.n (form.rows ++ v ∷ []) form.rows new.rows
      (span_keeps_form form.n form.rows form.rows v
      (record { primitive = f.primitive; echelon = f.echelon; within = own form.rows; spans = own form.rows }) span) grows.reduced

  -- a form that grows narrow doesn't grow wide
  pub not_wide : GrowsWide form v → ⊥
  not_wide wide = wide.2 (subst (IsNarrow _) (forms_are_unique form.n (form.rows ++ v ∷ []) new.rows wide.0 grows.reduced wide.1) grows.narrow)

-- no direction has more than n rows
pub within_all : (n reach : ℕ) (shared : List ℕ) (sets : List (List ℕ)) (form : List (List ℤ)) → n ≤ reach → ReachesAll n reach shared sets form
within_all n reach shared sets form long = record { numbers = λ i l own. further (λ w. number_at w i); totals = λ set one. further (λ w. sum_over w set) }
  where
    further : (value : List ℤ → ℤ) → IsReached n reach form value
    further value c = record {
      column = c.column;
      direction = c.direction;
      along = c.along;
      near = let near = c.near in omega arith;
      changed = c.changed;
    }

-- what is told of a form and a row, said of the set
module _ (form seen : Echelon) (row : List ℤ) (m : ℕ) (list : List ℕ) (view : form ≡ seen) (is : row ≡ set_row m list) (same : m ≡ seen.n) where
  row_is : row ≡ set_row form.n list
  row_is = is ∙ ap (λ (k : ℕ). set_row k list) (same ∙ sym (ap (λ (e : Echelon). e.n) view))

  pub told_by : {E : Type 0} (r : Result Bool E) (new : List FreeEntry) (reach : ℕ) (shared : List ℕ) (sets : List (List ℕ)) →
      ((other : Echelon) → GrowsTo form row other → IsGrownBy form new other.rows) →
      IfOk r (λ within. (grown : List (List ℤ)) → IsGrownBy form new grown → IsTrue within ↔ ReachesAll form.n reach shared sets grown) →
      IfOk r (λ within. (other : Echelon) → GrowsTo seen (set_row seen.n list) other → IsTrue within ↔ ReachesAll seen.n reach shared sets other.rows)
  told_by r new reach shared sets grown told =
      subst (λ (s : Echelon). IfOk r (λ within. (other : Echelon) → GrowsTo s (set_row s.n list) other →
      IsTrue within ↔ ReachesAll s.n reach shared sets other.rows)) view
      (subst (λ (v : List ℤ). IfOk r (λ within. (other : Echelon) → GrowsTo form v other → IsTrue within ↔ ReachesAll form.n reach shared sets other.rows))
      row_is
      (IfOk-weaker r (λ within. (g : List (List ℤ)) → IsGrownBy form new g → IsTrue within ↔ ReachesAll form.n reach shared sets g)
      (λ within. (other : Echelon) → GrowsTo form row other → IsTrue within ↔ ReachesAll form.n reach shared sets other.rows)
      (λ within h other grows. h other.rows (grown other grows)) told))

  pub never_large : GrowsWide form row → (other : Echelon) → ¬ (GrowsTo seen (set_row seen.n list) other)
  never_large wide other grows =
      not_wide seen (set_row seen.n list) other grows
      (subst (λ (s : Echelon). GrowsWide s (set_row s.n list)) view (subst (GrowsWide form) row_is wide))
