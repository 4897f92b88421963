-- What was found of the row of a set when it was weighed.
use Rattle.std.proofs.Common.{◌≡◌, ℕ, ℤ, List, sym, ap, ◌∙◌, subst}
use Rattle.audit_types.specs.Form.{set_row}
use Rattle.sum_basis.specs.Basis.{Echelon}
use Rattle.sum_basis.specs.Growth.{IsWeighed}
use Rattle.sum_basis.specs.declared.form.Weighed.{Weighed}

-- it was found of the row of the set over the form's columns
pub weighed_at : (form seen : Echelon) (m : ℕ) (list : List ℕ) (row : List ℤ) (weighed : Weighed) → form ≡ seen → row ≡ set_row m list → m ≡ seen.n →
    IsWeighed form row weighed → IsWeighed form (set_row form.n list) weighed
weighed_at form seen m list row weighed view is n h =
    subst (λ (r : List ℤ). IsWeighed form r weighed) (is ∙ ap (λ (k : ℕ). set_row k list) (n ∙ sym (ap (λ (e : Echelon). e.n) view))) h
