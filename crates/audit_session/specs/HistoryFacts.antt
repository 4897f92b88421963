-- Facts on the histories that runs leave: their sets are over the rows of the table, and histories that begin each other are one.
use Rattle.std.proofs.Common.{◌≡◌, ℕ, List, [], ◌∷◌, ◌++◌, append_assoc, refl, sym, ◌∙◌, ap, subst, arith}
use Rattle.std.specs.List.{AllByRecursion}
use Rattle.std.proofs.lemmas.List.{append_cancel_left, append-nil}
use Rattle.audit_types.specs.declared.records.Answered.{Answered}
use Rattle.audit_types.specs.declared.shapes.Shape.{Shape}
use Rattle.audit_types.specs.History.{Table, IsLegal}
use Rattle.audit_types.specs.ListLaws.{all_by_place}
use Rattle.audit_types.specs.Rows.{AreRows}
use Rattle.audit_types.specs.Widening.{widened}
use Rattle.audit_types.specs.WideningLaws.{widened-same, widened-widened}
use Rattle.journal_form.specs.Journal.{StandsFor}
use Rattle.audit_session.specs.Stops.{IsFront}

-- the empty history is legal
pub nothing_is_legal : (table : Table) → IsLegal table []
nothing_is_legal table = record { few = omega arith; each = λ i r is. cc }

-- each set of a legal history is of rows of the table
pub rows_of_legal : (table : Table) (history : List Answered) → IsLegal table history →
    AllByRecursion (λ r. AreRows table.setting.shape.rows r.rows.list) history
rows_of_legal table history legal = all_by_place (λ r. AreRows table.setting.shape.rows r.rows.list) history
    (λ i r here. let fits = (legal.each i r here).fits in subst (λ n. AreRows n r.rows.list) fits.same_n fits.are_rows)

-- a legal history is over the rows of its table
pub over_own : (table : Table) (history : List Answered) → IsLegal table history → widened table.setting.shape.rows history ≡ history
over_own table history legal =
    widened-same table.setting.shape.rows history
    (all_by_place (λ r. r.rows.n ≡ table.setting.shape.rows) history (λ i r here. (legal.each i r here).fits.same_n))

-- what a file stands for is over the rows in force
pub over_left : (image : List ℕ) (shape : Shape) (history : List Answered) → StandsFor image shape history → widened shape.rows history ≡ history
over_left image shape history stands =
    let groups = stands.1.history_is in ap (widened shape.rows) groups ∙ widened-widened shape.rows shape.rows _ ∙ sym groups

-- histories that begin each other are one
pub fronts_meet : (a b : List Answered) → IsFront a b → IsFront b a → a ≡ b
fronts_meet a b first second =
    let whole : a ≡ a ++ (first.rest ++ second.rest) =
    second.is ∙ ap (λ (l : List Answered). l ++ second.rest) first.is ∙ append_assoc a first.rest second.rest in
    let none : [] ≡ first.rest ++ second.rest = append_cancel_left a [] _ (append-nil a ∙ whole) in
    sym (first.is ∙ ap (λ (l : List Answered). a ++ l) (none_first first.rest second.rest none) ∙ append-nil a)
  where
    none_first : (x y : List Answered) → [] ≡ x ++ y → x ≡ []
    none_first [] y is = refl
    none_first (r ∷ x) y is = cc
