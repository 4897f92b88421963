use Rattle.std.proofs.Common.{◌≡◌, ℕ, List, Option, Some, None, false, ◌++◌, ◌∷◌, [], map, refl, sym, ap, ◌∙◌, subst}
use Rattle.std.specs.Prelude.{IfSome}
use Rattle.audit_types.specs.Headcount.{CountPeople, shared_in}
use Rattle.audit_types.specs.HeadcountLaws.{crowded_rows}
use Rattle.audit_types.specs.History.{Protection}
use Rattle.audit_types.specs.Rows.{Rows, AreRows, has_row}
use Rattle.audit_types.specs.Form.{set_row, HasNarrowForm, IsNarrow, Reduced}
use Rattle.sum_basis.specs.Basis.{Echelon, SpansUnit}
use Rattle.sum_basis.specs.RowsWith.{IsLeastOwnUnitWith}
use Rattle.denial_proof.specs.declared.proof_parts.Target.TheVariants.{Row}
use Rattle.denial_proof.specs.Canonical.{IsFirstTarget, Tells}
use Rattle.denial_proof.proofs.FirstTargets.{least_same, row_first, row_told, told_row}
use Rattle.denial_proof.proofs.SpannedTargets.{first_of_sets}
use Rattle.denial_proof.proofs.Tests.{ok_weaker}
use Rattle.denial_proof.proofs.targets.told_row.Goals as goal

pub over-shared-requires-clause-rows : goal.over-shared-requires-clause-rows
over-shared-requires-clause-rows c =
    let people = c.args.protected.now.people in
    subst (AreRows c.n.result) (sym (c.shared.ensures.rows ∙ ap shared_in c.rows.ensures))
    (subst (λ (k : ℕ). AreRows k (shared_in people)) (sym c.n.ensures.n) (crowded_rows _ c.args.sums.now.n people.counts c.requires.people.within))

-- the least row of the form that isn't shared is told first
first_row : (n width : ℕ) (protected : Protection) (basis : Echelon) (sets : List (List ℕ)) (rows shared : List ℕ) → basis.n ≡ n → basis.width ≡ width →
    CountPeople n protected.people → Reduced n sets basis.rows → HasNarrowForm width n (sets ++ rows ∷ []) → shared ≡ shared_in protected.people →
    (found : Option ℕ) → IsLeastOwnUnitWith basis shared rows found →
    IfSome found (λ row. (column : ℕ) → IsFirstTarget n protected column (map (set_row n) (sets ++ rows ∷ [])) (Row row) None)
first_row n width protected basis sets rows shared same same_width people reduced narrow is None least = tt
first_row n width protected basis sets rows shared same same_width people reduced narrow is (Some row) least = λ column.
    let form : Echelon = record { n = n; width = width; rows = narrow.form } in
    let told = least sets form (subst (λ (k : ℕ). Reduced k sets basis.rows) (sym same) reduced) (sym same)
    (subst (λ (k : ℕ). Reduced k (sets ++ rows ∷ []) narrow.form) (sym same) narrow.reduced)
    (subst (λ (w : ℕ). IsNarrow w narrow.form) (sym same_width) narrow.narrow) in
    first_of_sets n protected column (sets ++ rows ∷ []) narrow.form narrow.reduced (Row row) None
    (row_first n protected column narrow.form row
    (least_same (λ i. SpansUnit form i × (has_row shared i ≡ false)) (λ i. Tells n protected column narrow.form None (Row i))
    (λ i told_unit. row_told n protected column form refl people i told_unit.0 (sym (ap (λ (l : List ℕ). has_row l i) is) ∙ told_unit.1))
    (λ i tells. let here = told_row n protected column form refl people i tells in (here.0, ap (λ (l : List ℕ). has_row l i) is ∙ here.1))
    (Some row) told))

pub returns : goal.returns
returns c =
    let sums = c.args.sums.now in
    let list = ap (λ (s : Rows). s.list) c.over-shared.ensures ∙ c.shared.ensures.rows ∙ ap shared_in c.rows.ensures in
    ok_weaker (λ found least. first_row sums.n sums.width c.args.protected.now c.basis.result.now (map (λ a. a.rows) sums.answers) c.args.rows.now.list
    c.over-shared.result.list c.basis.ensures.n c.basis.ensures.width c.requires.people c.basis.ensures.form c.requires.narrow list found least)
    c.unshared_unit_row_with.result c.unshared_unit_row_with.ensures
