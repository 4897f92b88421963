use Rattle.std.proofs.Common.{ℕ, List, [], ◌∷◌, sym, ap, ◌∙◌, subst}
use Rattle.std.proofs.lemmas.Bool.{true≢false}
use Rattle.audit_types.specs.Headcount.{beside_in, several_in}
use Rattle.audit_types.specs.HeadcountLaws.{crowded_rows}
use Rattle.audit_types.specs.Rows.{Rows, AreRows, has_row}
use Rattle.denial_proof.specs.Tellers.{IsTeller}
use Rattle.denial_proof.proofs.Tests.{same_test}
use Rattle.denial_proof.proofs.FirstTargets.{ok_least, row_by_teller, teller_of_row}
use Rattle.denial_proof.proofs.targets.teller_of_row.Goals as goal

pub over-several-requires-clause-rows : goal.over-several-requires-clause-rows
over-several-requires-clause-rows c =
    let people = c.args.protected.now.people in
    subst (AreRows c.args.n) (sym (c.several.ensures.rows ∙ ap several_in c.rows-people.ensures))
    (crowded_rows 2 c.args.n people.counts c.requires.people.within)

pub returns-then-holds : goal.returns-then-holds
returns-then-holds c = λ q tells.
    let list = ap (λ (l : List ℕ). has_row l c.args.row) (c.beside.ensures.rows ∙ ap beside_in c.rows-people.ensures) in
    let out = (teller_of_row c.args.n c.args.protected.now c.args.column c.requires.people c.requires.inside c.args.basis.now c.requires.n c.args.row q
    tells).0 in
    true≢false (sym (c.holds.ensures.0 c.if-holds.true) ∙ list ∙ out)

pub returns : goal.returns
returns c =
    let protected = c.args.protected.now in
    let form = c.args.basis.now in
    let row = c.args.row in
    let list = ap (λ (s : Rows). s.list) c.over-several.ensures ∙ c.several.ensures.rows ∙ ap several_in c.rows-people.ensures in
    let beside = ap (λ (l : List ℕ). has_row l row) (c.beside.ensures.rows ∙ ap beside_in c.rows-people.ensures) in
    let out = sym beside ∙ sym (same_test c.holds.result _ c.holds.ensures) ∙ c.if-holds.false in
    ok_least
    (λ q teller. row_by_teller c.args.n protected c.args.column c.requires.people c.requires.inside form c.requires.n row q c.requires.row out
    (subst (λ (l : List ℕ). IsTeller form l (row ∷ []) q) list
    (subst (λ (l : List ℕ). IsTeller form c.over-several.result.list l q) c.only_row-set.ensures.rows teller)))
    (λ q tells. subst (λ (l : List ℕ). IsTeller form c.over-several.result.list l q) (sym c.only_row-set.ensures.rows)
    (subst (λ (l : List ℕ). IsTeller form l (row ∷ []) q) (sym list)
    (teller_of_row c.args.n protected c.args.column c.requires.people c.requires.inside form c.requires.n row q tells).1))
    c.first_teller.result c.first_teller.ensures
