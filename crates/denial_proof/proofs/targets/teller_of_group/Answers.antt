use Rattle.std.proofs.Common.{ℕ, List, sym, ap, ◌∙◌, subst}
use Rattle.audit_types.specs.Headcount.{several_in}
use Rattle.audit_types.specs.HeadcountLaws.{crowded_rows}
use Rattle.audit_types.specs.Rows.{Rows, AreRows}
use Rattle.denial_proof.specs.Tellers.{IsTeller}
use Rattle.denial_proof.proofs.FirstTargets.{ok_least, group_by_teller, teller_of_group}
use Rattle.denial_proof.proofs.targets.teller_of_group.Goals as goal

pub over-several-requires-clause-rows : goal.over-several-requires-clause-rows
over-several-requires-clause-rows c =
    let people = c.args.protected.now.people in
    subst (AreRows c.args.n) (sym (c.several.ensures.rows ∙ ap several_in c.rows.ensures)) (crowded_rows 2 c.args.n people.counts c.requires.people.within)

pub returns-then-entry-column : goal.returns-then-entry-column
returns-then-entry-column c = λ q tells.
    c.if-entry-column.true
    (teller_of_group c.args.n c.args.protected.now c.args.column c.requires.people c.requires.inside c.args.basis.now c.requires.n c.args.place c.args.entry.now
    c.requires.there q tells).0

pub returns : goal.returns
returns c =
    let protected = c.args.protected.now in
    let form = c.args.basis.now in
    let entry = c.args.entry.now in
    let list = ap (λ (s : Rows). s.list) c.over-several.ensures ∙ c.several.ensures.rows ∙ ap several_in c.rows.ensures in
    ok_least
    (λ q teller. group_by_teller c.args.n protected c.args.column c.requires.people c.requires.inside form c.requires.n c.args.place entry c.requires.there
    c.if-entry-column.false q (subst (λ (l : List ℕ). IsTeller form l entry.rows.list q) list teller))
    (λ q tells. subst (λ (l : List ℕ). IsTeller form l entry.rows.list q) (sym list)
    (teller_of_group c.args.n protected c.args.column c.requires.people c.requires.inside form c.requires.n c.args.place entry c.requires.there q tells).1)
    c.first_teller.result c.first_teller.ensures
