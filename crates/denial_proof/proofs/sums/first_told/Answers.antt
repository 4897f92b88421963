use Rattle.std.proofs.Common.{◌≡◌, ◌++◌, ◌∷◌, [], ℕ, List, None, map, sym, ◌∙◌, subst}
use Rattle.std.specs.List.{AllByRecursion}
use Rattle.audit_types.specs.declared.records.Protected.{Protected}
use Rattle.audit_types.specs.Column.{Answer}
use Rattle.audit_types.specs.Form.{set_row, HasNarrowForm}
use Rattle.denial_proof.specs.declared.proof_parts.Target.TheVariants.{Row}
use Rattle.denial_proof.specs.Canonical.{IsFirstTarget, Tells}
use Rattle.denial_proof.proofs.SumParts.{first_found, told_by_form}
use Rattle.denial_proof.proofs.Tests.{none_weaker, ok_weaker, some_weaker}
use Rattle.denial_proof.proofs.sums.first_told.Goals as goal

pub told_row-requires-clause-narrow : goal.told_row-requires-clause-narrow
told_row-requires-clause-narrow c =
    subst (λ (answers : List Answer). HasNarrowForm c.args.sums.now.width c.args.sums.now.n
    (map (λ a. a.rows) answers ++ c.args.facts.now.asked.now.rows.list ∷ [])) (sym c.requires.answers) c.requires.denied.narrow

pub basis_with-requires-clause-narrow : goal.basis_with-requires-clause-narrow
basis_with-requires-clause-narrow c =
    subst (λ (answers : List Answer). HasNarrowForm c.args.sums.now.width c.args.sums.now.n
    (map (λ a. a.rows) answers ++ c.args.facts.now.asked.now.rows.list ∷ [])) (sym c.requires.answers) c.requires.denied.narrow

pub first_target-requires-clause-same_n : goal.first_target-requires-clause-same_n
first_target-requires-clause-same_n c = subst (λ (k : ℕ). AllByRecursion (λ (p : Protected). p.rows.n ≡ k) c.args.facts.now.protected.now.groups)
    (c.requires.same_n ∙ sym c.in_ok-basis.ensures.n) c.args.facts.now.entries

pub returns-in-Some-clause-some : goal.returns-in-Some-clause-some
returns-in-Some-clause-some c =
    let n = c.args.sums.now.n in
    let asked = c.args.facts.now.asked.now in
    subst (λ (answers : List Answer). IsFirstTarget n c.args.facts.now.protected.now asked.column
    (map (set_row n) (map (λ a. a.rows) answers ++ asked.rows.list ∷ [])) (Row c.in-Some.row) None) c.requires.answers
    ((rw c.in-Some.is at c.in_ok-row.ensures) asked.column)

pub returns-clause-some : goal.returns-clause-some
returns-clause-some c =
    let n = c.args.sums.now.n in
    let protected = c.args.facts.now.protected.now in
    let asked = c.args.facts.now.asked.now in
    ok_weaker (λ found is. some_weaker (λ told first. first_found n c.args.facts.now.history.now protected asked c.args.sums.now.answers c.requires.answers
    c.in_ok-basis.basis.rows c.in_ok-basis.ensures.form told.target told.own
    (subst (λ (k : ℕ). IsFirstTarget k protected asked.column c.in_ok-basis.basis.rows told.target told.own) c.requires.same_n first)) found is)
    c.first_target.result c.first_target.ensures.some

pub returns-clause-none : goal.returns-clause-none
returns-clause-none c =
    let n = c.args.sums.now.n in
    let protected = c.args.facts.now.protected.now in
    let asked = c.args.facts.now.asked.now in
    let denied = c.requires.denied in
    let told = told_by_form n c.args.facts.now.history.now protected asked c.args.sums.now.answers c.requires.answers
    c.in_ok-basis.basis.rows c.in_ok-basis.ensures.form denied.target denied.own denied.told in
    ok_weaker (λ found is. none_weaker (λ none. none denied.target denied.own
    (subst (λ (k : ℕ). Tells k protected asked.column c.in_ok-basis.basis.rows denied.own denied.target) (sym c.requires.same_n) told)) found is)
    c.first_target.result c.first_target.ensures.none
