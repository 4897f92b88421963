use Rattle.std.proofs.Common.{ℕ, List, map, sym, ◌∙◌, subst}
use Rattle.std.specs.Prelude.{◌↔◌, IsTrue}
use Rattle.std.proofs.lemmas.Bool.{true≢false}
use Rattle.audit_types.specs.Rows.{Rows}
use Rattle.audit_types.specs.Headcount.{shared_in, several_in}
use Rattle.audit_types.specs.Form.{set_row, IsNarrow}
use Rattle.sum_basis.specs.Basis.{Echelon}
use Rattle.sum_basis.specs.Elimination.{IsSmallForm}
use Rattle.sum_basis.specs.Asking.{TellsAsker}
use Rattle.sum_basis.specs.Growth.{ForeseesApart, Grows, GrowsTo}
use Rattle.sum_basis.proofs.Askers.{told_fixing, told_open, told_silent, told_surely, grows_as_told}
use Rattle.sum_basis.proofs.basis.Basis.told_inside.Goals as goal

pub returns-then-branch : goal.returns-then-branch
returns-then-branch c =
    let old = c.args.self.now in
    let row = set_row old.n c.args.rows.now.list in
    let people = c.args.people.now.people in
    let sets = map (λ (s : Rows). s.list) c.args.apart.now in
    let new = c.extend.new.self in
    let f = subst (λ (e : Echelon). IsSmallForm e.n e.rows) c.form.ensures c.columns.ensures.form in
    let narrow = subst (λ (e : Echelon). IsNarrow e.width e.rows) c.form.ensures c.columns.ensures.narrow in
    let not_yet = subst (ForeseesApart old row (shared_in people) sets) c.in-Open.is c.requires.told in
    let grows = subst (λ (e : Echelon). Grows e (set_row e.n c.args.rows.now.list) c.in_ok-extend.field-0 new) c.in_ok-grown.ensures
    c.in_ok-extend.ensures.grows in
    let tells = subst (λ (l : List ℕ). IsTrue c.in_ok-tells_asker.field-0 ↔ TellsAsker new l (several_in people) sets) c.beside-beside.ensures.rows
    (subst (λ (l : List ℕ). IsTrue c.in_ok-tells_asker.field-0 ↔ TellsAsker new c.beside-beside.result.now.list l sets) c.several-several.ensures.rows
    c.in_ok-tells_asker.ensures) in
    told_fixing old row people sets c.requires.inside new not_yet
    (λ first told. grows_as_told old row f narrow first new c.in_ok-extend.field-0 told grows) (tells.0 c.if-branch.true)

pub returns : goal.returns
returns c =
    let old = c.args.self.now in
    let row = set_row old.n c.args.rows.now.list in
    let people = c.args.people.now.people in
    let sets = map (λ (s : Rows). s.list) c.args.apart.now in
    let new = c.extend.new.self in
    let f = subst (λ (e : Echelon). IsSmallForm e.n e.rows) c.form.ensures c.columns.ensures.form in
    let narrow = subst (λ (e : Echelon). IsNarrow e.width e.rows) c.form.ensures c.columns.ensures.narrow in
    let not_yet = subst (ForeseesApart old row (shared_in people) sets) c.in-Open.is c.requires.told in
    let grows = subst (λ (e : Echelon). Grows e (set_row e.n c.args.rows.now.list) c.in_ok-extend.field-0 new) c.in_ok-grown.ensures
    c.in_ok-extend.ensures.grows in
    let tells = subst (λ (l : List ℕ). IsTrue c.in_ok-tells_asker.field-0 ↔ TellsAsker new l (several_in people) sets) c.beside-beside.ensures.rows
    (subst (λ (l : List ℕ). IsTrue c.in_ok-tells_asker.field-0 ↔ TellsAsker new c.beside-beside.result.now.list l sets) c.several-several.ensures.rows
    c.in_ok-tells_asker.ensures) in
    told_open old row people sets c.requires.inside new not_yet
    (λ first told. grows_as_told old row f narrow first new c.in_ok-extend.field-0 told grows)
    (λ asker. true≢false (sym (tells.1 asker) ∙ c.if-branch.false))

pub returns-in-Nothing : goal.returns-in-Nothing
returns-in-Nothing c =
    let old = c.args.self.now in
    let row = set_row old.n c.args.rows.now.list in
    let people = c.args.people.now.people in
    let sets = map (λ (s : Rows). s.list) c.args.apart.now in
    told_silent old row people sets c.requires.inside (subst (ForeseesApart old row (shared_in people) sets) c.in-Open.is c.requires.told)
    (subst (λ (l : List ℕ). (new : Echelon) → GrowsTo old row new → ¬ (TellsAsker new l (several_in people) sets)) c.beside-beside.ensures.rows
    (subst (λ (l : List ℕ). (new : Echelon) → GrowsTo old row new → ¬ (TellsAsker new c.beside-beside.result.now.list l sets)) c.several-several.ensures.rows
    (rw c.in-Nothing.is at c.in_ok-surely_told.ensures)))

pub returns-in-Something : goal.returns-in-Something
returns-in-Something c =
    let old = c.args.self.now in
    let row = set_row old.n c.args.rows.now.list in
    let people = c.args.people.now.people in
    let sets = map (λ (s : Rows). s.list) c.args.apart.now in
    told_surely old row people sets c.requires.inside (subst (ForeseesApart old row (shared_in people) sets) c.in-Open.is c.requires.told)
    (subst (λ (l : List ℕ). (new : Echelon) → GrowsTo old row new → TellsAsker new l (several_in people) sets) c.beside-beside.ensures.rows
    (subst (λ (l : List ℕ). (new : Echelon) → GrowsTo old row new → TellsAsker new c.beside-beside.result.now.list l sets) c.several-several.ensures.rows
    (rw c.in-Something.is at c.in_ok-surely_told.ensures)))
