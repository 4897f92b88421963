use Rattle.std.proofs.Common.{◌≡◌, ℕ, List, Some, true, sym, ap, ◌∙◌}
use Rattle.std.specs.Prelude.{option_map}
use Rattle.audit_types.specs.Headcount.{people_behind}
use Rattle.audit_types.specs.Rows.{complement, rows_that}
use Rattle.schema_json.specs.Columns.{people_place}
use Rattle.table_load.specs.Cells.{PublicView, counts_of}
use Rattle.auditor_top.proofs.ready.people_of.Goals as goal

pub returns-in_err-_place : goal.returns-in_err-_place
returns-in_err-_place c =
    let counts = counts_of c.args.index.now.columns c.args.index.now.public in
    let none = c.in_err-_place.ensures.place ∙ ap people_place c.schema.ensures.same in
    c.from_residual.ensures ∙ ap (option_map (λ place. people_behind counts (rows_that (λ r. true) c.args.index.now.public.rows))) none

pub returns : goal.returns
returns c =
    let columns = c.args.index.now.columns in
    let public = c.args.index.now.public in
    let there : people_place columns ≡ Some c.in_ok-_place._place =
    ap people_place (sym c.schema.ensures.same) ∙ sym c.people.ensures.place ∙ c.in_ok-_place.was in
    let rows : c.new-everyone.result.n ≡ public.rows =
    c.new-everyone.ensures.n ∙ c.rows.ensures.rows ∙ ap (λ (p : PublicView). p.rows) c.public.ensures in
    let all : c.flip.new.self.list ≡ rows_that (λ r. true) public.rows =
    c.flip.ensures.others ∙ ap (λ (l : List ℕ). complement c.new-everyone.result.n l) c.new-everyone.ensures.empty
    ∙ ap (λ (n : ℕ). rows_that (λ r. true) n) rows in
    ap (λ (n : ℕ). Some n) (c.people-2.ensures.exact ∙ ap (λ (l : List ℕ). people_behind (counts_of columns public) l) all)
    ∙ ap (option_map (λ place. people_behind (counts_of columns public) (rows_that (λ r. true) public.rows))) (sym there)
