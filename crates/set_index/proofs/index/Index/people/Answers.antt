use Rattle.std.proofs.Common.{◌≡◌, ℕ, List, [], sym, ap, subst, ◌∙◌}
use Rattle.audit_types.specs.Headcount.{people_behind}
use Rattle.schema_json.specs.Columns.{Column}
use Rattle.table_load.specs.Cells.{counts_of}
use Rattle.set_index.specs.Indexed.{public_counts}
use Rattle.set_index.proofs.PeopleCounts.{one_each}
use Rattle.set_index.proofs.index.Index.people.Goals as goal

pub returns-in-None-clause-exact : goal.returns-in-None-clause-exact
returns-in-None-clause-exact c =
    let none : [] ≡ public_counts c.args.self.now =
    subst (λ (columns : List Column). ◌≡◌ {A = List ℕ} [] (counts_of columns c.args.self.now.public)) c.schema.ensures.same
    (rw c.public.ensures at c.in-None.ensures.counts) in
    c.from.ensures ∙ c.len.ensures ∙ sym (one_each c.args.rows.now.list) ∙ ap (λ counts. people_behind counts c.args.rows.now.list) none
