use Rattle.std.proofs.Common.{◌≤◌, ◌<◌, length, sym, subst}
use Rattle.std.specs.List.{AllByRecursion}
use Rattle.table_load.specs.SchemaFits.{somebody_everywhere}
use Rattle.set_index.proofs.PeopleCounts.{counts_few}
use Rattle.set_index.proofs.people.counted_rows.Goals as goal

pub new-requires-clause-within : goal.new-requires-clause-within
new-requires-clause-within c =
    subst (λ counts. length counts ≤ c.rows-rows.result) (sym c.in_ok-counts.ensures)
    (rw c.rows-rows.ensures.rows (counts_few c.args.schema.now.columns c.args.public.now c.rows-rows.ensures.is))

pub new-requires-clause-somebody : goal.new-requires-clause-somebody
new-requires-clause-somebody c =
    subst (λ counts. AllByRecursion (λ count. 0 < count) counts) (sym c.in_ok-counts.ensures)
    (somebody_everywhere c.args.schema.now.columns c.args.public.now c.requires c.rows-rows.ensures.is).0
