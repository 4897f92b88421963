use Rattle.std.specs.Int.{w128}
use Rattle.std.proofs.lemmas.Int.{to_z-of_z}
use Rattle.audit_types.specs.Extremes.{upper_bound}
use Rattle.max_bounds.specs.Kept.{rows_at_least}
use Rattle.denial_proof.proofs.PeopleCounted.{none_found}
use Rattle.denial_proof.proofs.outlook.are_many.Goals as goal

pub returns-then-height-so_far : goal.returns-then-height-so_far
returns-then-height-so_far c =
    none_found c.args.bounds.now.n c.args.people.now.people
    (rows_at_least (upper_bound c.args.bounds.now.answers) c.args.height c.args.rows.now.list) c.few_reaching.result c.is_none.result c.is_none.ensures
    (rw (to_z-of_z w128 c.args.height c.ranges.height) at c.few_reaching.ensures)
