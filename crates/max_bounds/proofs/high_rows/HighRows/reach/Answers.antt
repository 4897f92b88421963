use Rattle.std.proofs.Common.{ap, ◌∙◌}
use Rattle.std.specs.Int.{w64}
use Rattle.std.proofs.lemmas.Int.{to_z-of_z}
use Rattle.max_bounds.specs.Reaching.{bound_at}
use Rattle.max_bounds.specs.Kept.{rows_at_least, rows_above}
use Rattle.max_bounds.proofs.HighRows.{same_at_least, same_above}
use Rattle.max_bounds.proofs.high_rows.HighRows.reach.Goals as goal

pub returns-clause-extremes : goal.returns-clause-extremes
returns-clause-extremes c =
    c.reach.ensures.extremes ∙ ap (λ a. rows_at_least (bound_at c.args.upper.now) a c.and_with.new.self.list) (to_z-of_z w64 c.args.answer c.ranges.answer)
    ∙ ap (rows_at_least (bound_at c.args.upper.now) c.args.answer) c.and_with.ensures.both
    ∙ same_at_least c.args.rows.now.n
    (bound_at c.args.upper.now) c.args.self.now c.requires.high c.args.rows.now.list c.n.ensures.are_rows c.args.answer c.requires.reaches

pub returns-clause-falling : goal.returns-clause-falling
returns-clause-falling c =
    c.reach.ensures.falling ∙ ap (λ a. rows_above (bound_at c.args.upper.now) a c.and_with.new.self.list) (to_z-of_z w64 c.args.answer c.ranges.answer)
    ∙ ap (rows_above (bound_at c.args.upper.now) c.args.answer) c.and_with.ensures.both
    ∙ same_above c.args.rows.now.n
    (bound_at c.args.upper.now) c.args.self.now c.requires.high c.args.rows.now.list c.n.ensures.are_rows c.args.answer c.requires.reaches
