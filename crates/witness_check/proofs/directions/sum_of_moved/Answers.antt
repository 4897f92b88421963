use Rattle.std.proofs.Common.{ap, ◌∙◌, rules}
use Rattle.std.specs.Prelude.{FitsSigned}
use Rattle.std.specs.Int.{w128}
use Rattle.std.proofs.lemmas.Int.{to_z-of_z}
use Rattle.audit_types.specs.Truth.{sum_over}
use Rattle.witness_check.proofs.MovedRows.{sum_over_both}
use Rattle.witness_check.proofs.directions.sum_of_moved.Goals as goal

pub returns : goal.returns
returns c =
    let fits : FitsSigned w128 c.sum_over.result = search rules in
    to_z-of_z w128 c.sum_over.result fits
    ∙ c.sum_over.ensures
    ∙ ap (sum_over c.args.numbers.now) c.and_with.ensures.both
    ∙ sum_over_both c.args.numbers.now c.args.rows.now.n c.args.rows.now.list c.args.moved.now.list c.n.ensures.are_rows c.requires.moved
