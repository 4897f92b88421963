use Rattle.std.proofs.Common.{◌<◌, ◌≤◌, length, rules, arith}
use Rattle.std.specs.Prelude.{FitsSigned}
use Rattle.std.specs.Int.{w128}
use Rattle.std.proofs.lemmas.Int.{to_z-of_z}
use Rattle.witness_build.proofs.Solving.{solving_begins, common_small, common_positive, divides_of, solution_read, row_solved, all_solved}
use Rattle.witness_build.proofs.sums.solve.Goals as goal

pub loop-k-init : goal.loop-k-init
loop-k-init c =
    let fits : FitsSigned w128 c.common-common.result = search rules in
    let common = c.common-common.ensures in
    rw (to_z-of_z w128 c.common-common.result fits)
    (solving_begins c.args.basis.now.n c.common-common.result c.args.free c.args.direction.now c.requires.n c.requires.zeros c.requires.below
    (common_small c.common-common.result common.0 common.1 common.4))

pub solution-requires-clause-divides : goal.solution-requires-clause-divides
solution-requires-clause-divides c =
    let common = c.common-common.ensures in
    let fits_entry : FitsSigned w128 c.entry-in-loop-k.result = search rules in
    let fits_common : FitsSigned w128 c.common-common.result = search rules in
    divides_of c.args.basis.now.rows c.loop-k.k c.pivot-pivot.result common.0 c.entry-in-loop-k.result c.common-common.result fits_entry fits_common
    c.entry-in-loop-k.ensures c.pivot-pivot.ensures.pivot common.1 common.2.multiple
    (omega arith)

pub loop-k-preserved : goal.loop-k-preserved
loop-k-preserved c =
    let fits_first : FitsSigned w128 c.entry.result = search rules in
    let fits_lead : FitsSigned w128 c.entry-in-loop-k.result = search rules in
    let fits_solution : FitsSigned w128 c.solution.result = search rules in
    let inside : c.loop-k.k < length c.args.basis.now.rows = omega arith in
    row_solved c.args.basis.now.n _ c.args.basis.now.rows c.loop-k.k c.args.free c.pivot-pivot.result c.loop-k.direction _ c.requires.form inside
    c.requires.free c.pivot-pivot.ensures.pivot c.pivot-pivot.ensures.within c.loop-k.invariant
    (solution_read _ c.args.free c.pivot-pivot.result c.solution.result c.entry.result c.entry-in-loop-k.result _ fits_solution fits_first fits_lead
    c.solution.ensures.exact c.solution.ensures.small c.entry.ensures c.entry-in-loop-k.ensures c.pivot-pivot.ensures.pivot)

pub returns : goal.returns
returns c =
    let common = c.common-common.ensures in
    let fits : FitsSigned w128 c.common-common.result = search rules in
    let past : length c.args.basis.now.rows ≤ c.loop-k.k = omega arith in (
      _,
      common_positive c.common-common.result common.0 fits common.1 common.3,
      all_solved c.args.basis.now.n _ c.args.basis.now.rows c.loop-k.k c.args.free c.loop-k.direction past c.loop-k.invariant,
    )
