use Rattle.std.proofs.Common.{sym, ap, ◌∙◌, arith, rules}
use Rattle.std.specs.Prelude.{FitsSigned}
use Rattle.std.specs.Int.{w128}
use Rattle.std.proofs.lemmas.Bool.{false≢true}
use Rattle.std.proofs.lemmas.Int.{to_z-of_z}
use Rattle.sum_basis.specs.Reach.{one_if}
use Rattle.sum_basis.proofs.Moving.{one_of_none, one_of_some, moved_in}
use Rattle.sum_basis.proofs.counting.moved.Goals as goal

pub returns-then-is_zero : goal.returns-then-is_zero
returns-then-is_zero c =
    let told = rw (to_z-of_z w128 c.args.before c.ranges.before) at c.is_zero.ensures in
    let none = told.0 c.if-is_zero.true in
    let was = one_of_none c.args.before none in
    let is = moved_in c.args.by c.args.before c.args.times c.args.value none c.requires.some.0 c.requires.some.1 in
    omega arith

pub returns-then-is_zero-2 : goal.returns-then-is_zero-2
returns-then-is_zero-2 c =
    let told = rw (to_z-of_z w128 c.args.before c.ranges.before) at c.is_zero.ensures in
    let was = one_of_some c.args.before (λ none. false≢true (sym c.if-is_zero.false ∙ told.1 none)) in
    let fits : FitsSigned w128 c.difference.result = search rules in
    let exact =
    rw (
      to_z-of_z w128 c.args.by c.ranges.by,
      to_z-of_z w128 c.args.before c.ranges.before,
      to_z-of_z w128 c.args.times c.ranges.times,
      to_z-of_z w128 c.args.value c.ranges.value,
    )
    at c.difference.ensures.exact in
    let left = rw (to_z-of_z w128 c.difference.result fits) at c.is_zero-else-is_zero.ensures in
    let is = ap one_if exact in
    let none = one_of_none c.difference.result (left.0 c.if-is_zero-2.true) in
    let enough = c.requires.counted in
    omega arith

pub returns-else-is_zero-2 : goal.returns-else-is_zero-2
returns-else-is_zero-2 c =
    let told = rw (to_z-of_z w128 c.args.before c.ranges.before) at c.is_zero.ensures in
    let was = one_of_some c.args.before (λ none. false≢true (sym c.if-is_zero.false ∙ told.1 none)) in
    let fits : FitsSigned w128 c.difference.result = search rules in
    let exact =
    rw (
      to_z-of_z w128 c.args.by c.ranges.by,
      to_z-of_z w128 c.args.before c.ranges.before,
      to_z-of_z w128 c.args.times c.ranges.times,
      to_z-of_z w128 c.args.value c.ranges.value,
    )
    at c.difference.ensures.exact in
    let left = rw (to_z-of_z w128 c.difference.result fits) at c.is_zero-else-is_zero.ensures in
    let is = ap one_if exact in
    let some = one_of_some c.difference.result (λ none. false≢true (sym c.if-is_zero-2.false ∙ left.1 none)) in
    omega arith
