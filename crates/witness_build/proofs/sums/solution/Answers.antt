use Rattle.std.proofs.Common.{◌*ℤ◌, sym, ap, ◌∙◌, rules, arith}
use Rattle.std.specs.Prelude.{neg_ℤ}
use Rattle.std.proofs.Math.IntN.{zero-*ℤ}
use Rattle.int_rows.specs.PrimitiveLaws.{zero_from_bits}
use Rattle.witness_build.proofs.Solving.{quotient, product_fits, turned_fits, solution_is}
use Rattle.witness_build.proofs.sums.solution.Goals as goal

pub overflow_mul-result : goal.overflow_mul-result
overflow_mul-result c =
    let q = quotient c.args.common c.args.pivot_entry c.unsigned_abs.result c.unsigned_abs-2.result c.requires.common.0 c.requires.positive c.requires.common.1
    c.requires.divides (search rules) (search rules) in
    product_fits c.args.entry _ c.ranges.entry c.requires.entry q.small

pub overflow_sub-result : goal.overflow_sub-result
overflow_sub-result c =
    let q = quotient c.args.common c.args.pivot_entry c.unsigned_abs.result c.unsigned_abs-2.result c.requires.common.0 c.requires.positive c.requires.common.1
    c.requires.divides (search rules) (search rules) in
    turned_fits c.args.entry _ c.ranges.entry c.requires.entry q.small

pub returns-clause-exact : goal.returns-clause-exact
returns-clause-exact c =
    let q = quotient c.args.common c.args.pivot_entry c.unsigned_abs.result c.unsigned_abs-2.result c.requires.common.0 c.requires.positive c.requires.common.1
    c.requires.divides (search rules) (search rules) in
    (solution_is c.args.entry _ c.ranges.entry c.requires.entry q.small c.args.pivot_entry c.args.common q).exact

pub returns-clause-small : goal.returns-clause-small
returns-clause-small c =
    let q = quotient c.args.common c.args.pivot_entry c.unsigned_abs.result c.unsigned_abs-2.result c.requires.common.0 c.requires.positive c.requires.common.1
    c.requires.divides (search rules) (search rules) in
    (solution_is c.args.entry _ c.ranges.entry c.requires.entry q.small c.args.pivot_entry c.args.common q).small

pub returns-then-entry-eq0 : goal.returns-then-entry-eq0
returns-then-entry-eq0 c =
    let none = zero_from_bits c.args.entry c.ranges.entry c.if-entry-eq0.true in
    record {
      exact = zero-*ℤ c.args.pivot_entry ∙ sym (ap (λ z. neg_ℤ (z *ℤ c.args.common)) none ∙ ap neg_ℤ (zero-*ℤ c.args.common));
      small = omega arith;
    }
