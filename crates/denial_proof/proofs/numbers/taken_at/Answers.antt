use Rattle.std.proofs.Common.{◌^◌, ◌≤◌, ap, ◌∙◌, arith}
use Rattle.std.specs.Prelude.{unsigned_abs, ◌*ℤ◌}
use Rattle.std.specs.Int.{w128}
use Rattle.std.proofs.lemmas.Int.{to_z-of_z, fits_signed_from_abs}
use Rattle.audit_types.specs.Numbers.{product_small}
use Rattle.denial_proof.proofs.CombinedSoFar.{entry_small}
use Rattle.denial_proof.proofs.numbers.taken_at.Goals as goal

pub overflow_mul-result : goal.overflow_mul-result
overflow_mul-result c =
    let few = c.requires.small in
    let entry : unsigned_abs c.entry.result ≤ 2 ^ 56 = rw c.entry.ensures
    (entry_small c.args.form.now.rows c.args.k c.args.column c.columns.ensures.form.entries) in
    let small : unsigned_abs (c.args.times *ℤ c.entry.result) ≤ 2 ^ 112 = product_small c.args.times c.entry.result few entry in
    let times_is = to_z-of_z w128 c.args.times c.ranges.times in
    let entry_is = to_z-of_z w128 c.entry.result (fits_signed_from_abs w128 c.entry.result (omega arith)) in
    rw (times_is, entry_is) (fits_signed_from_abs w128 (c.args.times *ℤ c.entry.result) (omega arith))

pub returns-clause-exact : goal.returns-clause-exact
returns-clause-exact c =
    let few = c.requires.small in
    let entry : unsigned_abs c.entry.result ≤ 2 ^ 56 = rw c.entry.ensures
    (entry_small c.args.form.now.rows c.args.k c.args.column c.columns.ensures.form.entries) in
    let small : unsigned_abs (c.args.times *ℤ c.entry.result) ≤ 2 ^ 112 = product_small c.args.times c.entry.result few entry in
    let times_is = to_z-of_z w128 c.args.times c.ranges.times in
    let entry_is = to_z-of_z w128 c.entry.result (fits_signed_from_abs w128 c.entry.result (omega arith)) in
    let product_is = to_z-of_z w128 (c.args.times *ℤ c.entry.result) (fits_signed_from_abs w128 (c.args.times *ℤ c.entry.result) (omega arith)) in
    rw (times_is, entry_is) (product_is ∙ ap (λ x. c.args.times *ℤ x) c.entry.ensures)

pub returns-clause-small : goal.returns-clause-small
returns-clause-small c =
    let few = c.requires.small in
    let entry : unsigned_abs c.entry.result ≤ 2 ^ 56 = rw c.entry.ensures
    (entry_small c.args.form.now.rows c.args.k c.args.column c.columns.ensures.form.entries) in
    let small : unsigned_abs (c.args.times *ℤ c.entry.result) ≤ 2 ^ 112 = product_small c.args.times c.entry.result few entry in
    let times_is = to_z-of_z w128 c.args.times c.ranges.times in
    let entry_is = to_z-of_z w128 c.entry.result (fits_signed_from_abs w128 c.entry.result (omega arith)) in
    let product_is = to_z-of_z w128 (c.args.times *ℤ c.entry.result) (fits_signed_from_abs w128 (c.args.times *ℤ c.entry.result) (omega arith)) in
    rw (times_is, entry_is, product_is) small
