use Rattle.std.proofs.Common.{◌≡◌, ◌+◌, ◌*◌, ◌≤◌, ◌<◌, ◌^◌, ℕ, ℤ, pos, length, sym, ap, ◌∙◌, subst, SFits, rules, arith, to_z, of_z}
use Rattle.std.specs.Prelude.{unsigned_abs, ◌<ℤ◌}
use Rattle.std.specs.Int.{w128, ◌∣◌}
use Rattle.std.specs.List.{AllByRecursion}
use Rattle.std.proofs.lemmas.Int.{ints, to_z-of_z}
use Rattle.sum_basis.specs.Limits.{most_columns}
use Rattle.audit_types.specs.ListLaws.{all-weaker, all-unmap}
use Rattle.audit_types.specs.Truth.{number_at}
use Rattle.audit_types.specs.Form.{set_row, combined, pivot_entry}
use Rattle.denial_proof.specs.Numbers.{AreTaken, IsTakenSmall, IsDivided, AreMultipliers}
use Rattle.denial_proof.proofs.MultipliersRead.{length_taken, length_multipliers, multipliers_from, written_whole}
use Rattle.denial_proof.proofs.numbers.multipliers.Goals as goal

pub take_rows-requires-clause-divides : goal.take_rows-requires-clause-divides
take_rows-requires-clause-divides c =
    let common = c.common-common.ensures in
    let fits : SFits w128 c.common-common.result = search rules in
    let whole : unsigned_abs (to_z w128 (of_z w128 c.common-common.result)) ≡ common.0 =
    ap unsigned_abs (to_z-of_z w128 c.common-common.result fits ∙ common.1) in
    subst (λ (m : ℕ). AllByRecursion (λ row. unsigned_abs (pivot_entry row) ∣ m) c.args.form.now.rows) (sym whole)
    (all-unmap (λ row. unsigned_abs (pivot_entry row)) (λ x. x ∣ common.0) c.args.form.now.rows common.2.multiple)

pub read_marks-requires-clause-one_each : goal.read_marks-requires-clause-one_each
read_marks-requires-clause-one_each c =
    ap length c.deref.ensures.value
    ∙ length_taken (to_z w128 (of_z w128 c.common-common.result)) (number_at (set_row c.args.target.now.n c.args.target.now.list)) c.args.form.now.rows
    c.in_ok-taken.taken.items c.in_ok-taken.ensures.taken

pub divide-requires-clause-small : goal.divide-requires-clause-small
divide-requires-clause-small c =
    subst (AllByRecursion (λ (x : ℤ). unsigned_abs x ≤ 2 ^ 126)) (sym c.deref_mut.ensures.value)
    (all-weaker (λ (x : ℤ). unsigned_abs x ≤ 2 ^ 112 * most_columns) (λ (x : ℤ). unsigned_abs x ≤ 2 ^ 126)
    (λ x small. omega arith) c.in_ok-numbers.numbers.items c.in_ok-numbers.ensures.small)

pub returns : goal.returns
returns c =
    let form = c.args.form.now.rows in
    let n = c.args.target.now.n in
    let target = set_row n c.args.target.now.list in
    let fits : SFits w128 c.common-common.result = search rules in
    let common = to_z w128 (of_z w128 c.common-common.result) in
    let m = c.common-common.ensures.0 in
    let is : common ≡ pos m = to_z-of_z w128 c.common-common.result fits ∙ c.common-common.ensures.1 in
    let some : 0 < m = c.common-common.ensures.3 in
    let most : m ≤ 2 ^ 56 = c.common-common.ensures.4 in
    let positive : pos 0 <ℤ common = subst (λ z. pos 0 <ℤ z) (sym is) (omega (arith, ints)) in
    let small : unsigned_abs common ≤ 2 ^ 56 = subst (λ z. unsigned_abs z ≤ 2 ^ 56) (sym is) most in
    let taken = c.deref.result.now in
    let items = c.in_ok-numbers.numbers.items in
    let new = c.divide.new.numbers in
    let are : AreTaken common (number_at target) form taken = subst (AreTaken common (number_at target) form)
    (sym c.deref.ensures.value) c.in_ok-taken.ensures.taken in
    let few : AllByRecursion IsTakenSmall taken = subst (AllByRecursion IsTakenSmall) (sym c.deref.ensures.value) c.in_ok-taken.ensures.small in
    let read = c.in_ok-numbers.ensures in
    let divided : IsDivided items new = subst (λ old. IsDivided old new) c.deref_mut.ensures.value c.divide.ensures in
    let size : c.in_ok-numbers.numbers.len ≡ length new = omega arith in
    let are = subst (AreMultipliers form target n c.args.m) (sym (written_whole c.in_ok-numbers.numbers.len new items size))
    (multipliers_from form target n c.args.m common taken items new positive small are few
    (record {
      one_each = read.one_each;
      first = read.first;
      exact = λ k l. read.exact k l ∙ ap (λ x. combined taken form (x + k)) c.n.ensures.n;
      small = read.small;
    }) divided) in
    record { are = are; one_each = length_multipliers form target n c.args.m _ are }
