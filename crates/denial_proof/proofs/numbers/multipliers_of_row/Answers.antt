use Rattle.std.proofs.Common.{◌≡◌, ◌≤◌, ◌*◌, ◌^◌, ℤ, pos, length, ◌∷◌, [], sym, subst, arith}
use Rattle.std.specs.Prelude.{unsigned_abs, ◌<ℤ◌}
use Rattle.std.specs.List.{AllByRecursion}
use Rattle.sum_basis.specs.Limits.{most_columns}
use Rattle.audit_types.specs.ListLaws.{all-weaker}
use Rattle.audit_types.specs.Form.{set_row}
use Rattle.audit_types.specs.Truth.{number_at}
use Rattle.denial_proof.specs.Numbers.{IsDivided, AreMultipliers}
use Rattle.denial_proof.proofs.MultipliersRead.{written_whole}
use Rattle.denial_proof.proofs.OneRowRead.{one_row_multipliers}
use Rattle.denial_proof.proofs.numbers.multipliers_of_row.Goals as goal

pub divide-requires-clause-first : goal.divide-requires-clause-first
divide-requires-clause-first c =
    subst (λ list. pos 0 <ℤ number_at list 0) (sym c.deref_mut.ensures.value)
    (subst (λ z. pos 0 <ℤ z) (sym c.in_ok-list.ensures.first) c.requires.positive)

pub divide-requires-clause-small : goal.divide-requires-clause-small
divide-requires-clause-small c =
    subst (AllByRecursion (λ (x : ℤ). unsigned_abs x ≤ 2 ^ 126)) (sym c.deref_mut.ensures.value)
    (all-weaker (λ (x : ℤ). unsigned_abs x ≤ 2 ^ 112 * most_columns) (λ (x : ℤ). unsigned_abs x ≤ 2 ^ 126)
    (λ x small. omega arith) c.in_ok-list.list.items c.in_ok-list.ensures.small)

pub returns : goal.returns
returns c = λ form echelon at.
    let n = c.args.n in
    let row = c.args.pivot in
    let items = c.in_ok-list.list.items in
    let new = c.divide.new.numbers in
    let divided : IsDivided items new = subst (λ old. IsDivided old new) c.deref_mut.ensures.value c.divide.ensures in
    let size : c.in_ok-list.list.len ≡ length new = omega arith in
    subst (AreMultipliers form (set_row n (row ∷ [])) n c.args.m) (sym (written_whole c.in_ok-list.list.len new items size))
    (one_row_multipliers form n c.args.m row c.args.row.now items new echelon at c.requires.pivot c.requires.positive (c.requires.small row)
    c.in_ok-list.ensures divided)
