use Rattle.std.proofs.Common.{◌≤◌, ◌^◌, pos, map, take}
use Rattle.std.specs.Prelude.{◌<ℤ◌, unsigned_abs}
use Rattle.audit_types.specs.Form.{IsLeastCommonMultiple}
use Rattle.sum_basis.proofs.growth.common_multiple.Given as goal

abbrev pub invariant-loop-row : goal.invariant-loop-row
invariant-loop-row l = record {
  multiple : IsLeastCommonMultiple (map (λ r. unsigned_abs r.head) (take l.row-index l.rows)) (unsigned_abs l.common);
  positive : pos 0 <ℤ l.common;
  within : unsigned_abs l.common ≤ 2 ^ 56;
}
