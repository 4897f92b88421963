use Rattle.std.proofs.Common.{◌≤◌, ◌^◌, take}
use Rattle.audit_types.specs.Form.{IsContent}
use Rattle.int_rows.proofs.divisors.size_of_content.Given as goal

abbrev pub invariant-loop-x : goal.invariant-loop-x
invariant-loop-x l = record { content : IsContent (take l.x-index l.row) l.divisor; small : l.divisor ≤ 2 ^ 126 }
