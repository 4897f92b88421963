use Rattle.std.proofs.Common.{◌≡◌, drop}
use Rattle.audit_types.specs.Form.{pivot_entry}
use Rattle.int_rows.proofs.primitive.is_led_by_negative.Given as goal

abbrev pub invariant-loop-x : goal.invariant-loop-x
invariant-loop-x l = pivot_entry l.row ≡ pivot_entry (drop l.x-index l.row)
