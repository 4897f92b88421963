use Rattle.std.proofs.Common.{rules}
use Rattle.int_rows.proofs.primitive.signed_content.Goals as goal

pub returns-then-is_led_by_negative : goal.returns-then-is_led_by_negative
returns-then-is_led_by_negative c = search rules
