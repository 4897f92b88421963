use Rattle.std.proofs.Common.{rules}
use Rattle.audit_types.proofs.words.mask_below.Goals as goal

pub returns-then-below-lt64 : goal.returns-then-below-lt64
returns-then-below-lt64 c = search rules
