use Rattle.std.proofs.lemmas.Bool.{leb-true, le-leb}
use Rattle.std.proofs.Common.{◌/◌}
use Rattle.audit_types.specs.Limits.{most_rows}
use Rattle.journal_form.proofs.Growths.{high_of, high_is}
use Rattle.journal_form.proofs.group.is_high.Goals as goal

pub returns-then-rows-high : goal.returns-then-rows-high
returns-then-rows-high c = (
  λ low. high_of c.args.rows c.args.high c.requires c.if-rows-high.true (leb-true c.args.high (most_rows / 256) low),
  λ found. le-leb c.args.high (most_rows / 256) (high_is c.args.rows c.args.high found.0 found.1 found.2).1,
)
