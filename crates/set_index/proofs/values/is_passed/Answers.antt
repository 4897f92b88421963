use Rattle.std.proofs.Common.{ap, sym, ◌∙◌}
use Rattle.set_index.specs.Ends.{is_passed}
use Rattle.set_index.proofs.values.is_passed.Goals as goal

pub returns-in-Before : goal.returns-in-Before
returns-in-Before c = c.is_lt.ensures ∙ ap (λ end. is_passed end c.args.order) (sym c.in-Before.is)
