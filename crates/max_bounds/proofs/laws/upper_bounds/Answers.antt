use Rattle.max_bounds.specs.BoundLaws.{bound_below, bound_reached}
use Rattle.max_bounds.proofs.laws.upper_bounds.Goals as goal

pub returns : goal.returns
returns c = λ answers r. ((λ a one there. bound_below answers a r one there), (λ b is. bound_reached answers r b is))
