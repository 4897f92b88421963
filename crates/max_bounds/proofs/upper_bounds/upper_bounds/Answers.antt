use Rattle.std.proofs.Common.{arith, rules, ap, ◌∙◌, SFits}
use Rattle.std.specs.Int.{w64}
use Rattle.std.proofs.lemmas.List.{map_more}
use Rattle.audit_types.specs.Limits.{most_rows}
use Rattle.max_bounds.specs.Maxima.{answer_of}
use Rattle.max_bounds.specs.Reaching.{bound_at, bound_with}
use Rattle.max_bounds.proofs.Lowering.{AreBounds-none, AreBounds-push}
use Rattle.max_bounds.proofs.upper_bounds.upper_bounds.Goals as goal
use Rattle.max_bounds.specs.AnswerLaws.{widened, read_is}

pub loop-k-init : goal.loop-k-init
loop-k-init c = AreBounds-none most_rows

pub loop-k-preserved : goal.loop-k-preserved
loop-k-preserved c =
    let more = map_more answer_of c.args.pairs.now.items c.loop-k.k c.get-pair.result (omega arith) in
    let fits : SFits w64 c.get-pair.result.answer = search rules in
    let is = read_is c.args.pairs.now.items c.loop-k.k c.get-pair.result (omega arith) c.get-pair.ensures in
    rw (more, ← is) (AreBounds-push _ (answer_of c.get-pair.result) c.loop-k.bounds c.lower.new.bounds c.loop-k.invariant (λ r.
    c.lower.ensures.lowered r ∙ ap (λ a. bound_with c.get-pair.result.rows.list a r (bound_at c.loop-k.bounds r)) (widened c.get-pair.result.answer fits)))
