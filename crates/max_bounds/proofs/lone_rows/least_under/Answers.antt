use Rattle.std.proofs.Common.{List, subst, arith, rules, ap, ◌∙◌, SFits}
use Rattle.std.specs.Int.{w64}
use Rattle.std.proofs.lemmas.List.{map_more, take_all}
use Rattle.audit_types.specs.Rows.{IsLeast}
use Rattle.max_bounds.specs.Maxima.{answer_of, answers_of}
use Rattle.max_bounds.specs.Reaching.{bound_at, reaching, lone_of, IsAlone}
use Rattle.max_bounds.specs.declared.answered.AnsweredMax.{AnsweredMax}
use Rattle.max_bounds.proofs.LoneRows.{alone-push}
use Rattle.max_bounds.proofs.lone_rows.least_under.Goals as goal
use Rattle.max_bounds.specs.AnswerLaws.{widened, read_is}

pub loop-k-init : goal.loop-k-init
loop-k-init c = λ r (a, one, same). absurd one

pub loop-k-preserved : goal.loop-k-preserved
loop-k-preserved c =
    let more = map_more answer_of c.args.pairs.now.items c.loop-k.k c.get-pair.result (omega arith) in
    let fits : SFits w64 c.get-pair.result.answer = search rules in
    let same = widened c.get-pair.result.answer fits in
    rw (more, ← (read_is c.args.pairs.now.items c.loop-k.k c.get-pair.result (omega arith) c.get-pair.ensures))
    (alone-push (bound_at c.args.bounds.now) _ (answer_of c.get-pair.result) c.loop-k.least c.lesser-least.result c.lone_row-row.result c.loop-k.invariant
    (c.lone_row-row.ensures ∙ ap (λ a. lone_of (reaching (bound_at c.args.bounds.now) c.get-pair.result.rows.list a)) same)
    c.lesser-least.ensures)

pub returns : goal.returns
returns c =
    subst (λ (list : List AnsweredMax). IsLeast (IsAlone (bound_at c.args.bounds.now) (answers_of list)) c.loop-k.least)
    (take_all c.loop-k.k c.args.pairs.now.items (omega arith)) c.loop-k.invariant
