use Rattle.std.proofs.Common.{◌≡◌, ◌<◌, rules, refl, SFits, take, take_all, arith, ap, ◌∙◌, length}
use Rattle.std.specs.Prelude.{◌+ℤ◌, pos}
use Rattle.std.specs.Int.{w64}
use Rattle.std.proofs.lemmas.List.{map_more}
use Rattle.std.proofs.lemmas.List.Filters.{dedup_is}
use Rattle.max_bounds.specs.Maxima.{answer_of, answers_of, pair_at}
use Rattle.max_audit.proofs.CandidateLists.{pushed, one_above, near-pushed, AreCandidates-sorted, near-sorted}
use Rattle.max_audit.proofs.candidates.candidates_of.Goals as goal
use Rattle.max_bounds.specs.AnswerLaws.{widened, read_is}

pub loop-k-preserved : goal.loop-k-preserved
loop-k-preserved c =
    let pairs = c.args.pairs.now.items in
    let k = c.loop-k.k in
    let x = pair_at pairs k in
    let within : k < length pairs = omega arith in
    let more = map_more answer_of pairs k x within in
    let a = c.answer-answer.result in
    let fits : SFits w64 a = search rules in
    let itself = widened a fits in
    let above = one_above a fits in
    let gathered = c.loop-k.invariant.gathered in
    record {
      gathered = (
        gathered.0,
        gathered.1,
        rw (more, ← read_is pairs k x within refl)
            (pushed gathered.0 _ (answer_of x) _ _ _ _ _ gathered.2 c.in_ok-push-2.ensures c.in_ok-push-3.ensures (itself ∙ c.answer-answer.ensures)
            (above ∙ ap (λ v. v +ℤ pos 1) c.answer-answer.ensures)),
      );
      near = near-pushed a c.loop-k.candidates.items _ _ _ _ fits c.loop-k.invariant.near c.in_ok-push-2.ensures c.in_ok-push-3.ensures itself above;
    }

pub returns-clause-exact : goal.returns-clause-exact
returns-clause-exact c =
    let whole : take c.loop-k.k c.args.pairs.now.items ≡ c.args.pairs.now.items = take_all c.loop-k.k c.args.pairs.now.items (omega arith) in
    let gathered = c.loop-k.invariant.gathered in
    AreCandidates-sorted (answers_of c.args.pairs.now.items) gathered.0 c.loop-k.candidates.items c.sort_unstable.new.self.items
    c.dedup.new.self.items gathered.1
    (rw whole at gathered.2) c.sort_unstable.ensures.permutation c.sort_unstable.ensures.sorted (dedup_is _ _ _ c.dedup.ensures.filtered)

pub returns-clause-near : goal.returns-clause-near
returns-clause-near c =
    near-sorted c.loop-k.candidates.items c.sort_unstable.new.self.items c.dedup.new.self.items c.loop-k.invariant.near
    c.sort_unstable.ensures.permutation
    (dedup_is _ _ _ c.dedup.ensures.filtered)
