use Rattle.std.proofs.Common.{◌≡◌, List, ℕ, subst, ◌∙◌, arith}
use Rattle.std.proofs.lemmas.Result.{IfOk-from_err, on_ok_weaker}
use Rattle.bench_core.specs.Causes.{HasCause}
use Rattle.bench_core.specs.Calls.{LeavesOnly}
use Rattle.bench_core.specs.Moments.{weakens, joins}
use Rattle.answer_journal.specs.Moments.{IsShort, IsUnmadeOrOpened}
use Rattle.answer_journal.specs.FileCalls.{has_cause, on_err_always}
use Rattle.answer_journal.proofs.Openings.{short_unmade, shut_full, shut_closed, over_shut}
use Rattle.answer_journal.proofs.opening.open_over_short.Goals as goal

-- ---- the gate was not closed

pub returns-in_err-shut : goal.returns-in_err-shut
returns-in_err-shut g c = record {
  any_moment = λ told quiet.
      let bench = c.args.bench.now in
      let before = g.B.Bench.sent bench in
      let behind = c.args.behind.now in
      weakens g.B.Bench bench c.shut.new.bench (λ image sent. (sent ≡ before) × IsShort image) (IsUnmadeOrOpened behind before) (short_unmade behind before)
      (c.shut.ensures.any_moment told quiet);
  done = λ told. IfOk-from_err _ _ c.from_residual.ensures.0;
  ticks = λ told. IfOk-from_err _ _ c.from_residual.ensures.0;
  quiet = λ told. IfOk-from_err _ _ c.from_residual.ensures.0;
  sent = c.shut.ensures.sent;
  cause = has_cause _ _ c.from_residual.result c.from_residual.ensures.0 c.shut.ensures.cause.later c.in_err-shut.ensures.cause.failed;
  last_call = on_err_always c.from_residual.result c.in_err-shut.ensures.last_call;
}

-- ---- it was, and opened, or that failed

pub open_over_closed-requires-clause-full : goal.open_over_closed-requires-clause-full
open_over_closed-requires-clause-full g c told = shut_full (g.B.Bench.file c.args.bench.now) _ (c.in_ok-shut.ensures.done told)

pub open_over_closed-requires-clause-closed : goal.open_over_closed-requires-clause-closed
open_over_closed-requires-clause-closed g c told = shut_closed (g.B.Bench.file c.args.bench.now) _ (c.in_ok-shut.ensures.done told)

pub returns : goal.returns
returns g c = record {
  any_moment = λ told quiet.
      let bench = c.args.bench.now in
      let before = g.B.Bench.sent bench in
      let behind = c.args.behind.now in
      let closed =
      weakens g.B.Bench bench c.shut.new.bench (λ image sent. (sent ≡ before) × IsShort image) (IsUnmadeOrOpened behind before) (short_unmade behind before)
      (c.shut.ensures.any_moment told quiet) in
      let opening = c.open_over_closed.ensures.any_moment told (c.in_ok-shut.ensures.quiet told) in
      joins g.B.Bench bench c.shut.new.bench c.open_over_closed.new.bench (IsUnmadeOrOpened behind before) closed
      (subst (λ (sent : List ℕ). LeavesOnly g.B.Bench c.shut.new.bench c.open_over_closed.new.bench (IsUnmadeOrOpened behind sent)) c.shut.ensures.sent
      opening);
  done = λ told.
      on_ok_weaker c.open_over_closed.result
      (over_shut c.args.behind.now (g.B.Bench.file c.args.bench.now) (g.B.Bench.file c.shut.new.bench) (g.B.Bench.file c.open_over_closed.new.bench)
      (c.in_ok-shut.ensures.done told))
      (c.open_over_closed.ensures.done told);
  ticks = λ told. on_ok_weaker c.open_over_closed.result (λ is. omega (arith, is, c.in_ok-shut.ensures.ticks told)) (c.open_over_closed.ensures.ticks told);
  quiet = c.open_over_closed.ensures.quiet;
  sent = c.open_over_closed.ensures.sent ∙ c.shut.ensures.sent;
  cause = subst (λ (n : ℕ). HasCause n (g.B.Bench.faults c.open_over_closed.new.bench) c.open_over_closed.result) c.in_ok-shut.ensures.cause.steady
      c.open_over_closed.ensures.cause;
  last_call = c.open_over_closed.ensures.last_call;
}
