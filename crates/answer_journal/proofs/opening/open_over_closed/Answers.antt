use Rattle.bench_core.specs.Moments.{weakens}
use Rattle.answer_journal.specs.Append.{Appending}
use Rattle.answer_journal.specs.Moments.{IsUnmadeOrOpened}
use Rattle.answer_journal.proofs.Openings.{opening}
use Rattle.answer_journal.proofs.opening.open_over_closed.Goals as goal

pub returns : goal.returns
returns g c = record {
  any_moment = λ told quiet.
      let bench = c.args.bench.now in
      let file = g.B.Bench.file bench in
      let before = g.B.Bench.sent bench in
      let behind = c.args.behind.now in
      weakens g.B.Bench bench c.append_bytes.new.bench (Appending 0 behind file before) (IsUnmadeOrOpened behind before)
      (λ image sent. opening file behind before image sent (c.requires.closed told) c.requires.some) (c.append_bytes.ensures.any_moment told quiet);
  done = c.append_bytes.ensures.done;
  ticks = c.append_bytes.ensures.ticks;
  quiet = c.append_bytes.ensures.quiet;
  sent = c.append_bytes.ensures.sent;
  cause = c.append_bytes.ensures.cause;
  last_call = c.append_bytes.ensures.last_call;
}
