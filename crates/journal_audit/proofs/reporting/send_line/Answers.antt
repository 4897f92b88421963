use Rattle.std.proofs.Common.{refl}
use Rattle.bench_core.specs.Reports.{of_refusal}
use Rattle.bench_core.specs.declared.stops.Stop.TheVariants as stop
use Rattle.journal_audit.specs.Reports.{SendsLine}
use Rattle.journal_audit.proofs.reporting.send_line.Goals as goal

pub returns : goal.returns
returns g c =
    let e = c.in_ok-send.ensures in
    record {
      sends = e.all;
      part = λ told. tt;
      time = e.time;
      ticks = e.ticks;
      file = e.file;
      crash = e.crash;
      later = e.cause.later;
      failed = λ is. cc;
      last_call = λ is. cc;
      steady = λ other. e.cause.steady;
      ends = tt;
    }

pub returns-in_err-send : goal.returns-in_err-send
returns-in_err-send g c =
    let e = c.in_err-send.ensures in
    of_refusal c.from_residual.result stop.Bench c.from_residual.ensures
    (λ r. SendsLine g.B.Bench c.args.line.now c.args.bench.now c.send.new.self r)
    record {
      sends = λ told. tt;
      part = e.part;
      time = e.time;
      ticks = λ told. tt;
      file = e.file;
      crash = e.crash;
      later = e.cause.later;
      failed = λ is. e.cause.failed;
      last_call = λ is. e.last_call;
      steady = λ other. absurd (other refl);
      ends = tt;
    }
