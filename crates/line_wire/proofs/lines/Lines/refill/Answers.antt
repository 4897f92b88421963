use Rattle.std.proofs.Common.{ℕ, List, ◌++◌, arith, ap, ◌∙◌}
use Rattle.std.proofs.lemmas.Bool.{eqb-true}
use Rattle.std.proofs.lemmas.List.{take_all}
use Rattle.line_wire.specs.Cutter.{Cutter}
use Rattle.line_wire.proofs.FromTurnToTurn.{some_read}
use Rattle.line_wire.proofs.lines.Lines.refill.Goals as goal

pub returns-in-Err : goal.returns-in-Err
returns-in-Err g c =
    let cleared = c.clear.ensures in
    let failed = c.in-Err.ensures in
    record {
      bytes = λ told. tt;
      ended = λ told. tt;
      failed = failed.bytes;
      kept = (
        cleared.same.0 ∙ ap (λ (v : Cutter). v.taken) c.self.view_is,
        cleared.same.1 ∙ ap (λ (v : Cutter). v.ended) c.self.view_is,
        cleared.same.2 ∙ failed.none,
        cleared.text,
      );
      cause = record { later = failed.cause.later; failed = failed.cause.failed; steady = tt };
      last_call = failed.last_call;
      within = cleared.within;
      taken = tt;
      grows = tt;
      text = tt;
    }

pub returns : goal.returns
returns g c =
    let pending = c.fill.new.self.pending in
    let filled = c.in-Ok.ensures in
    let taken = ap (λ (v : Cutter). v.taken) c.self.view_is in
    record {
      bytes = λ told.
          let all = take_all c.in-Ok.count pending (omega (arith, filled.count.0)) in
          (filled.bytes told).0 ∙ ap (λ (l : List ℕ). l ++ g.P.Source.left c.fill.new.source) all;
      ended = λ told none. (filled.bytes told).1.0 (eqb-true c.in-Ok.count 0 none);
      failed = λ told. tt;
      kept = tt;
      cause = record { later = filled.cause.later; failed = tt; steady = filled.cause.steady };
      last_call = tt;
      within = record {
        pending = omega (arith, filled.count.0);
        given = omega (arith, filled.count.0, taken, c.requires.within);
        small = omega (arith, filled.count.0, filled.count.1);
      };
      taken = omega (arith, filled.count.0, taken);
      grows = λ some. omega (arith, some_read c.in-Ok.count some, taken);
      text = filled.line ∙ ap (λ (v : Cutter). v.text) c.self.view_is;
    }
