use Rattle.std.proofs.Common.{◌-◌, take, drop, refl, arith}
use Rattle.audit_store.specs.Refusals.{no_refusal}
use Rattle.audit_store.proofs.Appended.{none_appended, one_more_moments, one_more}
use Rattle.audit_store.proofs.bringing.bring_up.Goals as goal

pub loop-at-init : goal.loop-at-init
loop-at-init g c =
    none_appended g.B.Bench c.args.missing.now c.args.bench.now c.args.journal.now
    (λ image sent was. g.met.B.Bench.only_now c.args.bench.now image sent was) c.requires.usable

pub returns-in_err-keep-clause-any_moment : goal.returns-in_err-keep-clause-any_moment
returns-in_err-keep-clause-any_moment g c =
    one_more_moments g.B.Bench c.args.missing.now c.args.bench.now c.args.journal.now c.loop-at.at c.min-end.result c.loop-at.bench c.keep.new.bench
    c.loop-at.journal c.keep.new.journal c.loop-at.invariant (omega (arith, c.min-end.ensures, c.loop-at.invariant.within))
    (take (c.min-end.result - c.loop-at.at) (drop c.loop-at.at c.args.missing.now)) refl c.keep.ensures.any_moment

pub loop-at-preserved : goal.loop-at-preserved
loop-at-preserved g c =
    let kept = c.in_ok-keep.ensures in
    one_more g.B.Bench c.args.missing.now c.args.bench.now c.args.journal.now c.loop-at.at c.min-end.result c.loop-at.bench c.keep.new.bench
    c.loop-at.journal c.keep.new.journal c.loop-at.invariant (omega (arith, c.min-end.ensures, c.loop-at.invariant.within))
    (take (c.min-end.result - c.loop-at.at) (drop c.loop-at.at c.args.missing.now)) refl c.keep.ensures.any_moment
    c.min-end.ensures c.loop-at-test.true kept.appended c.keep.ensures.sent (kept.fault.steady (λ is. no_refusal _ _ is))
