use Rattle.std.proofs.Common.{rules, ◌≡◌, List, Result, Err, sym, subst}
use Rattle.audit_types.specs.declared.records.Answered.{Answered}
use Rattle.audit_types.specs.History.{Setting, setting_of}
use Rattle.denial_proof.specs.Denied.{IsLegalIn}
use Rattle.bench_core.specs.declared.stops.Stop.{Stop}
use Rattle.bench_core.specs.declared.stops.Stop.TheVariants as stop
use Rattle.line_wire.specs.Talks.{Talks, unrefused}
use Rattle.line_wire.specs.TalkSoFar.{never_began}
use Rattle.certificate_lines.specs.Explained.{explanations}
use Rattle.certificate_lines.proofs.explaining.explain.Goals as goal

abbrev ended_by : Stop → Result (Unit {0}) Stop
ended_by why = Err why

pub returns-in_err-planner : goal.returns-in_err-planner
returns-in_err-planner g c =
    let same : c.from_residual.result ≡ ended_by stop.NoMemory = search rules in
    subst
    (λ (r : Result (Unit {0}) Stop). Talks g.P.Source g.B.Bench (explanations c.args.index.now c.args.store.now.history)
    c.args.source.now c.args.source.now c.args.bench.now c.args.bench.now (unrefused r))
    (sym same)
    (never_began g.P.Source g.B.Bench (explanations c.args.index.now c.args.store.now.history) c.args.source.now
    c.args.bench.now (λ image bytes was. g.met.B.Bench.only_now c.args.bench.now image bytes was) tt)

pub returns : goal.returns
returns g c =
    subst
    (λ (h : List Answered). Talks g.P.Source g.B.Bench (explanations c.args.index.now h) c.args.source.now
    c.explain_lines.new.source c.args.bench.now c.explain_lines.new.bench (unrefused c.explain_lines.result))
    (c.core.ensures.same c.requires.usable) c.explain_lines.ensures

pub explain_lines-requires-clause-legal : goal.explain_lines-requires-clause-legal
explain_lines-requires-clause-legal g c =
    let store = c.history-history.ensures.is in
    let legal : IsLegalIn (setting_of c.args.store.now.secret.shape c.args.store.now.protected) c.args.store.now.history = record {
      secrets = c.args.store.now.secret.lists;
      are_secrets = c.lists_of_secrets.ensures c.args.store.now.secret store.numbers;
      legal = store.legal;
    } in
    subst (λ (h : List Answered). IsLegalIn c.core.result.now.setting h) (sym (c.core.ensures.same c.requires.usable))
    (subst (λ (s : Setting). IsLegalIn s c.args.store.now.history) (sym c.core.ensures.setting) legal)
