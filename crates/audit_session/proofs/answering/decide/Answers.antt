use Rattle.std.proofs.Common.{◌≡◌, ◌+◌, ◌++◌, List, length, drop, Result, Err, sym, ◌∙◌, ap, subst, arith, rules}
use Rattle.std.specs.Prelude.{All, IfErr}
use Rattle.std.proofs.lemmas.Bool.{false≢true}
use Rattle.std.proofs.lemmas.Result.{IfOk-from_err}
use Rattle.std.proofs.Math.Seq.{drop-append_seam}
use Rattle.audit_types.specs.declared.records.Asked.{Asked}
use Rattle.audit_types.specs.declared.records.Answered.{Answered}
use Rattle.audit_types.specs.History.{FitsShape}
use Rattle.audit_core.specs.declared.outcome.Outcome.{Outcome}
use Rattle.audit_core.specs.Outcomes.{AreOutcomes, records_made}
use Rattle.bench_core.specs.declared.stops.Stop.{Stop}
use Rattle.bench_core.specs.declared.stops.Stop.TheVariants as end
use Rattle.bench_core.specs.Reports.{of_refusal, passed_on}
use Rattle.bench_core.specs.Stops.{IsOfBenches}
use Rattle.audit_store.specs.Stores.{Keeps, KeptAhead, calls_for, table_of}
use Rattle.question_plan.specs.declared.planning.Plan.{Plan}
use Rattle.audit_session.specs.Groups.{AreTold, CanAllBeTold, questions_of, stands_of}
use Rattle.audit_session.proofs.ToldPlans.{can_all, few_questions, questions_fit}
use Rattle.audit_session.proofs.BothFiles.{neither_called, spare_call_failed, bench_call_failed}
use Rattle.audit_session.proofs.DecidedGroup.{by_kind, by_memory, told_group, while_kept, while_kept_unsent, nothing_called, nothing_called_unsent}
use Rattle.audit_store.specs.Refusals.{no_refusal, same_fault}
use Rattle.audit_session.proofs.answering.decide.Goals as goal

abbrev refused : Stop → Result (Unit {0}) Stop
refused given = Err given

pub ask_group-requires-clause-stands : goal.ask_group-requires-clause-stands
ask_group-requires-clause-stands g c = c.requires.stands

pub ask_group-requires-clause-spare_stands : goal.ask_group-requires-clause-spare_stands
ask_group-requires-clause-spare_stands g c = c.requires.spare_stands

pub ask_group-requires-clause-few : goal.ask_group-requires-clause-few
ask_group-requires-clause-few g c =
    let asked : c.deref.result.now ≡ questions_of c.args.group.now.plans.items = c.deref.ensures.value ∙ c.requires.questions in
    omega (arith, ap (λ (l : List Asked). length l) asked, few_questions c.args.group.now.plans.items, c.requires.few)

pub ask_group-requires-clause-fit : goal.ask_group-requires-clause-fit
ask_group-requires-clause-fit g c =
    let asked : c.deref.result.now ≡ questions_of c.args.group.now.plans.items = c.deref.ensures.value ∙ c.requires.questions in
    subst (λ (l : List Asked). All (λ (a : Asked). FitsShape (g.K.Keeper.store c.args.keeper.now).secret.shape a.column a.rows) l) (sym asked)
    (questions_fit (g.K.Keeper.store c.args.keeper.now).secret.shape c.args.group.now.plans.items c.requires.served)

pub tell_all-requires-clause-can : goal.tell_all-requires-clause-can
tell_all-requires-clause-can g c =
    let store = g.K.Keeper.store c.args.keeper.now in
    let plans = c.args.group.now.plans.items in
    let asked : c.deref.result.now ≡ questions_of plans = c.deref.ensures.value ∙ c.requires.questions in
    let due =
    subst (λ (l : List Asked). AreOutcomes
    (table_of store) store.history l c.in_ok-outcomes.outcomes.items) asked c.in_ok-outcomes.ensures.asks.outcomes in
    let can : CanAllBeTold plans c.in_ok-outcomes.outcomes.items =
    can_all c.told_outcomes.ensures.can store.secret store.protected c.requires.is.numbers store.history plans c.in_ok-outcomes.outcomes.items
    c.requires.served due in
    subst (λ (os : List Outcome). CanAllBeTold c.deref-2.result.now os) (sym c.deref-3.ensures.value)
    (subst (λ (ps : List Plan). CanAllBeTold ps c.in_ok-outcomes.outcomes.items) (sym c.deref-2.ensures.value) can)

pub returns-in_err-outcomes : goal.returns-in_err-outcomes
returns-in_err-outcomes g c =
    let given = c.in_err-outcomes.field-0.0 in
    let same : c.from_residual.result ≡ refused given = search rules in
    record {
      decides = IfOk-from_err _ _ c.from_residual.ensures.0;
      in_range = IfOk-from_err _ _ c.from_residual.ensures.0;
      stands = IfOk-from_err _ _ c.from_residual.ensures.0;
      err = search rules;
      no_memory = λ is. c.in_err-outcomes.ensures.asks.no_memory (same_fault given end.NoMemory (sym same ∙ is));
      moments = λ told quiet.
          let store = g.K.Keeper.store c.args.keeper.now in
          let plans = c.args.group.now.plans.items in
          let asked : c.deref.result.now ≡ questions_of plans = c.deref.ensures.value ∙ c.requires.questions in
          let e = c.in_err-outcomes.ensures in
          by_memory given
          (λ memory. nothing_called g.B.Bench c.args.bench.now c.ask_group.new.bench store.secret store.protected store.history plans (e.asks.no_memory memory)
          (λ image bytes was. g.met.B.Bench.only_now c.args.bench.now image bytes was) quiet (store.journal.gate, c.requires.stands told))
          (λ other. while_kept g.B.Bench c.args.bench.now c.ask_group.new.bench store.secret store.protected store.history plans c.told_outcomes.ensures.can
          c.told_outcomes.ensures.some c.requires.is.numbers c.requires.served (g.B.Bench.sent c.args.bench.now)
          (subst (λ (l : List Asked). Keeps g.B.Bench c.args.bench.now c.ask_group.new.bench (table_of store) store.history l
          (g.B.Bench.sent c.args.bench.now)) asked
          (e.asks.any_moment told quiet other)));
      sent = c.ask_group.ensures.asks.sent;
      room = search rules;
      plans = search rules;
      table = c.ask_group.ensures.asks.table;
      is = c.ask_group.ensures.asks.is;
      fault = passed_on g.B.Bench c.args.bench.now c.ask_group.new.bench given end.Bench _ same c.in_err-outcomes.ensures.asks.fault;
      ends = of_refusal _ given c.from_residual.ensures (λ r. IfErr r IsOfBenches) c.in_err-outcomes.ensures.ends;
      spare = record {
        stands = λ told. IfOk-from_err _ _ c.from_residual.ensures.0;
        moments = λ told quiet.
            let store = g.K.Keeper.store c.args.keeper.now in
            let plans = c.args.group.now.plans.items in
            let asked : c.deref.result.now ≡ questions_of plans = c.deref.ensures.value ∙ c.requires.questions in
            let e = c.in_err-outcomes.ensures.spare in
            by_memory given
            (λ memory. nothing_called_unsent g.S.Bench c.args.spare.now c.ask_group.new.spare store.secret store.protected store.history plans
            (e.no_memory memory)
            (λ image bytes was. g.met.S.Bench.only_now c.args.spare.now image bytes was) quiet
            (g.K.Keeper.spare_gate c.args.keeper.now, c.requires.spare_stands told.0 told.1))
            (λ other. while_kept_unsent g.S.Bench c.args.spare.now c.ask_group.new.spare store.secret store.protected store.history plans
            c.told_outcomes.ensures.can c.told_outcomes.ensures.some c.requires.is.numbers c.requires.served (g.S.Bench.sent c.args.spare.now)
            (subst (λ (l : List Asked). Keeps g.S.Bench c.args.spare.now c.ask_group.new.spare (table_of store) store.history l
            (g.S.Bench.sent c.args.spare.now)) asked
            (e.moments told quiet other)));
        quiet = λ told quiet other. c.in_err-outcomes.ensures.spare.quiet told quiet (λ is. other (same ∙ same_fault given end.Spare is));
        sent = c.ask_group.ensures.spare.sent;
        ticks = λ told. IfOk-from_err _ _ c.from_residual.ensures.0;
        no_memory = λ is. c.in_err-outcomes.ensures.spare.no_memory (same_fault given end.NoMemory (sym same ∙ is));
        fault = passed_on g.S.Bench c.args.spare.now c.ask_group.new.spare given end.Spare _ same c.in_err-outcomes.ensures.spare.fault;
      };
      both = λ spared told spare_told quiet spare_quiet refused.
          let store = g.K.Keeper.store c.args.keeper.now in
          let plans = c.args.group.now.plans.items in
          let asked : c.deref.result.now ≡ questions_of plans = c.deref.ensures.value ∙ c.requires.questions in
          let e = c.in_err-outcomes.ensures in
          let stands : stands_of store.secret.shape (g.B.Bench.file c.args.bench.now) store.history = (store.journal.gate, c.requires.stands told) in
          let spare_stands : stands_of store.secret.shape (g.S.Bench.file c.args.spare.now) store.history =
          (g.K.Keeper.spare_gate c.args.keeper.now, c.requires.spare_stands spared spare_told) in
          by_kind given e.ends
          (λ memory. neither_called g.B.Bench g.S.Bench c.args.bench.now c.ask_group.new.bench c.args.spare.now c.ask_group.new.spare store.secret
          store.protected
          store.history plans quiet spare_quiet stands spare_stands (e.asks.no_memory memory) (e.spare.no_memory memory))
          (λ failed. bench_call_failed g.B.Bench g.S.Bench c.args.bench.now c.ask_group.new.bench c.args.spare.now c.ask_group.new.spare store.secret
          store.protected store.history plans c.told_outcomes.ensures.can c.told_outcomes.ensures.some c.requires.is.numbers c.requires.served
          c.ask_group.ensures.asks.sent (e.spare.quiet (spared, spare_told) spare_quiet (λ is. cc))
          (λ image left. subst (λ (l : List Asked). KeptAhead (g.S.Bench.file c.ask_group.new.spare) image (table_of store) store.history l) asked
          (e.spare.ahead told (spared, spare_told) quiet failed image left)))
          (λ failed. spare_call_failed g.B.Bench g.S.Bench c.args.bench.now c.ask_group.new.bench c.args.spare.now c.ask_group.new.spare store.secret
          store.protected store.history plans quiet stands (e.spare.first failed)
          (while_kept_unsent g.S.Bench c.args.spare.now c.ask_group.new.spare store.secret store.protected store.history plans c.told_outcomes.ensures.can
          c.told_outcomes.ensures.some c.requires.is.numbers c.requires.served (g.S.Bench.sent c.args.spare.now)
          (subst (λ (l : List Asked). Keeps g.S.Bench c.args.spare.now c.ask_group.new.spare (table_of store) store.history l
          (g.S.Bench.sent c.args.spare.now)) asked
          (e.spare.moments (spared, spare_told) spare_quiet (λ is. cc))))
          (λ image le left. g.met.S.Bench.counts_now c.ask_group.new.spare (g.S.Bench.moment c.args.spare.now) image le left));
      spare_first = λ is. c.in_err-outcomes.ensures.spare.first (same_fault given end.Spare (sym same ∙ is));
      own = λ is. c.in_err-outcomes.ensures.own (same_fault given end.Spare (sym same ∙ is));
      untouched = c.ask_group.ensures.untouched;
    }

pub returns : goal.returns
returns g c =
    let store = g.K.Keeper.store c.args.keeper.now in
    let plans = c.args.group.now.plans.items in
    let asked : c.deref.result.now ≡ questions_of plans = c.deref.ensures.value ∙ c.requires.questions in
    record {
      decides =
          let outcomes = c.in_ok-outcomes.outcomes.items in
          let e = c.in_ok-outcomes.ensures in
          let due = subst (λ (l : List Asked). AreOutcomes (table_of store) store.history l outcomes) asked e.asks.outcomes in
          let told =
          subst (λ (os : List Outcome). AreTold plans os c.tell_all.new.replies.items) c.deref-3.ensures.value
          (subst (λ (ps : List Plan). AreTold ps c.deref-3.result.now c.tell_all.new.replies.items) c.deref-2.ensures.value c.tell_all.ensures.told) in
          told_group g.B.Bench c.args.bench.now c.ask_group.new.bench store.secret store.protected store.history plans
          (g.K.Keeper.store c.ask_group.new.self).history outcomes
          c.tell_all.new.replies.items due told
          (e.asks.history ∙ ap (λ (l : List Asked). store.history ++ records_made l outcomes) asked)
          (λ t. e.asks.ticks t ∙ ap (λ (l : List Asked). g.B.Bench.moment c.args.bench.now + calls_for (records_made l outcomes)) asked);
      in_range = c.tell_all.ensures.in_range;
      stands = record {
        usable = c.in_ok-outcomes.ensures.asks.usable;
        as_left = c.in_ok-outcomes.ensures.asks.stands;
        quiet = λ told quiet. c.in_ok-outcomes.ensures.asks.quiet told quiet (λ is. no_refusal _ _ is);
      };
      err = search rules;
      no_memory = λ is. no_refusal _ _ is;
      moments = λ told quiet.
          while_kept g.B.Bench c.args.bench.now c.ask_group.new.bench store.secret store.protected store.history plans c.told_outcomes.ensures.can
          c.told_outcomes.ensures.some
          c.requires.is.numbers c.requires.served
          (g.B.Bench.sent c.args.bench.now)
          (subst (λ (l : List Asked). Keeps g.B.Bench c.args.bench.now c.ask_group.new.bench (table_of store) store.history l
          (g.B.Bench.sent c.args.bench.now)) asked
          (c.in_ok-outcomes.ensures.asks.any_moment told quiet (λ is. no_refusal _ _ is)));
      sent = c.ask_group.ensures.asks.sent;
      room = c.tell_all.ensures.room;
      plans = search rules;
      table = c.ask_group.ensures.asks.table;
      is = c.ask_group.ensures.asks.is;
      fault = record {
        later = c.ask_group.ensures.asks.fault.later;
        failed = λ is. no_refusal _ _ is;
        last_call = λ is. no_refusal _ _ is;
        steady = λ other. c.in_ok-outcomes.ensures.asks.fault.steady (λ is. no_refusal _ _ is);
      };
      ends = tt;
      spare = record {
        stands = c.in_ok-outcomes.ensures.spare.stands;
        moments = λ told quiet.
            while_kept_unsent g.S.Bench c.args.spare.now c.ask_group.new.spare store.secret store.protected store.history plans c.told_outcomes.ensures.can
            c.told_outcomes.ensures.some c.requires.is.numbers c.requires.served (g.S.Bench.sent c.args.spare.now)
            (subst (λ (l : List Asked). Keeps g.S.Bench c.args.spare.now c.ask_group.new.spare (table_of store) store.history l
            (g.S.Bench.sent c.args.spare.now)) asked
            (c.in_ok-outcomes.ensures.spare.moments told quiet (λ is. no_refusal _ _ is)));
        quiet = λ told quiet other. c.in_ok-outcomes.ensures.spare.quiet told quiet (λ is. no_refusal _ _ is);
        sent = c.ask_group.ensures.spare.sent;
        ticks = λ told.
            let e = c.in_ok-outcomes.ensures in
            let records = records_made c.deref.result.now c.in_ok-outcomes.outcomes.items in
            let added : drop (length store.history) (g.K.Keeper.store c.ask_group.new.self).history ≡ records =
            ap (λ (h : List Answered). drop (length store.history) h) e.asks.history ∙ drop-append_seam store.history records in
            e.spare.ticks told ∙ ap (λ (l : List Answered). g.S.Bench.moment c.args.spare.now + calls_for l) (sym added);
        no_memory = λ is. no_refusal _ _ is;
        fault = record {
          later = c.ask_group.ensures.spare.fault.later;
          failed = λ is. no_refusal _ _ is;
          last_call = λ is. no_refusal _ _ is;
          steady = λ other. c.in_ok-outcomes.ensures.spare.fault.steady (λ is. no_refusal _ _ is);
        };
      };
      both = λ spared told spare_told quiet spare_quiet refused. absurd (false≢true refused);
      spare_first = λ is. no_refusal _ _ is;
      own = λ is. no_refusal _ _ is;
      untouched = c.ask_group.ensures.untouched;
    }
