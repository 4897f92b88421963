use Rattle.std.proofs.Common.{◌≡◌, refl, ℕ, ◌∙◌, ◌+◌, ◌++◌, List, length, Result, Err, sym, subst}
use Rattle.std.specs.Prelude.{IfErr}
use Rattle.std.proofs.lemmas.Bool.{false≢true}
use Rattle.std.proofs.lemmas.Result.{IfOk-from_err}
use Rattle.std.specs.List.{flat_map}
use Rattle.bench_core.specs.Calls.{LeavesOnly}
use Rattle.audit_store.specs.Stores.{IsAsLeft}
use Rattle.line_wire.specs.Reply.{reply_bytes}
use Rattle.line_wire.specs.declared.reply.Reply.{Reply}
use Rattle.audit_session.proofs.Sending.{SendsPart}
use Rattle.table_load.specs.Cells.{SecretView}
use Rattle.audit_session.specs.Groups.{SpareAnswersOn, stands_of}
use Rattle.audit_session.proofs.BothFiles.{sends_failed}
use Rattle.audit_session.proofs.DecidedGroup.{group_answered, left_stands, then_sent}
use Rattle.audit_store.specs.Refusals.{no_refusal, same_fault}
use Rattle.bench_core.specs.Reports.{is_refusal, of_refusal, passed_on}
use Rattle.bench_core.specs.Stops.{IsOfBenches}
use Rattle.bench_core.specs.declared.stops.Stop.{Stop}
use Rattle.bench_core.specs.declared.stops.Stop.TheVariants as end
use Rattle.bench_core.specs.Causes.{Rose}
use Rattle.audit_session.proofs.Refusals.{still_later}
use Rattle.audit_session.proofs.answering.answer.Goals as goal

abbrev ended_by : Stop → Result (Unit {0}) Stop
ended_by why = Err why

pub decide-requires-clause-stands : goal.decide-requires-clause-stands
decide-requires-clause-stands g c = c.requires.stands

pub decide-requires-clause-spare_stands : goal.decide-requires-clause-spare_stands
decide-requires-clause-spare_stands g c = c.requires.spare_stands

pub returns-in_err-send_all : goal.returns-in_err-send_all
returns-in_err-send_all g c =
    let same : c.from_residual-in_err-send_all.result ≡ ended_by end.Bench =
    is_refusal c.from_residual-in_err-send_all.result _ c.from_residual-in_err-send_all.ensures in
    record {
      answers = IfOk-from_err _ _ c.from_residual-in_err-send_all.ensures.0;
      stands = IfOk-from_err _ _ c.from_residual-in_err-send_all.ensures.0;
      moments = λ t quiet.
          let store = g.K.Keeper.store c.args.keeper.now in
          let mid = c.decide.new.bench in
          let e = c.in_ok-decide.ensures in
          let sends =
          subst (λ (rs : List Reply). LeavesOnly g.B.Bench mid c.send_all.new.bench
          (SendsPart (g.B.Bench.file mid) (g.B.Bench.sent mid) (flat_map reply_bytes rs))) c.deref.ensures.value (c.send_all.ensures.moments t
          (e.stands.quiet t quiet)) in
          then_sent g.B.Bench c.args.bench.now mid store.secret store.protected store.history c.args.group.now.plans.items
          (g.K.Keeper.store c.decide.new.keeper).history
          c.decide.new.group.replies.items e.decides e.sent c.send_all.new.bench
          (left_stands (g.B.Bench.file mid) store (g.K.Keeper.store c.decide.new.keeper) (e.stands.as_left t) e.table.0) (e.moments t quiet) sends;
      left = λ t usable. subst (λ (file : List ℕ). IsAsLeft file (g.K.Keeper.store c.decide.new.keeper)) (sym c.send_all.ensures.file)
          (c.in_ok-decide.ensures.stands.as_left t);
      no_memory = λ is. absurd cc;
      room = c.decide.ensures.room;
      table = c.decide.ensures.table;
      is = c.decide.ensures.is;
      fault = record {
        later = still_later _ _ _ (c.in_ok-decide.ensures.fault.steady (λ is. no_refusal _ _ is)) c.send_all.ensures.cause.later;
        failed = λ is.
            subst (λ (n : ℕ). Rose n (g.B.Bench.faults c.send_all.new.bench))
            (c.in_ok-decide.ensures.fault.steady (λ is. no_refusal _ _ is)) c.in_err-send_all.ensures.cause.failed;
        last_call = λ is. c.in_err-send_all.ensures.last_call;
        steady = λ other. absurd (other same);
      };
      spare = record {
        stands = λ told. IfOk-from_err _ _ c.from_residual-in_err-send_all.ensures.0;
        moments = c.decide.ensures.spare.moments;
        quiet = λ told quiet other. c.in_ok-decide.ensures.spare.quiet told quiet (λ is. no_refusal _ _ is);
        sent = c.decide.ensures.spare.sent;
        ticks = λ told. IfOk-from_err _ _ c.from_residual-in_err-send_all.ensures.0;
        no_memory = λ is. absurd cc;
        fault = record {
          later = c.decide.ensures.spare.fault.later;
          failed = λ is. absurd cc;
          last_call = λ is. absurd cc;
          steady = λ other. c.in_ok-decide.ensures.spare.fault.steady (λ is. no_refusal _ _ is);
        };
      };
      both = λ spared told spare_told quiet spare_quiet.
          let store = g.K.Keeper.store c.args.keeper.now in
          let after = g.K.Keeper.store c.decide.new.keeper in
          let mid = c.decide.new.bench in
          let e = c.in_ok-decide.ensures in
          let sends =
          subst (λ (rs : List Reply). LeavesOnly g.B.Bench mid c.send_all.new.bench
          (SendsPart (g.B.Bench.file mid) (g.B.Bench.sent mid) (flat_map reply_bytes rs))) c.deref.ensures.value (c.send_all.ensures.moments told
          (e.stands.quiet told quiet)) in
          sends_failed g.B.Bench g.S.Bench c.args.bench.now c.send_all.new.bench c.args.spare.now c.decide.new.spare store.secret store.protected store.history
          c.args.group.now.plans.items mid after.history c.decide.new.group.replies.items e.decides e.sent
          (left_stands (g.B.Bench.file mid) store after (e.stands.as_left told) e.table.0)
          (e.spare.quiet (spared, spare_told) spare_quiet (λ is. no_refusal _ _ is))
          (subst (λ (s : SecretView). stands_of s.shape (g.S.Bench.file c.decide.new.spare) after.history) e.table.0
          (g.K.Keeper.spare_gate c.decide.new.keeper, e.spare.stands (spared, spare_told)))
          sends (λ image le left. g.met.B.Bench.counts_now c.send_all.new.bench (g.B.Bench.moment mid) image le left);
      spare_first = λ is. absurd cc;
      own = λ is. absurd cc;
      untouched = c.decide.ensures.untouched;
      ends = of_refusal _ end.Bench c.from_residual-in_err-send_all.ensures (λ r. IfErr r IsOfBenches) tt;
    }

pub returns-in_err-decide : goal.returns-in_err-decide
returns-in_err-decide g c =
    let given = c.in_err-decide.field-0.0 in
    let same : c.from_residual.result ≡ ended_by given = is_refusal c.from_residual.result _ c.from_residual.ensures in
    record {
      answers = IfOk-from_err _ _ c.from_residual.ensures.0;
      stands = IfOk-from_err _ _ c.from_residual.ensures.0;
      moments = c.decide.ensures.moments;
      left = λ t usable. absurd (false≢true (sym c.in_err-decide.ensures.err.1 ∙ usable));
      no_memory = λ is.
          let still = c.in_err-decide.ensures.no_memory (same_fault given end.NoMemory (sym same ∙ is)) in
          (still, c.in_err-decide.ensures.err.0);
      room = c.decide.ensures.room;
      table = c.decide.ensures.table;
      is = c.decide.ensures.is;
      fault = passed_on g.B.Bench c.args.bench.now c.decide.new.bench given end.Bench _ same c.in_err-decide.ensures.fault;
      spare =
          of_refusal _ given c.from_residual.ensures (λ r. SpareAnswersOn g.S.Bench (g.K.Keeper.spared × g.S.Bench.told)
          (g.K.Keeper.store c.args.keeper.now) (g.K.Keeper.store c.decide.new.keeper) (g.K.Keeper.spare_gate c.decide.new.keeper)
          c.args.group.now.plans.items r c.args.spare.now c.decide.new.spare) c.in_err-decide.ensures.spare;
      both = λ spared told spare_told quiet spare_quiet. c.in_err-decide.ensures.both spared told spare_told quiet spare_quiet refl;
      spare_first = λ is. (c.in_err-decide.ensures.spare_first (same_fault given end.Spare (sym same ∙ is)), c.in_err-decide.ensures.err.0);
      own = λ is. c.in_err-decide.ensures.own (same_fault given end.Spare (sym same ∙ is));
      untouched = c.decide.ensures.untouched;
      ends = of_refusal _ given c.from_residual.ensures (λ r. IfErr r IsOfBenches) c.in_err-decide.ensures.ends;
    }

pub returns : goal.returns
returns g c =
    let store = g.K.Keeper.store c.args.keeper.now in
    let mid = c.decide.new.bench in
    let e = c.in_ok-decide.ensures in
    record {
      answers =
          let sent = c.in_ok-send_all.ensures in
          let told = c.deref.ensures.value in
          group_answered g.B.Bench c.args.bench.now mid store.secret store.protected store.history c.args.group.now.plans.items
          (g.K.Keeper.store c.decide.new.keeper).history
          c.decide.new.group.replies.items e.decides e.sent c.send_all.new.bench
          (λ t. subst (λ (rs : List Reply). g.B.Bench.sent c.send_all.new.bench ≡ g.B.Bench.sent mid ++ flat_map reply_bytes rs) told (sent.all t))
          (λ t. subst (λ (rs : List Reply). g.B.Bench.moment c.send_all.new.bench ≡ g.B.Bench.moment mid + length rs) told (sent.ticks t));
      stands = record {
        usable = c.in_ok-decide.ensures.stands.usable;
        as_left = λ t. subst (λ (file : List ℕ). IsAsLeft file (g.K.Keeper.store c.decide.new.keeper)) (sym c.send_all.ensures.file)
            (c.in_ok-decide.ensures.stands.as_left t);
        quiet = λ t quiet image leaves. c.in_ok-decide.ensures.stands.quiet t quiet image (c.send_all.ensures.crash image leaves) ∙ sym c.send_all.ensures.file;
      };
      moments = λ t quiet.
          let sends =
          subst (λ (rs : List Reply). LeavesOnly g.B.Bench mid c.send_all.new.bench
          (SendsPart (g.B.Bench.file mid) (g.B.Bench.sent mid) (flat_map reply_bytes rs))) c.deref.ensures.value (c.send_all.ensures.moments t
          (e.stands.quiet t quiet)) in
          then_sent g.B.Bench c.args.bench.now mid store.secret store.protected store.history c.args.group.now.plans.items
          (g.K.Keeper.store c.decide.new.keeper).history
          c.decide.new.group.replies.items e.decides e.sent c.send_all.new.bench
          (left_stands (g.B.Bench.file mid) store (g.K.Keeper.store c.decide.new.keeper) (e.stands.as_left t) e.table.0) (e.moments t quiet) sends;
      left = λ t usable. subst (λ (file : List ℕ). IsAsLeft file (g.K.Keeper.store c.decide.new.keeper)) (sym c.send_all.ensures.file)
          (c.in_ok-decide.ensures.stands.as_left t);
      no_memory = λ is. no_refusal _ _ is;
      room = c.decide.ensures.room;
      table = c.decide.ensures.table;
      is = c.decide.ensures.is;
      fault = record {
        later = still_later _ _ _ (c.in_ok-decide.ensures.fault.steady (λ is. no_refusal _ _ is)) c.in_ok-send_all.ensures.cause.later;
        failed = λ is. no_refusal _ _ is;
        last_call = λ is. no_refusal _ _ is;
        steady = λ other. c.in_ok-send_all.ensures.cause.steady ∙ c.in_ok-decide.ensures.fault.steady (λ is. no_refusal _ _ is);
      };
      spare = c.in_ok-decide.ensures.spare;
      both = λ spared told spare_told quiet spare_quiet.
          let after = g.K.Keeper.store c.decide.new.keeper in
          let sends =
          subst (λ (rs : List Reply). LeavesOnly g.B.Bench mid c.send_all.new.bench
          (SendsPart (g.B.Bench.file mid) (g.B.Bench.sent mid) (flat_map reply_bytes rs))) c.deref.ensures.value (c.send_all.ensures.moments told
          (e.stands.quiet told quiet)) in
          sends_failed g.B.Bench g.S.Bench c.args.bench.now c.send_all.new.bench c.args.spare.now c.decide.new.spare store.secret store.protected store.history
          c.args.group.now.plans.items mid after.history c.decide.new.group.replies.items e.decides e.sent
          (left_stands (g.B.Bench.file mid) store after (e.stands.as_left told) e.table.0)
          (e.spare.quiet (spared, spare_told) spare_quiet (λ is. no_refusal _ _ is))
          (subst (λ (s : SecretView). stands_of s.shape (g.S.Bench.file c.decide.new.spare) after.history) e.table.0
          (g.K.Keeper.spare_gate c.decide.new.keeper, e.spare.stands (spared, spare_told)))
          sends (λ image le left. g.met.B.Bench.counts_now c.send_all.new.bench (g.B.Bench.moment mid) image le left);
      spare_first = λ is. no_refusal _ _ is;
      own = λ is. no_refusal _ _ is;
      untouched = c.decide.ensures.untouched;
      ends = tt;
    }
