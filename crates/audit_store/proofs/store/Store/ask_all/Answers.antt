use Rattle.std.proofs.Common.{◌≡◌, ℕ, true, List, All, refl, length, take, sym, ap, subst, ◌∙◌}
use Rattle.std.specs.Prelude.{IfErr}
use Rattle.std.proofs.lemmas.Result.{IfOk-from_err}
use Rattle.audit_types.specs.declared.records.Answered.{Answered}
use Rattle.audit_types.specs.declared.records.Asked.{Asked}
use Rattle.audit_types.specs.History.{FitsShape, IsLegal, Setting}
use Rattle.bench_core.specs.Reports.{failed_call, is_refusal, of_refusal}
use Rattle.bench_core.specs.Stops.{IsOfBenches}
use Rattle.bench_core.specs.declared.stops.Stop.TheVariants as stop
use Rattle.audit_core.specs.Audited.{Audited}
use Rattle.audit_core.specs.Outcomes.{records_made}
use Rattle.table_load.specs.Cells.{SecretView}
use Rattle.journal_form.specs.Journal.{StandsAt}
use Rattle.audit_store.specs.Refusals.{no_refusal}
use Rattle.audit_store.specs.Stores.{StoreContents, table_by}
use Rattle.audit_store.specs.StoreLaws.{core_is_history}
use Rattle.audit_store.specs.Twice.{group_of}
use Rattle.audit_store.proofs.InsideStores.{kept, refused}
use Rattle.audit_store.proofs.AskedGroups.{asked, asked_in_vain, decided, found, journal_after, not_of_spare, over_other, spare_asked, spare_asked_in_vain, spare_is_ahead, spare_unasked, unasked, uncalled}
use Rattle.audit_store.proofs.store.Store.ask_all.Goals as goal

pub invariant_of-self : goal.invariant_of-self
invariant_of-self g c =
    let i = c.self.inside in
    let took = c.decide_all.ensures in
    let is =
    refused c.self.view_is c.requires.usable c.self.invariant
    c.decide_all.new.sealed.secret c.decide_all.new.sealed.core took.secret took.setting i.journal took.begins took.within in
    (is.0.is, is.1)

pub invariant_of-self-in_err-ready : goal.invariant_of-self-in_err-ready
invariant_of-self-in_err-ready g c =
    let i = c.self.inside in
    let took = c.decide_all.ensures in
    let is =
    refused c.self.view_is c.requires.usable c.self.invariant
    c.decide_all.new.sealed.secret c.decide_all.new.sealed.core took.secret took.setting i.journal took.begins took.within in
    (is.0.is, is.1)

pub invariant_of-self-in-Err : goal.invariant_of-self-in-Err
invariant_of-self-in-Err g c =
    let i = c.self.inside in
    let took = c.decide_all.ensures in
    let is =
    refused c.self.view_is c.requires.usable c.self.invariant
    c.decide_all.new.sealed.secret c.decide_all.new.sealed.core took.secret took.setting i.journal took.begins took.within in
    (is.0.is, is.1)

pub invariant_of-self-in-Err-keep_ready : goal.invariant_of-self-in-Err-keep_ready
invariant_of-self-in-Err-keep_ready g c =
    let i = c.self.inside in
    let took = c.decide_all.ensures in
    let is =
    refused c.self.view_is c.requires.usable c.self.invariant
    c.decide_all.new.sealed.secret c.decide_all.new.sealed.core took.secret took.setting c.keep_ready.new.journal took.begins took.within in
    (is.0.is, is.1)

pub invariant_of-self-2 : goal.invariant_of-self-2
invariant_of-self-2 g c =
    let i = c.self.inside in
    let took = c.in_ok-outcomes.ensures in
    let made = records_made c.args.asked.now c.in_ok-outcomes.outcomes.items in
    let group = group_of c.in_ok-ready.ready in
    let decided_is =
    decided c.decide_all.new.sealed.core c.args.asked.now c.in_ok-outcomes.outcomes.items c.history.result.now group c.self.view_is c.requires.usable
    c.self.invariant took.outcomes took.history
    (c.history.ensures.is ∙ ap (λ (a : Audited). a.history) c.core.ensures) c.in_ok-ready.ensures.group in
    let done = c.in-Ok-keep_ready.ensures.appended in
    let is =
    kept c.self.view_is c.requires.usable c.self.invariant
    c.decide_all.new.sealed.secret c.decide_all.new.sealed.core c.decide_all.ensures.secret c.decide_all.ensures.setting (length c.history-2.result.now)
    c.keep_ready.new.journal group made took.history took.legal
    (ap length (c.history-2.ensures.is ∙ ap (λ (a : Audited). a.history) c.core-2.ensures)) decided_is.group_is done.usable done.shape done.counted in
    (is.0.is, is.1)

pub decide_all-requires-clause-same_shape : goal.decide_all-requires-clause-same_shape
decide_all-requires-clause-same_shape g c = ap (λ (s : Setting). s.shape) c.self.invariant.1.same_setting

pub decide_all-requires-clause-legal : goal.decide_all-requires-clause-legal
decide_all-requires-clause-legal g c =
    let i = c.self.inside in
    let usable : i.usable ≡ true = ap (λ (s : StoreContents). s.usable) c.self.view_is ∙ c.requires.usable in
    let all = core_is_history (table_by i.sealed.secret i.sealed.core) i.sealed.core i.released i.usable
    (take i.released i.sealed.core.history) c.self.invariant.1 usable refl in
    subst (λ (h : List Answered). IsLegal (table_by i.sealed.secret i.sealed.core) h) (sym all) c.self.invariant.0.legal

pub decide_all-requires-clause-fit : goal.decide_all-requires-clause-fit
decide_all-requires-clause-fit g c =
    subst (λ (s : StoreContents). All (λ (a : Asked). FitsShape s.secret.shape a.column a.rows) c.args.asked.now) (sym c.self.view_is) c.requires.fit

-- ---- memory ran out

pub returns-in_err-outcomes : goal.returns-in_err-outcomes
returns-in_err-outcomes g c =
    let i = c.self.inside in
    let took = c.decide_all.ensures in
    let is =
    refused c.self.view_is c.requires.usable c.self.invariant
    c.decide_all.new.sealed.secret c.decide_all.new.sealed.core took.secret took.setting i.journal took.begins took.within in
    let same = is_refusal c.from_residual.result stop.NoMemory c.from_residual.ensures in
    record {
      asks = unasked g.B.Bench c.args.bench.now same is.0;
      spare = spare_unasked g.B.Bench c.args.bench.now same g.S.Bench (g.A.Ahead.spared × g.S.Bench.told) c.args.spare.now;
      ahead = λ spared. IfOk-from_err _ _ c.from_residual.ensures.0;
      own = not_of_spare same;
      untouched = λ unspared. refl;
      ends = of_refusal c.from_residual.result stop.NoMemory c.from_residual.ensures (λ r. IfErr r IsOfBenches) tt;
    }

pub returns-in_err-ready : goal.returns-in_err-ready
returns-in_err-ready g c =
    let i = c.self.inside in
    let took = c.decide_all.ensures in
    let is =
    refused c.self.view_is c.requires.usable c.self.invariant
    c.decide_all.new.sealed.secret c.decide_all.new.sealed.core took.secret took.setting i.journal took.begins took.within in
    let same = is_refusal c.from_residual-in_err-ready.result stop.NoMemory c.from_residual-in_err-ready.ensures in
    record {
      asks = unasked g.B.Bench c.args.bench.now same is.0;
      spare = spare_unasked g.B.Bench c.args.bench.now same g.S.Bench (g.A.Ahead.spared × g.S.Bench.told) c.args.spare.now;
      ahead = λ spared. IfOk-from_err _ _ c.from_residual-in_err-ready.ensures.0;
      own = not_of_spare same;
      untouched = λ unspared. refl;
      ends = of_refusal c.from_residual-in_err-ready.result stop.NoMemory c.from_residual-in_err-ready.ensures (λ r. IfErr r IsOfBenches) tt;
    }

-- ---- a call of the spare failed

pub returns-in-Err : goal.returns-in-Err
returns-in-Err g c =
    let i = c.self.inside in
    let took = c.in_ok-outcomes.ensures in
    let group = group_of c.in_ok-ready.ready in
    let decided_is =
    decided c.decide_all.new.sealed.core c.args.asked.now c.in_ok-outcomes.outcomes.items c.history.result.now group c.self.view_is c.requires.usable
    c.self.invariant took.outcomes took.history
    (c.history.ensures.is ∙ ap (λ (a : Audited). a.history) c.core.ensures) c.in_ok-ready.ensures.group in
    let own = ap (λ (s : StoreContents). s.journal.gate) c.self.view_is in
    let of_other = λ (spared : g.A.Ahead.spared). over_other decided_is (g.A.Ahead.journal c.args.ahead.now) (c.requires.ahead spared) in
    let is =
    refused c.self.view_is c.requires.usable c.self.invariant
    c.decide_all.new.sealed.secret c.decide_all.new.sealed.core c.decide_all.ensures.secret c.decide_all.ensures.setting i.journal
    c.decide_all.ensures.begins c.decide_all.ensures.within in
    let failed = c.in-Err.ensures in
    record {
      asks =
          uncalled c.in_ok-outcomes.outcomes decided_is own g.B.Bench c.args.bench.now c.requires.stands
          (λ image sent was. g.met.B.Bench.only_now c.args.bench.now image sent was) is.0;
      spare =
          spare_asked_in_vain c.in_ok-outcomes.outcomes of_other g.B.Bench g.S.Bench
          c.args.bench.now c.args.bench.now c.args.spare.now c.keep_ahead.new.spare c.requires.spare_stands c.keep_ahead.ensures.any_moment
          c.keep_ahead.ensures.sent (g.A.Ahead.journal c.keep_ahead.new.self)
          (λ (Told : Type 0) (told : Told). failed_call g.S.Bench c.args.spare.now c.keep_ahead.new.spare _ Told failed.cause failed.last_call told)
          refl;
      ahead = λ spared. tt;
      own = λ same. failed.own;
      untouched = c.keep_ahead.ensures.untouched;
      ends = tt;
    }

-- ---- a call of the bench failed

pub returns-in-Err-keep_ready : goal.returns-in-Err-keep_ready
returns-in-Err-keep_ready g c =
    let i = c.self.inside in
    let took = c.in_ok-outcomes.ensures in
    let group = group_of c.in_ok-ready.ready in
    let decided_is =
    decided c.decide_all.new.sealed.core c.args.asked.now c.in_ok-outcomes.outcomes.items c.history.result.now group c.self.view_is c.requires.usable
    c.self.invariant took.outcomes took.history
    (c.history.ensures.is ∙ ap (λ (a : Audited). a.history) c.core.ensures) c.in_ok-ready.ensures.group in
    let own = ap (λ (s : StoreContents). s.journal.gate) c.self.view_is in
    let of_other = λ (spared : g.A.Ahead.spared). over_other decided_is (g.A.Ahead.journal c.args.ahead.now) (c.requires.ahead spared) in
    let is =
    refused c.self.view_is c.requires.usable c.self.invariant
    c.decide_all.new.sealed.secret c.decide_all.new.sealed.core c.decide_all.ensures.secret c.decide_all.ensures.setting c.keep_ready.new.journal
    c.decide_all.ensures.begins c.decide_all.ensures.within in
    let first = c.in-Ok.ensures in
    let failed = c.in-Err-keep_ready.ensures in
    record {
      asks =
          asked_in_vain c.in_ok-outcomes.outcomes decided_is own g.B.Bench c.args.bench.now
          c.requires.stands c.keep_ready.new.bench c.keep_ready.ensures.any_moment c.keep_ready.ensures.sent refl is.0
          (λ (Told : Type 0) (told : Told). failed_call g.B.Bench c.args.bench.now c.keep_ready.new.bench _ Told failed.cause failed.last_call told);
      spare =
          spare_is_ahead c.in_ok-outcomes.outcomes of_other g.B.Bench g.S.Bench
          c.args.bench.now c.keep_ready.new.bench c.args.spare.now c.keep_ahead.new.spare c.requires.spare_stands c.keep_ahead.ensures.any_moment
          c.keep_ahead.ensures.sent (g.A.Ahead.journal c.keep_ahead.new.self) first.appended first.cause.steady
          (λ image later left. g.met.B.Bench.counts_now c.keep_ready.new.bench (g.B.Bench.moment c.args.bench.now) image later left)
          (found decided_is g.B.Bench c.args.bench.now
          c.keep_ready.new.bench
          (λ told. subst (λ (n : ℕ). StandsAt (g.B.Bench.file c.args.bench.now) c.args.self.now.secret.shape c.args.self.now.history n) (sym own)
          (c.requires.stands told)) c.keep_ready.ensures.any_moment);
      ahead = λ spared. tt;
      own = λ failed. let none : ⊥ = cc in absurd none;
      untouched = c.keep_ahead.ensures.untouched;
      ends = tt;
    }

-- ---- none did

pub returns : goal.returns
returns g c =
    let i = c.self.inside in
    let took = c.in_ok-outcomes.ensures in
    let group = group_of c.in_ok-ready.ready in
    let decided_is =
    decided c.decide_all.new.sealed.core c.args.asked.now c.in_ok-outcomes.outcomes.items c.history.result.now group c.self.view_is c.requires.usable
    c.self.invariant took.outcomes took.history
    (c.history.ensures.is ∙ ap (λ (a : Audited). a.history) c.core.ensures) c.in_ok-ready.ensures.group in
    let made = records_made c.args.asked.now c.in_ok-outcomes.outcomes.items in
    let own = ap (λ (s : StoreContents). s.journal.gate) c.self.view_is in
    let of_other = λ (spared : g.A.Ahead.spared). over_other decided_is (g.A.Ahead.journal c.args.ahead.now) (c.requires.ahead spared) in
    let first = c.in-Ok.ensures in
    let done = c.in-Ok-keep_ready.ensures.appended in
    let is =
    kept c.self.view_is c.requires.usable c.self.invariant
    c.decide_all.new.sealed.secret c.decide_all.new.sealed.core c.decide_all.ensures.secret c.decide_all.ensures.setting (length c.history-2.result.now)
    c.keep_ready.new.journal group made took.history took.legal
    (ap length (c.history-2.ensures.is ∙ ap (λ (a : Audited). a.history) c.core-2.ensures)) decided_is.group_is done.usable done.shape
    done.counted in
    record {
      asks =
          asked c.in_ok-outcomes.outcomes decided_is own g.B.Bench c.args.bench.now c.requires.stands
          c.keep_ready.new.bench c.keep_ready.ensures.any_moment c.keep_ready.ensures.sent c.keep_ready.new.journal done
          c.in-Ok-keep_ready.ensures.cause.steady c.in-Ok-keep_ready.ensures.unasked is.0;
      spare =
          spare_asked c.in_ok-outcomes.outcomes of_other g.B.Bench g.S.Bench
          c.args.bench.now c.keep_ready.new.bench c.args.spare.now c.keep_ahead.new.spare c.requires.spare_stands c.keep_ahead.ensures.any_moment
          c.keep_ahead.ensures.sent (g.A.Ahead.journal c.keep_ahead.new.self) first.appended first.cause.steady
          (λ none. first.unasked (decided_is.group_is ∙ none)) is.0;
      ahead = λ spared.
          let on_spare = first.appended spared in
          journal_after (of_other spared) (g.A.Ahead.journal c.keep_ahead.new.self)
          (ap (λ (s : SecretView). s.shape) is.0.table.0) is.0.history on_spare.usable on_spare.shape on_spare.counted;
      own = λ failed. no_refusal _ _ failed;
      untouched = c.keep_ahead.ensures.untouched;
      ends = tt;
    }
