use Rattle.std.proofs.Common.{◌≡◌, List, ◌+◌, ◌++◌, sym, ap, subst, ◌∙◌, arith, take, append_assoc}
use Rattle.std.specs.Option.{option_to_list}
use Rattle.std.proofs.Math.Seq.{take-length}
use Rattle.std.proofs.lemmas.List.{take_more, take_all}
use Rattle.audit_types.specs.declared.records.Asked.{Asked}
use Rattle.audit_types.specs.History.{Setting, Table, IsLegal}
use Rattle.audit_core.specs.Outcomes.{IsOutcome, AreOutcomes, record_of, records_made}
use Rattle.table_load.specs.Cells.{SecretView}
use Rattle.table_load.specs.Database.{secret_table}
use Rattle.audit_store.proofs.Outcomes.{outcomes_more, records_more, few_made, grown_begins, grown_within}
use Rattle.audit_store.proofs.asking.decide_all.Goals as goal

pub loop-question-preserved : goal.loop-question-preserved
loop-question-preserved c =
    let i = c.loop-question.invariant in
    let place = c.loop-question.question-index in
    let questions = take place c.args.asked.now in
    let asked = c.question-item.result in
    let outcomes = c.loop-question.outcomes.items in
    let outcome = c.in_ok-outcome.outcome in
    let table = secret_table c.args.sealed.now.secret c.args.sealed.now.core.setting.protected in
    let history = c.args.sealed.now.core.history in
    let made = records_made questions outcomes in
    let sealed = c.loop-question.sealed in
    let table_is : secret_table sealed.secret sealed.core.setting.protected ≡ table =
    ap (λ (s : SecretView). secret_table s sealed.core.setting.protected) i.same_secret
    ∙ ap (λ (s : Setting). secret_table c.args.sealed.now.secret s.protected) i.same_setting in
    let decided : IsOutcome table (history ++ made) asked outcome =
    subst (λ (t : Table). IsOutcome t (history ++ made) asked outcome) table_is
    (subst (λ h. IsOutcome (secret_table sealed.secret sealed.core.setting.protected) h asked outcome) i.history c.in_ok-outcome.ensures.outcome) in
    let more = records_more table history questions outcomes asked outcome i.so_far in
    let first = option_to_list (record_of asked outcome) in
    record {
      same_setting = c.in_ok-outcome.ensures.setting ∙ i.same_setting;
      same_secret = c.in_ok-outcome.ensures.secret ∙ i.same_secret;
      so_far =
          rw (take_more c.args.asked.now place asked c.loop-question-test.true, ← c.question-item.is, c.push_reserved.ensures.items)
          (outcomes_more table history questions outcomes asked outcome i.so_far decided);
      history = rw (take_more c.args.asked.now place asked c.loop-question-test.true, ← c.question-item.is, c.push_reserved.ensures.items)
          (c.in_ok-outcome.ensures.history ∙ ap (λ t. t ++ first) i.history ∙ append_assoc history made first ∙ ap (λ t. history ++ t) (sym more));
      legal = subst (λ (t : Table). IsLegal t c.decide.new.sealed.core.history) table_is c.in_ok-outcome.ensures.legal;
      many = c.push_reserved.ensures.len ∙ ap (λ n. n + 1) i.many;
      room = omega (arith, i.room, c.push_reserved.ensures.capacity);
    }

pub returns-clause-few : goal.returns-clause-few
returns-clause-few c = few_made c.args.asked.now c.loop-question.outcomes.items

pub returns-in_err-outcomes-clause-begins : goal.returns-in_err-outcomes-clause-begins
returns-in_err-outcomes-clause-begins c = take-length c.args.sealed.now.core.history

pub returns-in_err-outcome-clause-begins : goal.returns-in_err-outcome-clause-begins
returns-in_err-outcome-clause-begins c =
    let made = records_made (take c.loop-question.question-index c.args.asked.now) c.loop-question.outcomes.items in
    grown_begins c.args.sealed.now.core.history made c.decide.new.sealed.core.history (c.in_err-outcome.ensures.kept ∙ c.loop-question.invariant.history)

pub returns-in_err-outcome-clause-within : goal.returns-in_err-outcome-clause-within
returns-in_err-outcome-clause-within c =
    let made = records_made (take c.loop-question.question-index c.args.asked.now) c.loop-question.outcomes.items in
    grown_within c.args.sealed.now.core.history made c.decide.new.sealed.core.history (c.in_err-outcome.ensures.kept ∙ c.loop-question.invariant.history)

pub returns-clause-outcomes : goal.returns-clause-outcomes
returns-clause-outcomes c =
    let all : take c.loop-question.question-index c.args.asked.now ≡ c.args.asked.now =
    take_all c.loop-question.question-index c.args.asked.now (omega (arith, c.loop-question-test.false)) in
    subst (λ (questions : List Asked). AreOutcomes (secret_table c.args.sealed.now.secret c.args.sealed.now.core.setting.protected)
    c.args.sealed.now.core.history questions c.loop-question.outcomes.items) all
    c.loop-question.invariant.so_far

pub returns-clause-history : goal.returns-clause-history
returns-clause-history c =
    let all : take c.loop-question.question-index c.args.asked.now ≡ c.args.asked.now =
    take_all c.loop-question.question-index c.args.asked.now (omega (arith, c.loop-question-test.false)) in
    c.loop-question.invariant.history ∙ ap (λ (questions : List Asked). c.args.sealed.now.core.history ++ records_made questions c.loop-question.outcomes.items)
    all

pub returns-clause-begins : goal.returns-clause-begins
returns-clause-begins c =
    grown_begins c.args.sealed.now.core.history (records_made (take c.loop-question.question-index c.args.asked.now) c.loop-question.outcomes.items)
    c.loop-question.sealed.core.history
    c.loop-question.invariant.history

pub returns-clause-within : goal.returns-clause-within
returns-clause-within c =
    grown_within c.args.sealed.now.core.history (records_made (take c.loop-question.question-index c.args.asked.now) c.loop-question.outcomes.items)
    c.loop-question.sealed.core.history
    c.loop-question.invariant.history
