-- The replies that are due to one line over tables that differ in their secrets alone.
use Rattle.std.proofs.Common.{◌≡◌, ℕ, ℤ, pos, List, Some, refl, sym, ◌∙◌, ap, subst, arith, inl, inr, ◌⊎◌, ⊎_elim}
use Rattle.std.specs.Prelude.{◌*ℤ◌, neg_ℤ}
use Rattle.std.proofs.lemmas.Int.{ints}
use Rattle.audit_types.specs.declared.shapes.Shape.{Shape}
use Rattle.audit_types.specs.declared.records.Asked.{Asked}
use Rattle.audit_types.specs.declared.records.Answered.{Answered}
use Rattle.audit_types.specs.declared.records.Verdict.{Verdict}
use Rattle.audit_types.specs.declared.records.Verdict.TheVariants.{Released, DeniedUnsafe, DeniedWide}
use Rattle.audit_types.specs.Judgement.{IsDecision}
use Rattle.audit_types.specs.History.{Protection, Table, Setting, setting_of, known_of}
use Rattle.sum_basis.specs.Laws.{SetsHaveOneForm}
use Rattle.audit_core.specs.declared.outcome.Outcome.{Outcome}
use Rattle.audit_core.specs.declared.outcome.Outcome.TheVariants.{Answer, Denied, Full}
use Rattle.audit_core.specs.Outcomes.{IsOutcome, record_of}
use Rattle.schema_json.specs.Columns.{Column}
use Rattle.table_load.specs.Cells.{PublicView, SecretView}
use Rattle.table_load.specs.Database.{Database, base_of, secret_table, table_in}
use Rattle.line_wire.specs.Lines.{CountedLine}
use Rattle.line_wire.specs.Reply.{reply_bytes}
use Rattle.line_wire.specs.declared.question.Take.{Take}
use Rattle.line_wire.specs.declared.question.Take.TheVariants.{Sum, Avg, Max, Min}
use Rattle.line_wire.specs.declared.reply.Reply.{Reply}
use Rattle.line_wire.specs.declared.reply.Reply.TheVariants as reply
use Rattle.question_plan.specs.declared.planning.Plan.{Plan}
use Rattle.question_plan.specs.declared.planning.Plan.TheVariants.{Ready, Ask}
use Rattle.question_plan.specs.Session.{Replied}
use Rattle.audit_core.specs.OneDecision.{one_decision, one_judgement}
use Rattle.question_plan.specs.Replies.{IsDue, IsReplyOf, TellsOutcome, Tells, only}
use Rattle.question_plan.specs.Laws.{AreAnswersAlike, OneDecisionIsMade, OneJudgementIsMade, OneAnswerIsTold, OneReplyIsDue, DecidedAlike, EqualAnswersEqualReplies}
use Rattle.question_plan.proofs.OneMean.{cancel_ℤ, one_mean}
use Rattle.predicate_lang.specs.Laws.{OneMeaning}
use Rattle.question_plan.proofs.OnePlan.{one_plan}

-- one reply tells an answer
one_telling : (take : Take) (size : ℕ) (answer : ℤ) (a b : Reply) → Tells take size answer a → Tells take size answer b → a ≡ b
one_telling Sum size answer a b first second = first ∙ sym second
one_telling Avg size answer a b first second = one_mean answer size a b first second
one_telling Max size answer a b first second = first ∙ sym second
one_telling Min size answer a b first second = first ∙ sym second

pub decided_once : SetsHaveOneForm → OneDecisionIsMade
decided_once forms setting history column rows v w first second = one_decision forms (known_of setting history column) rows v w first second

pub judged_once : SetsHaveOneForm → OneJudgementIsMade
judged_once forms setting history column rows v w first second = one_judgement forms (known_of setting history column) rows v w first second

-- a reply tells one answer
pub told_once : OneAnswerIsTold
told_once Sum size a b told first second = let both : reply.Sum a ≡ reply.Sum b = sym first ∙ second in cc
told_once Avg size a b told first second =
    let both : reply.Avg first.0 first.1 ≡ reply.Avg second.0 second.1 = sym first.3 ∙ second.3 in
    let num : first.0 ≡ second.0 = cc in
    let den : first.1 ≡ second.1 = cc in
    cancel_ℤ a b first.1 first.2.some.1 (sym first.2.same ∙ ap (λ (z : ℤ). z *ℤ pos size) num ∙ second.2.same ∙ ap (λ (d : ℕ). b *ℤ pos d) (sym den))
told_once Max size a b told first second = let both : reply.Max a ≡ reply.Max b = sym first ∙ second in cc
told_once Min size a b told first second =
    let both : reply.Min (neg_ℤ a) ≡ reply.Min (neg_ℤ b) = sym first ∙ second in
    let negated : neg_ℤ a ≡ neg_ℤ b = cc in
    omega (arith, ints, negated)

-- two replies that tell one denial, or that the history is full
one_denial : (take : Take) (asked : Asked) (size : ℕ) (v : Verdict) (a b : Reply) → TellsOutcome take size (Denied v) a → TellsOutcome take size (Denied v) b →
    a ≡ b
one_denial take asked size Released a b first second = absurd first
one_denial take asked size DeniedUnsafe a b first second = first ∙ sym second
one_denial take asked size DeniedWide a b first second = first ∙ sym second

module _ (forms : SetsHaveOneForm) (table twin : Table) (same : twin.setting ≡ table.setting) (history : List Answered) (take : Take)
    (people : ℕ) (asked : Asked) where
  rows : List ℕ
  rows = asked.rows.list

  -- the decision of the twin is that of the table
  one_verdict : (v w : Verdict) → IsDecision (known_of table.setting history asked.column) asked.rows.list v →
      IsDecision (known_of twin.setting history asked.column) asked.rows.list w → v ≡ w
  one_verdict v w first second =
      one_decision forms (known_of table.setting history asked.column) asked.rows.list v w first
      (subst (λ (s : Setting). IsDecision (known_of s history asked.column) asked.rows.list w) same second)

  -- a reply that makes no record, by two names
  same_only : (answer other : Reply) (a b : Replied Answered) → answer ≡ other → a ≡ only answer → b ≡ only other → a ≡ b
  same_only answer other a b is first second = first ∙ ap (λ (r : Reply). only r) is ∙ sym second

  -- what becomes of a question over both
  outcomes_alike : (x y : Outcome) (answer other : Reply) (a b : Replied Answered) → IsOutcome table history asked x → IsOutcome twin history asked y
      → TellsOutcome take people x answer → TellsOutcome take people y other
      → a ≡ record { bytes = reply_bytes answer; added = record_of asked x } → b ≡ record { bytes = reply_bytes other; added = record_of asked y } →
      (a ≡ b) ⊎ AreAnswersAlike table twin a b
  outcomes_alike Full Full answer other a b first second tells told a_is b_is = inl (same_only answer other a b (tells ∙ sym told) a_is b_is)
  outcomes_alike Full (Denied w) answer other a b first second tells told a_is b_is = absurd (omega (arith, first, second.0))
  outcomes_alike Full (Answer y) answer other a b first second tells told a_is b_is = absurd (omega (arith, first, second.0))
  outcomes_alike (Denied v) Full answer other a b first second tells told a_is b_is = absurd (omega (arith, first.0, second))
  outcomes_alike (Answer x) Full answer other a b first second tells told a_is b_is = absurd (omega (arith, first.0, second))
  outcomes_alike (Denied v) (Denied w) answer other a b first second tells told a_is b_is =
      let one = one_verdict v w first.2 second.2 in
      inl
      (same_only answer other a b (one_denial take asked people v answer other tells
      (subst (λ (u : Verdict). TellsOutcome take people (Denied u) other) (sym one) told)) a_is b_is)
  outcomes_alike (Denied v) (Answer y) answer other a b first second tells told a_is b_is = absurd (first.1 (one_verdict v Released first.2 second.1))
  outcomes_alike (Answer x) (Denied w) answer other a b first second tells told a_is b_is = absurd (second.1 (sym (one_verdict Released w first.1 second.2)))
  outcomes_alike (Answer x) (Answer y) answer other a b first second tells told a_is b_is = inr (record {
    take = take;
    people = people;
    asked = asked;
    first = record { answer = x; is_true = first.2; told = answer; tells = tells; replied_is = a_is };
    second = record { answer = y; is_true = second.2; told = other; tells = told; replied_is = b_is };
  })

-- what a plan comes to over both
replies_alike : SetsHaveOneForm → (plan : Plan) (table twin : Table) → twin.setting ≡ table.setting → (history : List Answered) (a b : Replied Answered)
    → IsReplyOf table history plan a → IsReplyOf twin history plan b → (a ≡ b) ⊎ AreAnswersAlike table twin a b
replies_alike forms (Ready answer) table twin same history a b first second = inl (first ∙ sym second)
replies_alike forms (Ask take people asked) table twin same history a b first second =
    outcomes_alike forms table twin same history take people asked first.outcome second.outcome first.answer second.answer a b first.due second.due
    first.tells second.tells first.replied_is second.replied_is

pub due_alike : SetsHaveOneForm → OneMeaning → (columns : List Column) (public : PublicView) (protected : Protection) (secret twin : SecretView)
    → twin.shape ≡ secret.shape → (history : List Answered) (line : CountedLine) (a b : Replied Answered)
    → IsDue (base_of columns public protected secret) history line a → IsDue (base_of columns public protected twin) history line b →
    (a ≡ b) ⊎ AreAnswersAlike (secret_table secret protected) (secret_table twin protected) a b
due_alike forms meanings columns public protected secret twin same history line a b first second =
    replies_alike forms first.plan (secret_table secret protected) (secret_table twin protected)
    (ap (λ (shape : Shape). setting_of shape protected) same) history a b first.reply
    (subst (λ (p : Plan). IsReplyOf (secret_table twin protected) history p b)
    (one_plan meanings columns public line second.plan first.plan second.planned first.planned) second.reply)

-- two replies that tell equal answers are equal
pub equal_answers : EqualAnswersEqualReplies
equal_answers table twin a b alike value =
    let told = one_telling alike.take alike.people alike.first.answer alike.first.told alike.second.told alike.first.tells
    (subst (λ (z : ℤ). Tells alike.take alike.people z alike.second.told) (sym value) alike.second.tells) in
    let whole : Reply → ℤ → Replied Answered = λ r z. record {
      bytes = reply_bytes r;
      added =
          Some (record { column = alike.asked.column; rows = alike.asked.rows; answer = z });
    } in
    alike.first.replied_is ∙ ap (λ (r : Reply). whole r alike.first.answer) told ∙ ap (λ (z : ℤ). whole alike.second.told z) value ∙ sym alike.second.replied_is

pub one_due : SetsHaveOneForm → OneMeaning → OneReplyIsDue
one_due forms meanings base history line a b first second =
    ⊎_elim (λ same. same)
    (λ alike. equal_answers (table_in base) (table_in base) a b alike (alike.first.is_true ∙ sym alike.second.is_true))
    (due_alike forms meanings base.columns base.public base.protected base.secret base.secret refl history line a b first second)

pub decided_alike : SetsHaveOneForm → OneMeaning → DecidedAlike
decided_alike forms meanings base twin history line a b twins first second =
    subst (λ (other : Database). IsDue other history line b → (a ≡ b) ⊎ AreAnswersAlike (table_in base) (table_in other) a b) (sym twins.0)
    (due_alike forms meanings base.columns base.public base.protected base.secret twin.secret twins.1 history line a b first) second
