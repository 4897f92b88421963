-- Secrets that give all answers of a life lead the same life.
--
-- Each record of a life is, over the rows of the last table, one of the last history. So secrets that agree with the last history make
-- each record true, and each reply is due over them too: a decision reads no secret, and an answer is the record's. What is public at each
-- run plays no part in it.
use Rattle.std.proofs.Common.{◌≡◌, ◌≢◌, ◌⊎◌, ◌==◌, ℕ, zero, suc, ◌<◌, ◌≤◌, ℤ, pos, inl, inr}
use Rattle.std.proofs.Common.{List, [], ◌∷◌, ◌++◌, map, length, take, get_or, refl, sym, ◌∙◌, ap, subst, arith}
use Rattle.std.specs.List.{AllByRecursion, filter}
use Rattle.std.proofs.lemmas.Bool.{eqb-true}
use Rattle.std.proofs.lemmas.Int.{ints, by_lt_z}
use Rattle.std.specs.Option.{option_to_list}
use Rattle.std.proofs.lemmas.Option.{slice_get_within, get_or_from_slice_get}
use Rattle.std.proofs.lemmas.List.{get_or-take}
use Rattle.std.proofs.lemmas.List.Elements.{All-map, filter_passes, recursion_from_All}
use Rattle.audit_types.specs.declared.shapes.Shape.{Shape}
use Rattle.audit_types.specs.declared.records.Asked.{Asked}
use Rattle.audit_types.specs.declared.records.Answered.{Answered}
use Rattle.audit_types.specs.Rows.{AreRows}
use Rattle.audit_types.specs.Shapes.{kind_at}
use Rattle.audit_types.specs.Truth.{number_at, truth}
use Rattle.audit_types.specs.GreatestLaws.{same_truth}
use Rattle.audit_types.specs.HistoryLaws.{own_answer}
use Rattle.audit_types.specs.ListLaws.{all_by_place, all-filter, all-get_or, all-map, all-unmap}
use Rattle.audit_types.specs.History.{Table, Secrets, AreSecrets, AgreeWithHistory, IsLegal, answer_in, list_of}
use Rattle.audit_types.specs.Widening.{over, wider, widened}
use Rattle.audit_types.specs.WideningLaws.{widened-append, widened-widened}
use Rattle.audit_core.specs.declared.outcome.Outcome.{Outcome}
use Rattle.audit_core.specs.declared.outcome.Outcome.TheVariants.{Answer, Denied, Full}
use Rattle.audit_core.specs.Outcomes.{IsOutcome, record_of}
use Rattle.table_load.specs.Database.{Database, IsDatabase, table_in}
use Rattle.journal_form.specs.Journal.{StandsFor}
use Rattle.line_wire.specs.Lines.{CountedLine}
use Rattle.question_plan.specs.declared.planning.Plan.{Plan}
use Rattle.question_plan.specs.declared.planning.Plan.TheVariants.{Ready, Ask}
use Rattle.question_plan.specs.Session.{Replied, records_of, AreReplies}
use Rattle.question_plan.specs.Replies.{IsDue, IsReplyOf}
use Rattle.question_plan.specs.Laws.{RepliesKeepLegal}
use Rattle.audit_session.specs.HistoryFacts.{rows_of_legal}
use Rattle.audit_session.specs.Stops.{IsFront}
use Rattle.audit_session.specs.Lives.{Standing, Deed, serves, grows, Run, Makes, Lead, Follows, over_all, shape_in, history_over}
use Rattle.audit_session.specs.Laws.{LivesStayLegal, AgreeingSecretsLeadAlike}
use Rattle.audit_session.specs.Hidden.{with_secrets, standing_with, run_with}
use Rattle.audit_session.proofs.GrowingLives.{OneReading, first_in_last, run_step, stands_then, fresh_stands, Stands}

-- ---- the first numbers of secrets

list_of_first : (m : ℕ) (lists : Secrets) (column : ℕ) → list_of (map (take m) lists) column ≡ take m (list_of lists column)
list_of_first zero [] column = refl
list_of_first (suc m) [] column = refl
list_of_first m (w ∷ lists) zero = refl
list_of_first m (w ∷ lists) (suc column) = list_of_first m lists column

-- below m the first m numbers are those of the lists
number_before : (m : ℕ) (lists : Secrets) (column j : ℕ) → j < m →
    number_at (list_of (map (take m) lists) column) j ≡ number_at (list_of lists column) j
number_before m lists column j lt = ap (λ w. number_at w j) (list_of_first m lists column) ∙ get_or-take m (list_of lists column) j (pos 0) lt

-- ---- what holds of each record

all_before : (P : Answered → Type 0) (a b : List Answered) → AllByRecursion P (a ++ b) → AllByRecursion P a
all_before P [] b all = tt
all_before P (x ∷ a) b all = (all.0, all_before P a b all.1)

all_behind : (P : Answered → Type 0) (a b : List Answered) → AllByRecursion P (a ++ b) → AllByRecursion P b
all_behind P [] b all = all
all_behind P (x ∷ a) b all = all_behind P a b all.1

all_both : (P Q : Answered → Type 0) (list : List Answered) → AllByRecursion P list → AllByRecursion Q list → AllByRecursion (λ r. P r × Q r) list
all_both P Q [] ps qs = tt
all_both P Q (r ∷ list) ps qs = ((ps.0, qs.0), all_both P Q list ps.1 qs.1)

-- a record is true of these secrets
abbrev IsTrueOf : Shape → Secrets → Answered → Type 0
IsTrueOf shape lists r = truth (kind_at shape r.column) (list_of lists r.column) r.rows.list ≡ r.answer

module _ (last : Standing) (legal : IsLegal (table_in last.base) (history_over last.base last)) (twin : Secrets)
    (agree : AgreeWithHistory (table_in last.base).setting (history_over last.base last) twin) where
  abbrev shape : Shape
  shape = last.base.secret.shape

  -- each record of the last history is true of the twin
  all_true : AllByRecursion (IsTrueOf shape twin) (history_over last.base last)
  all_true = all_by_place (IsTrueOf shape twin) (history_over last.base last) (λ i r here.
      own_answer (λ a. truth (kind_at shape r.column) (list_of twin r.column) a.rows ≡ a.value) r.column (history_over last.base last) i r
      (slice_get_within (history_over last.base last) i r here) (sym (get_or_from_slice_get (history_over last.base last) i r r here)) refl
      (agree r.column (legal.each i r here).fits.column_below).same)

  -- and so is each one that begins it
  true_in : (h : List Answered) → IsFront (widened last.rows h) last.history → AllByRecursion (IsTrueOf shape twin) h
  true_in h front =
      let n = shape.rows in
      let there : history_over last.base last ≡ widened n h ++ widened n front.rest =
      ap (widened n) front.is ∙ widened-append n (widened last.rows h) front.rest ∙ ap (λ l. l ++ widened n front.rest) (widened-widened last.rows n h) in
      all-unmap (wider n) (IsTrueOf shape twin) h
      (all_before (IsTrueOf shape twin) (widened n h) (widened n front.rest) (subst (AllByRecursion (IsTrueOf shape twin)) there all_true))

  -- ---- a run over a table of which these are the first numbers

  module _ (base : Database) (kinds : (column : ℕ) → kind_at base.secret.shape column ≡ kind_at last.base.secret.shape column) where
    -- a record has rows of the table, and is true of the twin
    abbrev Holds : Answered → Type 0
    Holds r = AreRows base.secret.shape.rows r.rows.list × IsTrueOf shape twin r

    -- so it is true of the secrets there
    true_here : (r : Answered) → Holds r →
        r.answer ≡ truth (kind_at base.secret.shape r.column) (list_of (map (take base.secret.shape.rows) twin) r.column) r.rows.list
    true_here r holds =
        sym holds.1 ∙ ap (λ kind. truth kind (list_of twin r.column) r.rows.list) (sym (kinds r.column))
        ∙ sym (same_truth (list_of (map (take base.secret.shape.rows) twin) r.column) (list_of twin r.column) base.secret.shape.rows
        (λ row lt. number_before base.secret.shape.rows twin r.column row lt) (kind_at base.secret.shape r.column) r.rows.list holds.0)

    -- what was legal is legal over them
    legal_there : (h : List Answered) → IsLegal (table_in base) h → AllByRecursion Holds h → IsLegal (table_in (with_secrets twin base)) h
    legal_there h was all = record {
      few = was.few;
      each = λ i r here. record {
        fits = (was.each i r here).fits;
        true_answer = true_here r (subst Holds (get_or_from_slice_get h i r r here) (all-get_or Holds h i r all (slice_get_within h i r here)));
        released = (was.each i r here).released;
      };
    }

    outcome_there : (h : List Answered) (asked : Asked) (outcome : Outcome) → IsOutcome (table_in base) h asked outcome →
        AllByRecursion Holds (option_to_list (record_of asked outcome)) → IsOutcome (table_in (with_secrets twin base)) h asked outcome
    outcome_there h asked Full due all = due
    outcome_there h asked (Denied verdict) due all = due
    outcome_there h asked (Answer answer) due all =
        (due.0, due.1, true_here (record { column = asked.column; rows = asked.rows; answer = answer }) all.0)

    reply_there : (h : List Answered) (plan : Plan) (replied : Replied Answered) → IsReplyOf (table_in base) h plan replied →
        AllByRecursion Holds (option_to_list replied.added) → IsReplyOf (table_in (with_secrets twin base)) h plan replied
    reply_there h (Ready answer) replied reply all = reply
    reply_there h (Ask take people asked) replied reply all =
        let added : replied.added ≡ record_of asked reply.outcome = ap (λ (r : Replied Answered). r.added) reply.replied_is in
        record {
          outcome = reply.outcome;
          due = outcome_there h asked reply.outcome reply.due (subst (λ a. AllByRecursion Holds (option_to_list a)) added all);
          answer = reply.answer;
          tells = reply.tells;
          replied_is = reply.replied_is;
        }

    replies_there : (h : List Answered) (lines : List CountedLine) (replies : List (Replied Answered)) → AreReplies (IsDue base) h lines replies →
        AllByRecursion Holds (records_of replies) → AreReplies (IsDue (with_secrets twin base)) h lines replies
    replies_there h [] [] are all = tt
    replies_there h [] (reply ∷ replies) are all = absurd are
    replies_there h (line ∷ lines) [] are all = absurd are
    replies_there h (line ∷ lines) (reply ∷ replies) are all = (
      record {
        plan = are.0.plan;
        planned = are.0.planned;
        reply = reply_there h are.0.plan reply are.0.reply (all_before Holds (option_to_list reply.added) (records_of replies) all);
      },
      replies_there (h ++ option_to_list reply.added) lines replies are.1 (all_behind Holds (option_to_list reply.added) (records_of replies) all),
    )

-- ---- a life

-- a table that comes after another has its columns
same_kinds : (base later : Database) → Follows base later → (column : ℕ) → kind_at base.secret.shape column ≡ kind_at later.secret.shape column
same_kinds base later follows column = ap (λ (s : Shape). kind_at s column) follows.columns

kinds_to : (at : Standing) (runs : List Run) (last : Standing) → Lead at runs last → (column : ℕ) →
    kind_at at.base.secret.shape column ≡ kind_at last.base.secret.shape column
kinds_to at [] last lead column = ap (λ (s : Standing). kind_at s.base.secret.shape column) (sym lead)
kinds_to at (run ∷ runs) last lead column = same_kinds at.base run.left.base lead.0.table column ∙ kinds_to run.left runs last lead.1 column

-- the table of a run has no more rows than the last one
pub rows_to : (at : Standing) (runs : List Run) (last : Standing) → Lead at runs last → at.base.secret.shape.rows ≤ last.base.secret.shape.rows
rows_to at [] last lead = omega (arith, ap (λ (s : Standing). s.base.secret.shape.rows) lead)
rows_to at (run ∷ runs) last lead = let rest = rows_to run.left runs last lead.1 in omega (arith, lead.0.table.rows, rest)

-- what comes after a run
pub from_run : (at : Standing) (before after : List Run) (run : Run) (last : Standing) → Lead at (before ++ run ∷ after) last → Lead run.left after last
from_run at [] after run last lead = lead.1
from_run at (first ∷ before) after run last lead = from_run first.left before after run last lead.1

-- of two numbers that differ one isn't this
pub differs_or : (x y z : ℤ) → x ≢ y → (x ≢ z) ⊎ (y ≢ z)
differs_or x y z differ =
    by_lt_z x z (λ less. inl (λ same. absurd (omega (arith, ints, less, same))))
    (λ ge. by_lt_z z x (λ less. inl (λ same. absurd (omega (arith, ints, less, same)))) (λ le. inr (λ same.
    let here : x ≡ z = omega (arith, ints, ge, le) in differ (here ∙ sym same))))

-- a table's own secrets give all answers of a history that is legal for it
pub agree_own : (table : Table) (history : List Answered) → AreSecrets table.setting.shape table.secrets → IsLegal table history →
    AgreeWithHistory table.setting history table.secrets
agree_own table history are legal column below =
    let shape = table.setting.shape in
    let own = filter (λ r. r.column == column) history in
    let all = all_by_place (IsTrueOf shape table.secrets) history (λ i r here. sym (legal.each i r here).true_answer) in
    record {
      one_each = all-get_or (λ w. length w ≡ shape.rows) table.secrets column [] are.numbers (omega (arith, are.one_each, below));
      same = recursion_from_All (λ a. truth (kind_at shape column) (list_of table.secrets column) a.rows ≡ a.value) (map answer_in own)
          (All-map (λ a. truth (kind_at shape column) (list_of table.secrets column) a.rows ≡ a.value) answer_in own (λ k r lt.
          subst (λ c. truth (kind_at shape c) (list_of table.secrets c) (get_or own k r).rows.list ≡ (get_or own k r).answer)
          (eqb-true (get_or own k r).column column (filter_passes (λ q. q.column == column) history k r lt))
          (all-get_or (IsTrueOf shape table.secrets) own k r (all-filter (IsTrueOf shape table.secrets) (λ q. q.column == column) history all) lt)));
    }

-- with these secrets it comes after it as it did
follows_there : (lists : Secrets) (base later : Database) → Follows base later → Follows (with_secrets lists base) (with_secrets lists later)
follows_there lists base later follows =
    record { rows = follows.rows; columns = follows.columns }

database_there : (lists : Secrets) (base : Database) → IsDatabase base → IsDatabase (with_secrets lists base)
database_there lists base is = record { schema = is.schema; shape = is.shape; protected = is.protected }

module _ (one : OneReading) (keep : RepliesKeepLegal) (last : Standing) (legal : IsLegal (table_in last.base) (history_over last.base last))
    (twin : Secrets) (agree : AgreeWithHistory (table_in last.base).setting (history_over last.base last) twin) where
  makes_there : (deed : Deed) (at left : Standing) (sent image : List ℕ) →
      ((column : ℕ) → kind_at left.base.secret.shape column ≡ kind_at last.base.secret.shape column) →
      IsLegal (table_in left.base) (history_over left.base left) → IsFront (widened last.rows left.history) last.history →
      StandsFor image (shape_in left) left.history → Makes deed at left.base image sent →
      Makes deed (standing_with twin at) (with_secrets twin left.base) image sent
  makes_there (serves batch input) at left sent image kinds left_legal front stands makes =
      let shape = left.base.secret.shape in
      let stop = makes.2 in
      let once = one image (over left.rows shape) shape left.history (at.history ++ records_of stop.replies) stands.0 stop.stands_for.0
      stands.1 stop.stands_for.1 in
      let rows = all-unmap (wider shape.rows) (λ r. AreRows shape.rows r.rows.list) left.history
      (rows_of_legal (table_in left.base) (history_over left.base left) left_legal) in
      let holds = all_both (λ r. AreRows shape.rows r.rows.list) (IsTrueOf last.base.secret.shape twin) left.history rows
      (true_in last legal twin agree left.history front) in
      let each = all_behind (Holds last legal twin agree left.base kinds) at.history (records_of stop.replies)
      (subst (AllByRecursion (Holds last legal twin agree left.base kinds)) once.1 holds) in (
        makes.0,
        makes.1,
        record {
          count = stop.count;
          replies = stop.replies;
          due = replies_there last legal twin agree left.base kinds at.history _ stop.replies stop.due each;
          stands_for = stop.stands_for;
          begun = stop.begun;
          so_far = stop.so_far;
        },
      )
  makes_there grows at left sent image kinds left_legal front stands makes = makes

  lead_there : (at : Standing) (runs : List Run) → Stands one keep at → Lead at runs last →
      Lead (standing_with twin at) (map (run_with twin) runs) (standing_with twin last)
  lead_there at [] now lead = ap (standing_with twin) lead
  lead_there at (run ∷ runs) now lead =
      let base = run.left.base in
      let n = base.secret.shape.rows in
      let then = stands_then one keep at run lead.0 (run_step one keep at run now lead.0) in
      let kinds = kinds_to run.left runs last lead.1 in
      let rows = rows_of_legal (table_in base) (history_over base at) lead.0.legal in
      let before = true_in last legal twin agree at.history (first_in_last one keep at (run ∷ runs) last now lead) in
      let true_before : AllByRecursion (IsTrueOf last.base.secret.shape twin) (history_over base at) =
      all-map (wider n) (IsTrueOf last.base.secret.shape twin) at.history before in
      let holds = all_both (λ r. AreRows n r.rows.list) (IsTrueOf last.base.secret.shape twin) (history_over base at) rows true_before in (
        record {
          database = database_there twin base lead.0.database;
          table = follows_there twin at.base base lead.0.table;
          legal = legal_there last legal twin agree base kinds (history_over base at) lead.0.legal holds;
          image = lead.0.image;
          stands = lead.0.stands;
          makes = makes_there run.deed at run.left run.sent lead.0.image kinds then.legal (first_in_last one keep run.left runs last then lead.1)
              lead.0.stands lead.0.makes;
        },
        lead_there run.left runs then lead.1,
      )

-- secrets that give every answer of a life lead it
pub leads_alike : OneReading → RepliesKeepLegal → LivesStayLegal → AgreeingSecretsLeadAlike
leads_alike one keep stays base runs last lists life agree =
    lead_there one keep last (stays base runs last life) lists agree (over_all base []) runs (fresh_stands one keep base) life
