-- What every life over a table that lives keeps.
use Rattle.std.proofs.Common.{◌≡◌, ℕ, inl, inr, List, [], ◌∷◌, ◌++◌, take, refl, sym, ◌∙◌, ap, subst, append_assoc, arith}
use Rattle.std.proofs.lemmas.List.{append-nil}
use Rattle.audit_types.specs.declared.shapes.Shape.{Shape}
use Rattle.audit_types.specs.declared.records.Answered.{Answered}
use Rattle.audit_types.specs.Widening.{over, widened}
use Rattle.audit_types.specs.WideningLaws.{widened-widened, widened-append}
use Rattle.audit_types.specs.History.{IsLegal}
use Rattle.table_load.specs.Database.{Database, IsDatabase, table_in}
use Rattle.journal_form.specs.Journal.{StandsAt, StandsFor}
use Rattle.question_plan.specs.Session.{Replied, records_of, bytes_of, AreReplies}
use Rattle.question_plan.specs.Replies.{IsDue}
use Rattle.question_plan.specs.Laws.{RepliesKeepLegal}
use Rattle.audit_session.specs.HistoryFacts.{over_left}
use Rattle.audit_session.specs.Stops.{IsFront}
use Rattle.audit_session.specs.Lives.{Standing, Deed, serves, grows, Run, Makes, GoesFrom, Lead, KeepAll, shape_in, history_over, lines_of, over_all}

-- one file has one history
abbrev pub OneReading : Type 0
OneReading =
    (file : List ℕ) (shape other : Shape) (history others : List Answered) (gate place : ℕ) → StandsAt file shape history gate →
    StandsAt file other others place → (shape ≡ other) × (history ≡ others) × (gate ≡ place)

-- ---- fronts

all_front : {X : Type 0} (whole : List X) → IsFront whole whole
all_front whole = record { rest = []; is = sym (append-nil whole) }

pub front_front : {X : Type 0} (a b c : List X) → IsFront a b → IsFront b c → IsFront a c
front_front a b c first second =
    record { rest = first.rest ++ second.rest; is = second.is ∙ ap (λ l. l ++ second.rest) first.is ∙ append_assoc a first.rest second.rest }

widened_front : (n : ℕ) (a more : List Answered) → IsFront (widened n a) (widened n (a ++ more))
widened_front n a more = record { rest = widened n more; is = widened-append n a more }

-- ---- one run

-- each set of the history is over the rows in force
abbrev pub IsOver : Standing → Type 0
IsOver at = widened at.rows at.history ≡ at.history

-- what a run made of the history, and what it sent
pub record Step (deed : Deed) (at left : Standing) (sent : List ℕ) : Type 0 where
  pub count : ℕ
  pub replies : List (Replied Answered)
  pub due : AreReplies (IsDue left.base) at.history (take count (lines_of deed)) replies
  pub sent_is : IsFront sent (bytes_of replies)
  pub history_is : left.history ≡ widened left.rows (at.history ++ records_of replies)
  pub legal : IsLegal (table_in left.base) (history_over left.base left)

module _ (one : OneReading) (keep : RepliesKeepLegal) where
  -- a run over a table for which the history was legal
  step : (deed : Deed) (at left : Standing) (sent image : List ℕ) → IsDatabase left.base → IsOver at →
      IsLegal (table_in left.base) (history_over left.base at) → StandsFor image (shape_in left) left.history → Makes deed at left.base image sent →
      Step deed at left sent
  step (serves batch input) at left sent image database is_over legal stands makes =
      let base = left.base in
      let shape = base.secret.shape in
      let stop = makes.2 in
      let once = one image (over left.rows shape) shape left.history (at.history ++ records_of stop.replies) stands.0 stop.stands_for.0
      stands.1 stop.stands_for.1 in
      let rows : left.rows ≡ shape.rows = ap (λ (s : Shape). s.rows) once.0 in
      let own = over_left image (over left.rows shape) left.history stands in
      let here : IsLegal (table_in base) at.history =
      subst (λ (h : List Answered). IsLegal (table_in base) h) (ap (λ k. widened k at.history) (sym makes.1) ∙ is_over) legal in
      let then = keep base at.history _ stop.replies database here stop.due in
      record {
        count = _;
        replies = stop.replies;
        due = stop.due;
        sent_is = stop.so_far;
        history_is = sym own ∙ ap (widened left.rows) once.1;
        legal = subst (λ (h : List Answered). IsLegal (table_in base) h) (sym (ap (λ k. widened k left.history) (sym rows) ∙ own ∙ once.1)) then;
      }
  step grows at left sent image database is_over legal stands (same, made) =
      let base = left.base in
      let shape = base.secret.shape in
      let history : left.history ≡ widened left.rows at.history = elim made [
        | inl was ↦
            let once = one image (over left.rows shape) (over at.rows shape) left.history at.history stands.0 was.0 stands.1 was.1 in
            sym (over_left image (over left.rows shape) left.history stands) ∙ ap (widened left.rows) once.1
        | inr grown ↦
            let once = one image (over left.rows shape) shape left.history (widened shape.rows at.history) stands.0 grown.0 stands.1 grown.1 in
            once.1 ∙ ap (λ (s : Shape). widened s.rows at.history) (sym once.0)
      ] in
      record {
        count = 0;
        replies = [];
        due = tt;
        sent_is = record { rest = []; is = sym (append-nil sent ∙ same) };
        history_is = history ∙ ap (widened left.rows) (sym (append-nil at.history));
        legal = subst (λ (h : List Answered). IsLegal (table_in base) h)
            (sym (ap (widened shape.rows) history ∙ widened-widened left.rows shape.rows at.history)) legal;
      }

  -- ---- a life

  -- what stands at a moment of a life: each set is over the rows in force, and over all rows the history is legal
  pub record Stands (at : Standing) : Type 0 where
    pub is_over : IsOver at
    pub legal : IsLegal (table_in at.base) (history_over at.base at)

  pub run_step : (at : Standing) (run : Run) → Stands at → GoesFrom at run → Step run.deed at run.left run.sent
  run_step at run now goes = step run.deed at run.left run.sent goes.image goes.database now.is_over goes.legal goes.stands goes.makes

  pub stands_then : (at : Standing) (run : Run) → GoesFrom at run → Step run.deed at run.left run.sent → Stands run.left
  stands_then at run goes done =
      record { is_over = over_left goes.image (shape_in run.left) run.left.history goes.stands; legal = done.legal }

  -- a life loses nothing
  kept_by : (at : Standing) (run : Run) (last : Standing) (done : Step run.deed at run.left run.sent) →
      IsFront (widened last.rows run.left.history) last.history → IsFront (widened last.rows (at.history ++ records_of done.replies)) last.history
  kept_by at run last done rest =
      subst (λ (h : List Answered). IsFront h last.history)
      (ap (widened last.rows) done.history_is ∙ widened-widened run.left.rows last.rows (at.history ++ records_of done.replies)) rest

  pub first_in_last : (at : Standing) (runs : List Run) (last : Standing) → Stands at → Lead at runs last →
      IsFront (widened last.rows at.history) last.history
  first_in_last at [] last now lead =
      subst (λ (s : Standing). IsFront (widened s.rows at.history) s.history) (sym lead)
      (subst (λ (h : List Answered). IsFront h at.history) (sym now.is_over) (all_front at.history))
  first_in_last at (run ∷ runs) last now lead =
      let done = run_step at run now lead.0 in
      let rest = first_in_last run.left runs last (stands_then at run lead.0 done) lead.1 in
      front_front (widened last.rows at.history) (widened last.rows (at.history ++ records_of done.replies)) last.history
      (widened_front last.rows at.history (records_of done.replies)) (kept_by at run last done rest)

  pub all_kept : (at : Standing) (runs : List Run) (last : Standing) → Stands at → Lead at runs last → KeepAll at runs last
  all_kept at [] last now lead = tt
  all_kept at (run ∷ runs) last now lead =
      let done = run_step at run now lead.0 in
      let then = stands_then at run lead.0 done in
      let rest = first_in_last run.left runs last then lead.1 in (
        rest,
        record { count = done.count; replies = done.replies; due = done.due; sent = done.sent_is; kept = kept_by at run last done rest },
        all_kept run.left runs last then lead.1,
      )

  -- and its last history is legal
  pub last_stands : (at : Standing) (runs : List Run) (last : Standing) → Stands at → Lead at runs last → Stands last
  last_stands at [] last now lead = subst Stands (sym lead) now
  last_stands at (run ∷ runs) last now lead = last_stands run.left runs last (stands_then at run lead.0 (run_step at run now lead.0)) lead.1

  -- the empty history stands over every table
  pub fresh_stands : (base : Database) → Stands (over_all base [])
  fresh_stands base = record { is_over = refl; legal = record { few = omega arith; each = λ i r is. cc } }
