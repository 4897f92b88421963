-- Answering lines keeps a history legal.
use Rattle.std.proofs.Common.{◌≡◌, ℕ, List, [], ◌∷◌, ◌++◌, Option, None, refl, sym, ap, subst, append_assoc}
use Rattle.std.specs.Option.{option_to_list}
use Rattle.std.proofs.lemmas.List.{append-nil}
use Rattle.audit_types.specs.declared.records.Asked.{Asked}
use Rattle.audit_types.specs.declared.records.Answered.{Answered}
use Rattle.audit_types.specs.declared.shapes.Shape.{Shape}
use Rattle.audit_types.specs.History.{IsLegal, FitsShape}
use Rattle.audit_core.specs.declared.outcome.Outcome.{Outcome}
use Rattle.audit_core.specs.declared.outcome.Outcome.TheVariants.{Answer, Denied, Full}
use Rattle.audit_core.specs.Outcomes.{IsOutcome, record_of}
use Rattle.audit_core.specs.Laws.{LegalGrows}
use Rattle.schema_json.specs.SecretShape.{PlacesAreColumns}
use Rattle.table_load.specs.Database.{Database, IsDatabase, table_in}
use Rattle.line_wire.specs.Lines.{CountedLine}
use Rattle.line_wire.specs.declared.question.Take.{Take}
use Rattle.question_plan.specs.declared.planning.Plan.{Plan}
use Rattle.question_plan.specs.declared.planning.Plan.TheVariants.{Ready, Ask}
use Rattle.question_plan.specs.Session.{Replied, records_of, AreReplies}
use Rattle.question_plan.specs.Replies.{IsDue, IsPlan, IsReplyOf}
use Rattle.question_plan.proofs.AskedFit.{plan_fits}

module _ (grows : LegalGrows) (places : PlacesAreColumns) (base : Database) (is_base : IsDatabase base) where
  -- an outcome's record keeps the history legal
  outcome_keeps : (history : List Answered) (asked : Asked) (outcome : Outcome) → FitsShape base.secret.shape asked.column asked.rows
      → IsLegal (table_in base) history → IsOutcome (table_in base) history asked outcome
      → IsLegal (table_in base) (history ++ option_to_list (record_of asked outcome))
  outcome_keeps history asked Full fit legal due = subst (IsLegal (table_in base)) (sym (append-nil history)) legal
  outcome_keeps history asked (Denied verdict) fit legal due = subst (IsLegal (table_in base)) (sym (append-nil history)) legal
  outcome_keeps history asked (Answer answer) fit legal due =
      grows (table_in base) history (record { column = asked.column; rows = asked.rows; answer = answer }) legal due.0
      (record { fits = fit; true_answer = due.2; released = due.1 })

  -- a reply that makes no record does
  only_keeps : (history : List Answered) (replied : Replied Answered) (added : Option Answered) → replied.added ≡ added →
      IsLegal (table_in base) (history ++ option_to_list added) → IsLegal (table_in base) (history ++ option_to_list replied.added)
  only_keeps history replied added is legal = subst (λ (a : Option Answered). IsLegal (table_in base) (history ++ option_to_list a)) (sym is) legal

  nothing_keeps : (history : List Answered) (replied : Replied Answered) → replied.added ≡ None → IsLegal (table_in base) history →
      IsLegal (table_in base) (history ++ option_to_list replied.added)
  nothing_keeps history replied none legal = only_keeps history replied None none (subst (IsLegal (table_in base)) (sym (append-nil history)) legal)

  -- so does the reply of a plan
  reply_keeps : (plan : Plan) (history : List Answered) (replied : Replied Answered)
      → ((take : Take) (people : ℕ) (asked : Asked) → plan ≡ Ask take people asked → FitsShape base.secret.shape asked.column asked.rows)
      → IsLegal (table_in base) history
      → IsReplyOf (table_in base) history plan replied → IsLegal (table_in base) (history ++ option_to_list replied.added)
  reply_keeps (Ready answer) history replied fit legal reply = nothing_keeps history replied (ap (λ (r : Replied Answered). r.added) reply) legal
  reply_keeps (Ask take people asked) history replied fit legal reply =
      only_keeps history replied (record_of asked reply.outcome) (ap (λ (r : Replied Answered). r.added) reply.replied_is)
      (outcome_keeps history asked reply.outcome (fit take people asked refl) legal reply.due)

  due_keeps : (history : List Answered) (line : CountedLine) (replied : Replied Answered) → IsLegal (table_in base) history →
      IsDue base history line replied → IsLegal (table_in base) (history ++ option_to_list replied.added)
  due_keeps history line replied legal due =
      reply_keeps due.plan history replied
      (λ take people asked is. subst (λ (s : Shape). FitsShape s asked.column asked.rows) (sym is_base.shape)
      (plan_fits places base.columns is_base.schema base.public line take people asked
      (subst (λ (p : Plan). IsPlan base.columns base.public line p) is due.planned)))
      legal due.reply

  -- and those to all lines
  pub replies_keep : (history : List Answered) (lines : List CountedLine) (replies : List (Replied Answered)) → IsLegal (table_in base) history →
      AreReplies (IsDue base) history lines replies → IsLegal (table_in base) (history ++ records_of replies)
  replies_keep history [] [] legal are = subst (IsLegal (table_in base)) (sym (append-nil history)) legal
  replies_keep history [] (reply ∷ replies) legal are = absurd are
  replies_keep history (line ∷ lines) [] legal are = absurd are
  replies_keep history (line ∷ lines) (reply ∷ replies) legal are =
      subst (IsLegal (table_in base)) (append_assoc history (option_to_list reply.added) (records_of replies))
      (replies_keep (history ++ option_to_list reply.added) lines replies (due_keeps history line reply legal are.0) are.1)
