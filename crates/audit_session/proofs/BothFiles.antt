-- What a crash leaves of both files if a call of one of them failed while a group was answered.
use Rattle.std.proofs.Common.{◌≡◌, ℕ, ◌≤◌, List, ◌++◌, sym, ap, subst, ◌∙◌, inl, inr, ⊎_elim}
use Rattle.std.specs.Prelude.{All}
use Rattle.std.specs.List.{flat_map}
use Rattle.std.proofs.lemmas.List.{append-nil}
use Rattle.audit_types.specs.History.{Protection}
use Rattle.audit_types.specs.declared.records.Answered.{Answered}
use Rattle.audit_core.specs.Outcomes.{records_made}
use Rattle.table_load.specs.Cells.{SecretView, IsSecret}
use Rattle.table_load.specs.Database.{secret_table}
use Rattle.bench_core.specs.declared.bench.Bench.{Ghosts}
use Rattle.bench_core.specs.Bench.{AppendsFront}
use Rattle.bench_core.specs.Calls.{IsQuiet, LeavesOnly}
use Rattle.audit_store.specs.Stores.{KeptAhead}
use Rattle.line_wire.specs.Reply.{reply_bytes}
use Rattle.line_wire.specs.declared.reply.Reply.{Reply}
use Rattle.question_plan.specs.declared.planning.Plan.{Plan}
use Rattle.question_plan.specs.Session.{records_of}
use Rattle.question_plan.specs.Replies.{IsReplyOf}
use Rattle.question_plan.specs.Plans.{CanBeServed}
use Rattle.question_plan.specs.Laws.{OutcomesCanBeTold, SomeReplyTells}
use Rattle.audit_session.specs.Groups.{BothInGroup, DecidesGroup, UnsentInGroup, questions_of, stands_of}
use Rattle.audit_session.proofs.Planned.{replies_to, replies_are, records_are}
use Rattle.audit_session.proofs.ToldPlans.{can_all, some_replies}
use Rattle.audit_session.proofs.Sending.{SendsPart}

module _ {B E : Type 0} (bench : Ghosts B) (spare : Ghosts E) (old new : B) (spare_old spare_new : E) (secret : SecretView) (protected : Protection)
    (history : List Answered) (plans : List Plan) where
  abbrev Both : List ℕ → List ℕ → Type 0
  Both image other =
      BothInGroup (IsReplyOf (secret_table secret protected)) (stands_of secret.shape) history plans (bench.sent old) (bench.sent new) image other

  -- an image of a bench that wasn't called
  uncalled : {C : Type 0} (any : Ghosts C) (at now : C) → now ≡ at → IsQuiet any at → stands_of secret.shape (any.file at) history → (image : List ℕ)
      → any.leaves now image → stands_of secret.shape image history
  uncalled any at now same quiet stands image left =
      subst (λ (i : List ℕ). stands_of secret.shape i history) (sym (quiet image (subst (λ b. any.leaves b image) same left))) stands

  pub neither_called : IsQuiet bench old → IsQuiet spare spare_old → stands_of secret.shape (bench.file old) history
      → stands_of secret.shape (spare.file spare_old) history
      → new ≡ old → spare_new ≡ spare_old → (image other : List ℕ) → bench.leaves new image → spare.leaves spare_new other → Both image other
  neither_called quiet spare_quiet stands spare_stands same spare_same image other left spare_left =
      inl (
        ap bench.sent same,
        uncalled bench old new same quiet stands image left,
        uncalled spare spare_old spare_new spare_same spare_quiet spare_stands other spare_left,
      )

  pub spare_call_failed : IsQuiet bench old → stands_of secret.shape (bench.file old) history → new ≡ old
      → LeavesOnly spare spare_old spare_new (UnsentInGroup (IsReplyOf (secret_table secret protected)) (stands_of secret.shape) history plans
      (spare.sent spare_old))
      → ((image : List ℕ) → spare.moment spare_old ≤ spare.moment spare_new → spare.leaves spare_new image →
      spare.since spare_new (spare.moment spare_old) image (spare.sent spare_new))
      → (image other : List ℕ) → bench.leaves new image → spare.leaves spare_new other → Both image other
  spare_call_failed quiet stands same moments here image other left spare_left =
      by (moments.each other (spare.sent spare_new) (here other moments.later spare_left))
    where
      stood : stands_of secret.shape image history
      stood = uncalled bench old new same quiet stands image left

      by : UnsentInGroup (IsReplyOf (secret_table secret protected)) (stands_of secret.shape) history plans (spare.sent spare_old) other (spare.sent spare_new)
          → Both image other
      by (unsent, inl found) = inl (ap bench.sent same, stood, found.1)
      by (unsent, inr found) = inr (found.0, found.1, found.2, inl (ap bench.sent same, stood))

  pub bench_call_failed : OutcomesCanBeTold → SomeReplyTells → IsSecret secret → All (CanBeServed secret.shape) plans → bench.sent new ≡ bench.sent old
      → IsQuiet spare spare_new
      → ((image : List ℕ) → bench.leaves new image → KeptAhead (spare.file spare_new) image (secret_table secret protected) history (questions_of plans))
      → (image other : List ℕ) → bench.leaves new image → spare.leaves spare_new other → Both image other
  bench_call_failed can some is served same spare_quiet aheads image other left spare_left =
      let ahead = aheads image left in
      let told = some_replies some plans ahead.outcomes (can_all can secret protected is history plans ahead.outcomes served ahead.due) in
      let replies = replies_to plans ahead.outcomes told.0 in
      let records = sym (records_are plans ahead.outcomes told.0 told.1) in
      inr (
        replies,
        replies_are (secret_table secret protected) history plans ahead.outcomes told.0 ahead.due told.1,
        subst (λ (i : List ℕ). stands_of secret.shape i (history ++ records_of replies)) (sym (spare_quiet other spare_left))
            (subst (λ (l : List Answered). stands_of secret.shape (spare.file spare_new) (history ++ l)) records ahead.spare_stands),
        ⊎_elim (λ (stands : stands_of secret.shape image history). inl (same, stands))
            (λ (stands : stands_of secret.shape image (history ++ records_made (questions_of plans) ahead.outcomes)).
            inr (subst (λ (l : List Answered). stands_of secret.shape image (history ++ l)) records stands, (0, same ∙ sym (append-nil (bench.sent old)))))
            ahead.image_stands,
      )

  pub sends_failed : (mid : B) (now : List Answered) (told : List Reply) → DecidesGroup bench old mid (secret_table secret protected) history now plans told
      → bench.sent mid ≡ bench.sent old
      → stands_of secret.shape (bench.file mid) now → IsQuiet spare spare_new → stands_of secret.shape (spare.file spare_new) now
      → LeavesOnly bench mid new (SendsPart (bench.file mid) (bench.sent mid) (flat_map reply_bytes told))
      → ((image : List ℕ) → bench.moment mid ≤ bench.moment new → bench.leaves new image → bench.since new (bench.moment mid) image (bench.sent new))
      → (image other : List ℕ) → bench.leaves new image → spare.leaves spare_new other → Both image other
  sends_failed mid now told decides nothing_sent stands spare_quiet spare_stands sends here image other left spare_left =
      let found = sends.each image (bench.sent new) (here image sends.later left) in
      inr (
        decides.replies,
        decides.due,
        subst (λ (i : List ℕ). stands_of secret.shape i (history ++ records_of decides.replies)) (sym (spare_quiet other spare_left))
            (subst (λ (h : List Answered). stands_of secret.shape (spare.file spare_new) h) decides.history_is spare_stands),
        inr (
          subst (λ (i : List ℕ). stands_of secret.shape i (history ++ records_of decides.replies)) (sym found.0)
              (subst (λ (h : List Answered). stands_of secret.shape (bench.file mid) h) decides.history_is stands),
          subst (λ (l : List ℕ). AppendsFront (bench.sent old) l (bench.sent new)) (sym decides.bytes_are)
              (subst (λ (l : List ℕ). AppendsFront l (flat_map reply_bytes told) (bench.sent new)) nothing_sent found.1),
        ),
      )
