-- A group was decided, and then sent.
use Rattle.std.proofs.Common.{◌≡◌, ℕ, ◌+◌, List, [], ◌∷◌, ◌++◌, length, take, refl, sym, ◌∙◌, ap, subst, arith, inl, inr, ⊎_elim, ◌⊎◌}
use Rattle.std.specs.Prelude.{All, IsErrOf, Err}
use Rattle.std.specs.List.{flat_map}
use Rattle.std.proofs.lemmas.List.{append-nil}
use Rattle.audit_types.specs.History.{Protection}
use Rattle.audit_types.specs.declared.records.Answered.{Answered}
use Rattle.audit_core.specs.declared.outcome.Outcome.{Outcome}
use Rattle.audit_core.specs.Outcomes.{AreOutcomes, records_made}
use Rattle.bench_core.specs.declared.bench.Bench.{Ghosts}
use Rattle.bench_core.specs.Bench.{AppendsFront}
use Rattle.bench_core.specs.Calls.{IsQuiet, LeavesOnly}
use Rattle.bench_core.specs.Moments.{started, weakens, joins}
use Rattle.bench_core.specs.Stops.{IsOfBenches}
use Rattle.bench_core.specs.declared.stops.Stop.{Stop}
use Rattle.bench_core.specs.declared.stops.Stop.TheVariants.{Bench, Spare, NoMemory}
use Rattle.table_load.specs.Cells.{SecretView, IsSecret}
use Rattle.table_load.specs.Database.{secret_table}
use Rattle.journal_form.specs.Journal.{StandsFor}
use Rattle.audit_store.specs.Stores.{StoreContents, IsAsLeft, Keeps, calls_for}
use Rattle.line_wire.specs.Reply.{reply_bytes}
use Rattle.line_wire.specs.declared.reply.Reply.{Reply}
use Rattle.question_plan.specs.declared.planning.Plan.{Plan}
use Rattle.question_plan.specs.declared.planning.Plan.TheVariants.{Ready, Ask}
use Rattle.question_plan.specs.Session.{records_of}
use Rattle.question_plan.specs.Replies.{IsReplyOf}
use Rattle.question_plan.specs.Plans.{CanBeServed}
use Rattle.question_plan.specs.Laws.{OutcomesCanBeTold, SomeReplyTells}
use Rattle.audit_session.specs.Groups.{AnswersGroup, AreTold, DecidesGroup, InGroup, UnsentInGroup, questions_of, stands_of}
use Rattle.audit_session.proofs.Planned.{replies_to, replies_are, records_are, bytes_are}
use Rattle.audit_session.proofs.ToldPlans.{can_all, some_replies}
use Rattle.audit_session.proofs.Sending.{SendsPart}

-- a refusal is for lack of memory, or another
pub by_memory : {X Claim : Type 0} (why : Stop) → (IsErrOf {T = X} (Err why) NoMemory → Claim) → ((IsErrOf {T = X} (Err why) NoMemory → ⊥) → Claim) → Claim
by_memory NoMemory same other = same refl
by_memory {X} why same other = other (λ (is : IsErrOf {T = X} (Err why) NoMemory). cc)

-- one of two benches is one of three
pub by_kind : {X Claim : Type 0} (why : Stop) → IsOfBenches why → (IsErrOf {T = X} (Err why) NoMemory → Claim)
    → (IsErrOf {T = X} (Err why) Bench → Claim) → (IsErrOf {T = X} (Err why) Spare → Claim) → Claim
by_kind NoMemory is memory bench spare = memory refl
by_kind Bench is memory bench spare = bench refl
by_kind Spare is memory bench spare = spare refl
by_kind why is memory bench spare = absurd is

-- one reply was told for each plan
length-told : (plans : List Plan) (outcomes : List Outcome) (told : List Reply) → AreTold plans outcomes told → length told ≡ length plans
length-told [] [] [] tells = refl
length-told [] [] (reply ∷ told) tells = absurd tells
length-told [] (outcome ∷ outcomes) told tells = absurd tells
length-told (Ready answer ∷ plans) outcomes [] tells = absurd tells
length-told (Ask take people asked ∷ plans) outcomes [] tells = absurd tells
length-told (Ready answer ∷ plans) outcomes (reply ∷ told) tells = omega (arith, length-told plans outcomes told tells.1)
length-told (Ask take people asked ∷ plans) [] (reply ∷ told) tells = absurd tells
length-told (Ask take people asked ∷ plans) (outcome ∷ outcomes) (reply ∷ told) tells = omega (arith, length-told plans outcomes told tells.1)

module _ {B : Type 0} (bench : Ghosts B) (old mid : B) (secret : SecretView) (protected : Protection) (history : List Answered) (plans : List Plan) where
  -- the outcomes were told
  pub told_group : (now : List Answered) (outcomes : List Outcome) (told : List Reply)
      → AreOutcomes (secret_table secret protected) history (questions_of plans) outcomes
      → AreTold plans outcomes told
      → now ≡ history ++ records_made (questions_of plans) outcomes →
      (bench.told → bench.moment mid ≡ bench.moment old + calls_for (records_made (questions_of plans) outcomes))
      → DecidesGroup bench old mid (secret_table secret protected) history now plans told
  told_group now outcomes told are tells history_is calls =
      let records = records_are plans outcomes told tells in
      record {
        replies = replies_to plans outcomes told;
        due = replies_are (secret_table secret protected) history plans outcomes told are tells;
        history_is = history_is ∙ ap (λ (l : List Answered). history ++ l) (sym records);
        bytes_are = bytes_are plans outcomes told tells;
        many = length-told plans outcomes told tells;
        calls = λ t. subst (λ (l : List Answered). bench.moment mid ≡ bench.moment old + calls_for l) (sym records) (calls t);
      }

  -- what a crash finds while they are kept
  in_group : OutcomesCanBeTold → SomeReplyTells → IsSecret secret → All (CanBeServed secret.shape) plans → (before : List ℕ)
      → (keeps : Keeps bench old mid (secret_table secret protected) history (questions_of plans) before) → (image bytes : List ℕ)
      → (bytes ≡ before) × (StandsFor image secret.shape history ⊎ StandsFor image secret.shape (history ++ records_made (questions_of plans) keeps.outcomes))
      → InGroup (IsReplyOf (secret_table secret protected)) (stands_of secret.shape) history plans before image bytes
  in_group can some is served before keeps image bytes found =
      let told = some_replies some plans keeps.outcomes (can_all can secret protected is history plans keeps.outcomes served keeps.due) in
      let replies = replies_to plans keeps.outcomes told.0 in
      ⊎_elim (λ (stands : StandsFor image secret.shape history). inl (found.0, stands))
      (λ (stands : StandsFor image secret.shape (history ++ records_made (questions_of plans) keeps.outcomes)).
      inr (
        replies,
        replies_are (secret_table secret protected) history plans keeps.outcomes told.0 keeps.due told.1,
        subst (λ (l : List Answered). StandsFor image secret.shape (history ++ l)) (sym (records_are plans keeps.outcomes told.0 told.1)) stands,
        (0, found.0 ∙ sym (append-nil before)),
      ))
      found.1

  pub while_kept : OutcomesCanBeTold → SomeReplyTells → IsSecret secret → All (CanBeServed secret.shape) plans → (before : List ℕ)
      → Keeps bench old mid (secret_table secret protected) history (questions_of plans) before
      → LeavesOnly bench old mid (InGroup (IsReplyOf (secret_table secret protected)) (stands_of secret.shape) history plans before)
  while_kept can some is served before keeps = weakens bench old mid _ _ (in_group can some is served before keeps) keeps.moments

  -- the same of a spare
  pub while_kept_unsent : OutcomesCanBeTold → SomeReplyTells → IsSecret secret → All (CanBeServed secret.shape) plans → (before : List ℕ)
      → Keeps bench old mid (secret_table secret protected) history (questions_of plans) before
      → LeavesOnly bench old mid (UnsentInGroup (IsReplyOf (secret_table secret protected)) (stands_of secret.shape) history plans before)
  while_kept_unsent can some is served before keeps =
      weakens bench old mid _ _ (λ image bytes found. (
        found.0,
        subst (λ (b : List ℕ). InGroup (IsReplyOf (secret_table secret protected)) (stands_of secret.shape) history plans before image b) found.0
            (in_group can some is served before keeps image bytes found),
      )) keeps.moments

  -- if nothing was called
  pub nothing_called : mid ≡ old → ((image bytes : List ℕ) → bench.since old (bench.moment old) image bytes → bench.leaves old image × (bytes ≡ bench.sent old))
      → IsQuiet bench old → stands_of secret.shape (bench.file old) history
      → LeavesOnly bench old mid (InGroup (IsReplyOf (secret_table secret protected)) (stands_of secret.shape) history plans (bench.sent old))
  nothing_called same only_now quiet stands =
      subst (λ (b : B). LeavesOnly bench old b (InGroup (IsReplyOf (secret_table secret protected)) (stands_of secret.shape) history plans
      (bench.sent old))) (sym same)
      (started bench old _ (λ image bytes was.
      let found = only_now image bytes was in
      inl (found.1, subst (λ (i : List ℕ). stands_of secret.shape i history) (sym (quiet image found.0)) stands)))

  pub nothing_called_unsent : mid ≡ old
      → ((image bytes : List ℕ) → bench.since old (bench.moment old) image bytes → bench.leaves old image × (bytes ≡ bench.sent old))
      → IsQuiet bench old → stands_of secret.shape (bench.file old) history
      → LeavesOnly bench old mid (UnsentInGroup (IsReplyOf (secret_table secret protected)) (stands_of secret.shape) history plans (bench.sent old))
  nothing_called_unsent same only_now quiet stands =
      subst (λ (b : B). LeavesOnly bench old b (UnsentInGroup (IsReplyOf (secret_table secret protected)) (stands_of secret.shape) history plans
      (bench.sent old))) (sym same)
      (started bench old _ (λ image bytes was.
      let found = only_now image bytes was in
      (found.1, inl (refl, subst (λ (i : List ℕ). stands_of secret.shape i history) (sym (quiet image found.0)) stands))))

  -- and then their replies are sent
  module _ (now : List Answered) (told : List Reply) (decides : DecidesGroup bench old mid (secret_table secret protected) history now plans told)
      (nothing_sent : bench.sent mid ≡ bench.sent old) where
    pub then_sent : (new : B) → stands_of secret.shape (bench.file mid) now
        → LeavesOnly bench old mid (InGroup (IsReplyOf (secret_table secret protected)) (stands_of secret.shape) history plans (bench.sent old))
        → LeavesOnly bench mid new (SendsPart (bench.file mid) (bench.sent mid) (flat_map reply_bytes told)) →
        LeavesOnly bench old new (InGroup (IsReplyOf (secret_table secret protected)) (stands_of secret.shape) history plans (bench.sent old))
    then_sent new stands first sends =
        joins bench old mid new _ first (weakens bench mid new _ _ (λ image bytes found.
        inr (
          decides.replies,
          decides.due,
          subst (λ (i : List ℕ). stands_of secret.shape i (history ++ records_of decides.replies)) (sym found.0)
              (subst (λ (h : List Answered). stands_of secret.shape (bench.file mid) h) decides.history_is stands),
          subst (λ (l : List ℕ). AppendsFront (bench.sent old) l bytes) (sym decides.bytes_are)
              (subst (λ (l : List ℕ). AppendsFront l (flat_map reply_bytes told) bytes) nothing_sent found.1),
        )) sends)

    pub group_answered : (new : B) → (bench.told → bench.sent new ≡ bench.sent mid ++ flat_map reply_bytes told) →
        (bench.told → bench.moment new ≡ bench.moment mid + length told) → AnswersGroup bench old new (secret_table secret protected) history now plans
    group_answered new all ticks = record {
      replies = decides.replies;
      due = decides.due;
      history_is = decides.history_is;
      sent_is =
          λ t. all t ∙ ap (λ (l : List ℕ). l ++ flat_map reply_bytes told) nothing_sent ∙ ap (λ (l : List ℕ). bench.sent old ++ l) (sym decides.bytes_are);
      calls = λ t. omega (arith, ticks t, decides.calls t, decides.many);
    }

-- the file of a store that was left stands for its history
pub left_stands : (file : List ℕ) (before after : StoreContents) → IsAsLeft file after → after.secret ≡ before.secret →
    stands_of before.secret.shape file after.history
left_stands file before after left same = subst (λ (s : SecretView). stands_of s.shape file after.history) same (after.journal.gate, left)
