-- What files mean is one table, and what a run leaves that answered nothing.
use Rattle.std.proofs.Common.{◌≡◌, ℕ, ◌-◌, ◌*◌, List, [], ◌++◌, take, Result, Ok, IsOk, refl, sym, ◌∙◌, ap, subst, unwrap_or}
use Rattle.std.specs.Result.{result_ok}
use Rattle.std.proofs.Math.Nat.{zero-mul}
use Rattle.std.proofs.Math.Seq.{take-nil}
use Rattle.std.proofs.lemmas.List.{append-nil}
use Rattle.audit_types.specs.History.{Protection}
use Rattle.audit_types.specs.declared.records.Answered.{Answered}
use Rattle.audit_types.specs.declared.shapes.Shape.{Shape}
use Rattle.set_index.specs.Groups.{Protects, AreSound}
use Rattle.set_index.specs.Indexed.{OneListOfEntries}
use Rattle.schema_json.specs.Columns.{Column, Guards, SchemaView}
use Rattle.schema_json.specs.Reading.{schema_of}
use Rattle.schema_json.specs.declared.faults.SchemaFault.{SchemaFault}
use Rattle.table_load.specs.Cells.{PublicView, TableView, whole}
use Rattle.table_load.specs.Database.{Database, base_of}
use Rattle.table_load.specs.MeaningLaws.{means_read}
use Rattle.table_load.specs.Tables.{table_of}
use Rattle.journal_form.specs.Journal.{StandsFor, StandsAt}
use Rattle.bench_core.specs.Calls.{IsUntouched}
use Rattle.line_wire.specs.Lines.{CountedLine, counted_lines}
use Rattle.question_plan.specs.Session.{Replied, bytes_of, AreReplies, groups}
use Rattle.question_plan.specs.Replies.{IsDue}
use Rattle.audit_session.specs.Stops.{StopsOver}
use Rattle.audit_session.specs.Ends.{ServesSome}
use Rattle.auditor_top.specs.Commands.{AreFilesOf, AreSoundFilesOf, ServesOver}
use Rattle.auditor_top.specs.Ends.{StandsForWhat}

-- one file has one history
abbrev pub OneReading : Type 0
OneReading =
    (file : List ℕ) (shape other : Shape) (history others : List Answered) (gate place : ℕ) → StandsAt file shape history gate →
    StandsAt file other others place → (shape ≡ other) × (history ≡ others) × (gate ≡ place)

-- a good answer holds one value
pub same_ok : {X E : Type 0} (r : Result X E) (x y : X) → r ≡ Ok x → r ≡ Ok y → x ≡ y
same_ok r x y is other = ap (λ s. unwrap_or (result_ok s) x) (sym is ∙ other)

-- the files mean one schema and one table
same_files : (schema table : List ℕ) (a b : Database) (first : AreFilesOf schema table a) (second : AreFilesOf schema table b) →
    (◌≡◌ {A = SchemaView} (record { columns = a.columns; guards = first.guards }) (record { columns = b.columns; guards = second.guards })) ×
    (◌≡◌ {A = TableView} (record { public = whole a.public; secret = a.secret }) (record { public = whole b.public; secret = b.secret }))
same_files schema table a b first second =
    let one : ◌≡◌ {A = SchemaView} (record { columns = a.columns; guards = first.guards }) (record { columns = b.columns; guards = second.guards }) =
    same_ok (schema_of schema) _ _ first.schema_is second.schema_is in (
      one,
      same_ok (table_of b.columns table) _ _
          (subst (λ (v : SchemaView). table_of v.columns table ≡ Ok (record { public = whole a.public; secret = a.secret })) one (means_read first.table_means))
          (means_read second.table_means),
    )

-- so they have one secret part
pub one_secret : (schema table : List ℕ) (a b : Database) → AreFilesOf schema table a → AreFilesOf schema table b → a.secret ≡ b.secret
one_secret schema table a b first second = ap (λ (v : TableView). v.secret) (same_files schema table a b first second).1

-- and tables of theirs over groups without fault are one
pub one_base : OneListOfEntries → (schema table : List ℕ) (a b : Database) → AreSoundFilesOf schema table a → AreSoundFilesOf schema table b → a ≡ b
one_base law schema table a b first second =
    let same = same_files schema table a b first.files second.files in
    let own : Protects b.columns a.public second.files.guards a.protected =
    subst (λ (v : SchemaView). Protects v.columns a.public v.guards a.protected) same.0 first.entries in
    let part : a.public ≡ b.public = law.part b.columns a.public b.public second.files.guards a.protected b.protected
    (ap (λ (v : TableView). v.public) same.1) own second.entries in
    let kept : a.protected ≡ b.protected = law.one b.columns b.public second.files.guards a.protected b.protected
    (subst (λ (p : PublicView). Protects b.columns p second.files.guards a.protected) part own) second.entries in
    ap (λ (v : SchemaView). base_of v.columns a.public a.protected a.secret) same.0
    ∙ ap (λ (p : PublicView). base_of b.columns p a.protected a.secret) part
    ∙ ap (λ (v : TableView). base_of b.columns b.public a.protected v.secret) same.1 ∙ ap (λ (p : Protection). base_of b.columns b.public p b.secret) kept

-- the file has a history with these secrets, so that is the one that is served
pub same_given : OneReading → OneListOfEntries → (schema table file : List ℕ) (seen base : Database) (kept history : List Answered) (gate : ℕ)
    → AreSoundFilesOf schema table seen → StandsAt file seen.secret.shape kept gate → ServesOver schema table file base history →
    (seen ≡ base) × (kept ≡ history)
same_given one law schema table file seen base kept history gate are stands over = (
  one_base law schema table seen base are over.files,
  (one file seen.secret.shape base.secret.shape kept history gate over.stands.0 stands over.stands.1).1,
)

-- and what is said of the one is said of the other
pub carried : (P : Database → List Answered → Type 0) (seen base : Database) (kept history : List Answered) → (seen ≡ base) × (kept ≡ history) → P seen kept
    → P base history
carried P seen base kept history same holds =
    subst (λ (b : Database). P b history) same.0 (subst (λ (h : List Answered). P seen h) same.1 holds)

-- the files were read
pub schema_is_ok : (schema : List ℕ) (meant : SchemaView) → schema_of schema ≡ Ok meant → IsOk (schema_of schema)
schema_is_ok schema meant is = subst (λ (r : Result SchemaView SchemaFault). IsOk r) (sym is) refl

pub table_is_ok : {X E : Type 0} (meaning : List Column → Result X E) (schema : List ℕ) (read asked : SchemaView) (meant : X) → schema_of schema ≡ Ok read →
    meaning read.columns ≡ Ok meant → schema_of schema ≡ Ok asked → IsOk (meaning asked.columns)
table_is_ok {X} {E} meaning schema read asked meant is means also =
    subst (λ (v : SchemaView). IsOk (meaning v.columns)) (same_ok (schema_of schema) read asked is also) (subst (λ (r : Result X E). IsOk r) (sym means) refl)

-- and no group has a fault
pub groups_are_sound : OneListOfEntries → (schema : List ℕ) (columns : List Column) (public : PublicView) (guards : Guards) (protected : Protection)
    (asked : SchemaView) → schema_of schema ≡ Ok (record { columns = columns; guards = guards }) → Protects columns public guards protected →
    schema_of schema ≡ Ok asked → AreSound asked.columns asked.guards
groups_are_sound law schema columns public guards protected asked is entries also =
    subst (λ (v : SchemaView). AreSound v.columns v.guards) (same_ok (schema_of schema) _ asked is also) (law.sound columns public guards protected entries)

-- no group of lines has no replies
none_due : (base : Database) (batch : ℕ) (history : List Answered) (lines : List CountedLine) → AreReplies (IsDue base) history (groups batch 0 lines) []
none_due base batch history lines = subst (λ (ls : List CountedLine). AreReplies (IsDue base) history ls []) (sym (ap (λ n. take n lines) (zero-mul batch))) tt

-- no line was answered
pub nothing_served : (base : Database) (batch : ℕ) (history : List Answered) (input sent file : List ℕ) → StandsFor file base.secret.shape history →
    StandsForWhat file base (λ now. ServesSome base history batch (counted_lines input) now sent sent)
nothing_served base batch history input sent file stands = (
  history,
  record {
    count = 0;
    serves = record {
      replies = [];
      due = none_due base batch history (counted_lines input);
      history_is =
          sym (append-nil history);
      sent_is = sym (append-nil sent);
    };
  },
  stands,
)

-- a file that is left as it was is a stop before the first line
pub untouched_stops : (base : Database) (batch : ℕ) (history : List Answered) (lines : List CountedLine) (file before image sent : List ℕ) →
    StandsFor file base.secret.shape history → IsUntouched file before image sent → StopsOver base batch history lines before image sent
untouched_stops base batch history lines file before image sent stands same =
    let shape = base.secret.shape in (
      [],
      same.0 ∙ sym (append-nil before),
      record {
        count = 0;
        replies = [];
        due = none_due base batch history lines;
        stands_for =
            subst (λ (now : List Answered). StandsFor image shape now) (sym (append-nil history))
            (subst (λ (f : List ℕ). StandsFor f shape history) (sym same.1) stands);
        begun = record { rest = []; is = sym (ap (λ (rs : List (Replied Answered)). bytes_of rs ++ []) (take-nil ((0 - 1) * batch))) };
        so_far = record { rest = []; is = refl };
      },
    )
