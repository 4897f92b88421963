-- A life with one run more.
use Rattle.std.proofs.Common.{◌≡◌, ◌≢◌, ℕ, inl, inr, List, [], ◌∷◌, ◌++◌, Bool, true, false, Option, Some}
use Rattle.std.proofs.Common.{refl, sym, ◌∙◌, ap, subst}
use Rattle.std.proofs.lemmas.List.{append_cancel_left, append-nil}
use Rattle.audit_types.specs.declared.records.Answered.{Answered}
use Rattle.audit_types.specs.History.{IsLegal}
use Rattle.bench_core.specs.declared.bench.Bench.{Ghosts}
use Rattle.bench_core.specs.declared.source.Source as source
use Rattle.bench_core.specs.Calls.{IsQuiet}
use Rattle.table_load.specs.Database.{Database, table_in}
use Rattle.journal_form.specs.Journal.{StandsFor}
use Rattle.audit_types.specs.Widening.{over}
use Rattle.answer_journal.specs.Moments.{IsBeforeOrGrown}
use Rattle.line_wire.specs.Lines.{counted_lines}
use Rattle.question_plan.specs.Replies.{IsDue}
use Rattle.audit_session.specs.HistoryFacts.{fronts_meet, over_own}
use Rattle.audit_session.specs.Stops.{IsBatch, IsFront, Stop, StopsOver, stands_over}
use Rattle.audit_session.specs.Lives.{Standing, Follows, serves, grows, Run, GoesFrom, Lead, IsLife, shape_in}
use Rattle.twin_journal.specs.Twins.{CatchesUpOrStops}
use Rattle.auditor_top.specs.declared.status.Status.{Status}
use Rattle.auditor_top.specs.declared.words.Command.{Command}
use Rattle.auditor_top.specs.declared.words.Command.TheVariants.{Serve, Grow}
use Rattle.auditor_top.specs.Commands.{AreSoundFilesOf, GoesOnOver, TwinsOver, deed_of}
use Rattle.auditor_top.specs.Promise.{GoesOn, RunsMakeLives}
use Rattle.auditor_top.specs.Ends.{Outside}
use Rattle.auditor_top.specs.Twins.{LeavesTwins}
use Rattle.auditor_top.specs.Runs.{Objects, Does}
use Rattle.auditor_top.proofs.OneTable.{OneReading, untouched_stops}

pub lead_push : (at : Standing) (runs : List Run) (mid : Standing) (run : Run) → Lead at runs mid → GoesFrom mid run →
    Lead at (runs ++ run ∷ []) run.left
lead_push at [] mid run lead goes = (subst (λ (s : Standing). GoesFrom s run) lead goes, refl)
lead_push at (before ∷ runs) mid run lead goes = (lead.0, lead_push before.left runs mid run lead.1 goes)

-- `serve` isn't `grow`, which reads no lines
serves_lines : (batch : ℕ) (twin : Bool) → Serve batch twin ≢ Grow
serves_lines batch twin is = cc

module _ {P I B : Type 0} (files : source.Ghosts P) (lines : source.Ghosts I) (bench : Ghosts B) (old : Objects P I B) (longer : RunsMakeLives) (at : Standing)
    (first : Database) (runs : List Run) (life : IsLife first runs at) (image sent : List ℕ) (left : Standing)
    (stands : StandsFor image (shape_in left) left.history) where
  abbrev before : List ℕ
  before = bench.sent old.bench

  -- the life goes on with a stop of the answers to lines
  stops_on : (batch : ℕ) → IsBatch batch → AreSoundFilesOf (files.left old.schema) (files.left old.table) left.base → Follows at.base left.base →
      at.rows ≡ left.base.secret.shape.rows → IsLegal (table_in left.base) at.history →
      StopsOver left.base batch at.history (counted_lines (lines.left old.input)) before image (before ++ sent) →
      GoesOn first runs (record { deed = serves batch (lines.left old.input); left = left; sent = sent })
  stops_on batch is sound follows rows legal stops =
      let same : stops.0 ≡ sent = sym (append_cancel_left before sent stops.0 stops.1) in
      longer (files.left old.schema) (files.left old.table) first runs at (record { deed = serves batch (lines.left old.input); left = left; sent = sent })
      sound life (λ database. record {
        database = database;
        table = follows;
        legal = subst (λ (h : List Answered). IsLegal (table_in left.base) h) (sym (over_own (table_in left.base) at.history legal)) legal;
        image = image;
        stands = stands;
        makes = (
          is,
          rows,
          subst (λ (bytes : List ℕ). Stop (IsDue left.base) (stands_over left.base) batch at.history (counted_lines (lines.left old.input)) image bytes)
              same stops.2,
        );
      })

  -- so with one that is brought up first, once it isn't behind the whole: until then it stands for the whole at the end alone
  catches_on : OneReading → (batch : ℕ) → IsBatch batch → (begun : List Answered) →
      AreSoundFilesOf (files.left old.schema) (files.left old.table) left.base → Follows at.base left.base →
      at.rows ≡ left.base.secret.shape.rows → IsLegal (table_in left.base) at.history → IsFront at.history left.history →
      CatchesUpOrStops left.base batch begun at.history (counted_lines (lines.left old.input)) before image (before ++ sent) →
      GoesOn first runs (record { deed = serves batch (lines.left old.input); left = left; sent = sent })
  catches_on one batch is begun sound follows rows legal reaches found =
      let text = counted_lines (lines.left old.input) in
      stops_on batch is sound follows rows legal (elim found [
        | inl catches ↦
            let same : catches.1.now ≡ left.history = (one image left.base.secret.shape (shape_in left) catches.1.now left.history catches.1.stands.0 stands.0
            catches.1.stands.1 stands.1).1 in
            let now : at.history ≡ catches.1.now = fronts_meet at.history catches.1.now
            (subst (λ (h : List Answered). IsFront at.history h) (sym same) reaches) catches.1.to in
            untouched_stops left.base batch at.history text image before image (before ++ sent)
            (subst (λ (h : List Answered). StandsFor image left.base.secret.shape h) (sym now) catches.1.stands) (catches.0, refl)
        | inr stops ↦ stops
      ])

  -- so with a run of any command, whatever moment it is stopped at
  command_on : (status : Status) (new : Objects P I B) → OneReading → IsQuiet bench old.bench →
      bench.since new.bench (bench.moment old.bench) image (before ++ sent) → files.told → bench.told → (command : Command) →
      ((batch : ℕ) (twin : Bool) → command ≡ Serve batch twin → IsBatch batch) → Does files lines bench command status old new →
      (command ≢ Grow → lines.told) → ((batch : ℕ) → command ≡ Serve batch true → IsFront at.history left.history) →
      GoesOnOver command (files.left old.schema) (files.left old.table) (bench.file old.bench) (bench.file old.spare) at left.base →
      GoesOn first runs (record { deed = deed_of command (lines.left old.input); left = left; sent = sent })
  command_on status new one quiet was ptold told (Serve batch false) batches serving itold reaches goes =
      stops_on batch (batches batch false refl) goes.0.files goes.1 goes.2 goes.0.legal
      ((serving.any_moment ptold (itold (serves_lines batch false)) told quiet left.base at.history goes.0).each image (before ++ sent) was)
  command_on status new one quiet was ptold told (Serve batch true) batches serving itold reaches goes =
      catches_on one batch (batches batch true refl) goes.0 goes.2 goes.4 goes.5 goes.3.legal (reaches batch refl)
      ((serving.twin_moment ptold (itold (serves_lines batch true)) told quiet left.base goes.0 goes.1 at.history
      (record { files = goes.2; together = goes.3 })).each image (before ++ sent) was)
  command_on status new one quiet was ptold told Grow batches growing itold reaches goes =
      let found : IsBeforeOrGrown (over at.rows left.base.secret.shape) at.history left.base.secret.shape.rows before image (before ++ sent) =
      (growing.growing ptold told quiet left.base at.rows at.history goes.0).each image (before ++ sent) was in
      longer (files.left old.schema) (files.left old.table) first runs at (record { deed = grows; left = left; sent = sent }) goes.0.files life
      (λ database. record {
        database = database;
        table = goes.1;
        legal = goes.0.legal;
        image = image;
        stands = stands;
        makes = (append_cancel_left before sent [] (found.0 ∙ sym (append-nil before)), found.1);
      })
  command_on status new one quiet was ptold told command batches does itold reaches goes = absurd goes

-- of what a crash leaves of both files the spare alone
pub left_of_spare : (base : Database) (batch : ℕ) (main other whole : List Answered) (before after : Outside) (sent image spare : List ℕ) →
    after.sent ≡ before.sent ++ sent → LeavesTwins base batch main other whole before after image spare →
    CatchesUpOrStops base batch other whole (counted_lines before.input) before.sent spare (before.sent ++ sent)
left_of_spare base batch main other whole before after sent image spare is (inl catches) = inl (sym is ∙ catches.1, catches.3)
left_of_spare base batch main other whole before after sent image spare is (inr stops) = inr (stops.new, sym is ∙ stops.sent_is, stops.other)

-- so a life goes on from the spare alone, too
pub spare_goes_on : {P I B : Type 0} (files : source.Ghosts P) (lines : source.Ghosts I) (bench : Ghosts B) (batch : ℕ) (old new : Objects P I B) →
    RunsMakeLives → OneReading → IsBatch batch →
    ((base : Database) (main other whole : List Answered) →
    TwinsOver (files.left old.schema) (files.left old.table) (bench.file old.bench) (bench.file old.spare) base main other whole →
    (image sent : List ℕ) → bench.leaves new.spare image → bench.sent new.bench ≡ bench.sent old.bench ++ sent →
    CatchesUpOrStops base batch other whole (counted_lines (lines.left old.input)) (bench.sent old.bench) image (bench.sent old.bench ++ sent)) →
    (base : Database) (at : Standing) →
    GoesOnOver (Serve batch true) (files.left old.schema) (files.left old.table) (bench.file old.bench) (bench.file old.spare) at base →
    (first : Database) (runs : List Run) → IsLife first runs at → (image sent : List ℕ) (left : Standing) → left.base ≡ base →
    bench.leaves new.spare image → bench.sent new.bench ≡ bench.sent old.bench ++ sent →
    StandsFor image (shape_in left) left.history → IsFront at.history left.history →
    GoesOn first runs (record { deed = serves batch (lines.left old.input); left = left; sent = sent })
spare_goes_on files lines bench batch old new longer one is found base at goes first runs life image sent left same leaves all stands reaches =
    let here = subst (λ (b : Database). GoesOnOver (Serve batch true) (files.left old.schema) (files.left old.table) (bench.file old.bench)
    (bench.file old.spare) at b) (sym same) goes in
    catches_on files lines bench old longer at first runs life image sent left stands one batch is here.1 here.2
    here.4 here.5 here.3.legal reaches
    (found left.base here.0 here.1 at.history (record { files = here.2; together = here.3 }) image sent leaves all)

-- whatever moment a run is stopped at, the life goes on with it
pub goes_on : {P I B : Type 0} (files : source.Ghosts P) (lines : source.Ghosts I) (bench : Ghosts B) (asked : Option Command) (status : Status)
    (old new : Objects P I B) → RunsMakeLives → OneReading → ((batch : ℕ) (twin : Bool) → asked ≡ Some (Serve batch twin) → IsBatch batch) →
    ((command : Command) → asked ≡ Some command → Does files lines bench command status old new) → files.told → bench.told → (command : Command) →
    asked ≡ Some command → (command ≢ Grow → lines.told) → IsQuiet bench old.bench → (base : Database) (at : Standing) →
    GoesOnOver command (files.left old.schema) (files.left old.table) (bench.file old.bench) (bench.file old.spare) at base →
    (first : Database) (runs : List Run) → IsLife first runs at → (image sent : List ℕ) (left : Standing) → left.base ≡ base →
    bench.since new.bench (bench.moment old.bench) image (bench.sent old.bench ++ sent) → StandsFor image (shape_in left) left.history →
    ((batch : ℕ) → command ≡ Serve batch true → IsFront at.history left.history) →
    GoesOn first runs (record { deed = deed_of command (lines.left old.input); left = left; sent = sent })
goes_on files lines bench asked status old new longer one batches does ptold told command named itold quiet base at goes first runs life image sent left is
    was stands reaches =
    command_on files lines bench old longer at first runs life image sent left stands status new one quiet was ptold told command
    (λ batch twin same. batches batch twin (named ∙ ap (λ (k : Command). Some k) same)) (does command named) itold reaches
    (subst (λ (b : Database). GoesOnOver command (files.left old.schema) (files.left old.table) (bench.file old.bench) (bench.file old.spare) at b) (sym is)
    goes)
