mod Init
mod Serve
mod Audit
mod Simulate
mod Drill
mod Grow
mod Explain
mod Compact
mod Restore
mod TwinRefused
mod Twin
use Rattle.std.proofs.Common.{◌≡◌, true, false, Some, refl, ◌∙◌, ap, subst, inr, map, string_bytes}
use Rattle.std.proofs.lemmas.Bool.{false≢true}
use Rattle.bench_core.specs.Reports.{not_written}
use Rattle.auditor_top.specs.declared.words.Command.{Command}
use Rattle.auditor_top.specs.declared.words.Command.TheVariants as command
use Rattle.auditor_top.specs.declared.status.Status.TheVariants.{BadWords, NoMemory}
use Rattle.auditor_top.specs.Words.{command_of}
use Rattle.auditor_top.specs.Commands.{opens_store, reads_files}
use Rattle.auditor_top.specs.Ready.{IsGiven, GivesUp, IsReady}
use Rattle.auditor_top.specs.Runs.{objects}
use Rattle.auditor_top.proofs.EarlyEnds.{after_nothing, after_refusal, refused_failures}
use Rattle.auditor_top.proofs.Failures.{unfailed}
use Rattle.auditor_top.proofs.OneRunMore.{goes_on}
use Rattle.auditor_top.proofs.OneCommand.{one_command, asked_for, none_asked, refused_words}
use Rattle.auditor_top.proofs.Openings.{one_more}
use Rattle.auditor_top.proofs.Refusals.{refused}
use Rattle.auditor_top.proofs.StepStatuses.{bad_words_say, no_memory_says}
use Rattle.auditor_top.proofs.running.run.Answers.Init.{init_ends}
use Rattle.auditor_top.proofs.running.run.Answers.Serve.{serve_ends}
use Rattle.auditor_top.proofs.running.run.Answers.Audit.{audit_ends}
use Rattle.auditor_top.proofs.running.run.Answers.Simulate.{simulate_ends}
use Rattle.auditor_top.proofs.running.run.Answers.Drill.{drill_ends}
use Rattle.auditor_top.proofs.running.run.Answers.Grow.{grow_ends}
use Rattle.auditor_top.proofs.running.run.Answers.Explain.{explanation_ends}
use Rattle.auditor_top.proofs.running.run.Answers.Compact.{compaction_ends}
use Rattle.auditor_top.proofs.running.run.Answers.Restore.{restoration_ends}
use Rattle.auditor_top.proofs.running.run.Answers.TwinRefused.{twin_refused}
use Rattle.auditor_top.proofs.running.run.Answers.Twin.{twin_ends}
use Rattle.auditor_top.proofs.running.run.Goals as goal

-- ---- the arguments are no command

pub returns-in-Err-Bad : goal.returns-in-Err-Bad
returns-in-Err-Bad g c =
    let none = refused_words _ _ c.in-Err-Bad.ensures.bad c.in-Err-Bad.field-0-is in
    let at = objects c.args.schema.now c.args.table.now c.args.input.now c.args.bench.now c.args.spare.now in
    record {
      says = after_nothing g.P.Source g.I.Source g.B.Bench _ BadWords at bad_words_say none;
      lives = λ ptold told command asked. none_asked _ _ none asked;
      does = λ command asked. none_asked _ _ none asked;
      nothing_began = λ ptold told command asked. none_asked _ _ none asked;
    }

-- ---- no memory for the words

pub returns-in-Err-NoMemory : goal.returns-in-Err-NoMemory
returns-in-Err-NoMemory g c =
    let at = objects c.args.schema.now c.args.table.now c.args.input.now c.args.bench.now c.args.spare.now in
    let uncalled = λ (b : g.row.B.Denot). not_written g.B.Bench b (λ image sent was. g.met.B.Bench.only_now b image sent was) in
    let all = refused g.P.Source g.I.Source g.B.Bench at.schema at.schema at.table at.table at.input at.bench at.bench at.spare NoMemory tt (uncalled at.bench)
    (λ object. unfailed _ _ _ _ refl (no_memory_says.unfailed object)) (command_of (map string_bytes c.args.words.now.items))
    (λ command asked ptold told given. tt) (λ command asked none. refl) c.stops_are_legal.ensures
    c.lives.ensures.longer c.one_reading.ensures c.read_words.ensures.batch (uncalled at.spare)
    (λ number asked. record {
      drilled = λ told. refl;
      drill_calls = λ told done. absurd (no_memory_says.undone done);
      drill_call = one_more _;
      undrilled = λ is. refl;
      drills = λ none. inr refl;
    }) in
    record {
      says = after_nothing g.P.Source g.I.Source g.B.Bench _ NoMemory at no_memory_says tt;
      lives = goes_on g.P.Source g.I.Source g.B.Bench _ NoMemory at at c.lives.ensures.longer c.one_reading.ensures c.read_words.ensures.batch all;
      does = all;
      nothing_began = λ ptold told command asked opens quiet none. (uncalled at.bench).untouched quiet;
    }

-- ---- the command was refused

pub returns-in-Err : goal.returns-in-Err
returns-in-Err g c =
    let status = c.in-Err.status in
    let refuses = c.in-Err.ensures.refusal in
    let opening = c.open.ensures in
    let words = command_of (map string_bytes c.args.words.now.items) in
    let named : words ≡ Some c.in-Ok.command = c.in-Ok.ensures.command in
    let old = objects c.args.schema.now c.args.table.now c.args.input.now c.args.bench.now c.args.spare.now in
    let new = objects c.open.new.schema c.open.new.table c.args.input.now c.open.new.bench c.args.spare.now in
    let same = λ (command : Command) (asked : words ≡ Some command). one_command words _ command named asked in
    let all = refused g.P.Source g.I.Source g.B.Bench old.schema new.schema old.table new.table old.input old.bench new.bench old.spare status refuses.early
    opening.reads (refused_failures g.P.Source g.I.Source g.B.Bench c.in-Ok.command status old new.schema new.table new.bench refuses) words
    (λ command asked ptold told given. subst (λ (k : Command). (opens_store k ≡ true → g.B.Bench.told)
    → IsGiven k (g.P.Source.left old.schema) (g.P.Source.left old.table) (g.B.Bench.file old.bench) → GivesUp status) (same command asked)
    (refuses.gives_up ptold) told given)
    (λ command asked none. opening.unopened (ap opens_store (same command asked) ∙ none)) c.stops_are_legal.ensures
    c.lives.ensures.longer c.one_reading.ensures c.read_words.ensures.batch
    (not_written g.B.Bench old.spare (λ image sent was. g.met.B.Bench.only_now old.spare image sent was))
    (λ number asked. absurd (false≢true (c.in-Err.ensures.taken (ap reads_files (same (command.Drill number) asked))))) in
    record {
      says = after_refusal g.P.Source g.I.Source g.B.Bench words c.in-Ok.command status old new.schema new.table new.bench named refuses opening.reads
          opening.unread;
      lives = goes_on g.P.Source g.I.Source g.B.Bench _ status old new c.lives.ensures.longer c.one_reading.ensures c.read_words.ensures.batch all;
      does = all;
      nothing_began = λ ptold told command asked opens quiet none. opening.reads.untouched quiet;
    }

-- ---- the command goes on

pub returns-in-Ok-Init : goal.returns-in-Ok-Init
returns-in-Ok-Init g c = init_ends g c

pub returns-in-Ok-Serve : goal.returns-in-Ok-Serve
returns-in-Ok-Serve g c = serve_ends g c

pub returns-in-Ok-Audit : goal.returns-in-Ok-Audit
returns-in-Ok-Audit g c = audit_ends g c

pub returns-in-Ok-Simulate : goal.returns-in-Ok-Simulate
returns-in-Ok-Simulate g c = simulate_ends g c

pub returns-in-Ok-Drill : goal.returns-in-Ok-Drill
returns-in-Ok-Drill g c = drill_ends g c

pub returns-in-Ok-Grow : goal.returns-in-Ok-Grow
returns-in-Ok-Grow g c = grow_ends g c

pub returns-in-Ok-Explain : goal.returns-in-Ok-Explain
returns-in-Ok-Explain g c = explanation_ends g c

pub returns-in-Ok-Compact : goal.returns-in-Ok-Compact
returns-in-Ok-Compact g c = compaction_ends g c

pub returns : goal.returns
returns g c = restoration_ends g c

pub returns-in-Ok-Twin : goal.returns-in-Ok-Twin
returns-in-Ok-Twin g c = twin_refused g c

pub returns-in-Ok-start : goal.returns-in-Ok-start
returns-in-Ok-start g c = twin_ends g c

-- ---- what the last steps want

pub make-requires : goal.make-requires
make-requires g c = subst (IsReady g.B.Bench c.open.new.bench) c.in-Ok-Init.field-0-is c.in-Ok-Init.ensures.ready

pub serve-requires : goal.serve-requires
serve-requires g c =
    let n = c.in-Ok-Serve.batch in
    let ready = subst (IsReady g.B.Bench c.open.new.bench) c.in-Ok-Serve.field-0-is c.in-Ok-Serve.ensures.ready in
    record {
      usable = ready.0.usable;
      shape = ready.1;
      stands = ready.0.left;
      batch = c.read_words.ensures.batch n false (asked_for _ _ _ _ c.in-Ok.ensures.command c.in-Ok-Serve.field-0-is c.in-Ok-Serve.ensures.asked);
    }

pub explain-requires : goal.explain-requires
explain-requires g c =
    let ready = subst (IsReady g.B.Bench c.open.new.bench) c.in-Ok-Explain.field-0-is c.in-Ok-Explain.ensures.ready in
    record { usable = ready.0.usable; shape = ready.1; entries = ready.2 }

pub audit-requires : goal.audit-requires
audit-requires g c =
    let ready = subst (IsReady g.B.Bench c.open.new.bench) c.in-Ok-Audit.field-0-is c.in-Ok-Audit.ensures.ready in
    record { usable = ready.0.usable; shape = ready.1 }
