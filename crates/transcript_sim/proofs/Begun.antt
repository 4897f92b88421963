-- A simulation is its beginning, which only reads the journal, and then the judging of its lines.
use Rattle.std.proofs.Common.{◌≡◌, ◌+◌, ℕ, List, [], Result, Ok, Err, OnOk, refl, sym, ◌∙◌, ap, subst, arith}
use Rattle.std.proofs.lemmas.List.{append-nil}
use Rattle.audit_types.specs.declared.records.Answered.{Answered}
use Rattle.audit_types.specs.History.{Setting}
use Rattle.answer_journal.specs.declared.refusals.JournalRefusal.{JournalRefusal}
use Rattle.bench_core.specs.declared.bench.Bench.{Ghosts}
use Rattle.bench_core.specs.declared.source.Source.{Ghosts as SourceGhosts}
use Rattle.bench_core.specs.Calls.{IsQuiet, IsUntouched, LeavesOnly, OnlyReads, TellsFault}
use Rattle.bench_core.specs.Ends.{EndsBy, refused_as}
use Rattle.bench_core.specs.Moments.{joins, still_quiet, then_tells, weakens}
use Rattle.bench_core.specs.Stops.{IsOfBench}
use Rattle.bench_core.specs.declared.stops.Stop.{Stop}
use Rattle.bench_core.specs.declared.stops.Stop.TheVariants as stop
use Rattle.bench_core.specs.declared.stops.End.{End}
use Rattle.bench_core.specs.declared.stops.End.TheVariants.{Stopped, Refused}
use Rattle.set_index.specs.Indexed.{IndexView, public_setting}
use Rattle.line_wire.specs.Lines.{CountedLine, counted_lines}
use Rattle.line_wire.specs.Talks.{DueToFirst, EndDue, EndReads, EndSends, TalksMeanwhile}
use Rattle.line_wire.specs.TalkSoFar.{none_failed, nothing_meanwhile}
use Rattle.transcript_sim.specs.declared.simulating.SimulationRefusal.{SimulationRefusal}
use Rattle.transcript_sim.specs.declared.simulating.SimulationRefusal.TheVariants.{Journal}
use Rattle.transcript_sim.specs.Beginning.{BeginsWith, EndBegins, IfUnbegun, IsOfBeginning, OnUnbegun, UnbegunCause}
use Rattle.transcript_sim.specs.Ends.{Judges, RefusesWithin, Simulates, simulation}
use Rattle.transcript_sim.proofs.Beginnings.{OneReading, NoBreak, never_refused, one_beginning}

-- the end of a simulation that ends as its beginning did
abbrev pub unbegun_by : End JournalRefusal → Result (Unit {0}) (End SimulationRefusal)
unbegun_by why = Err (refused_as Journal why)

-- and of its beginning
abbrev pub ended_by : (X : Type 0) → End JournalRefusal → Result X (End JournalRefusal)
ended_by X why = Err why

-- they stop for the same
same_stop : (X : Type 0) (why : End JournalRefusal) (stopped : Stop) → unbegun_by why ≡ Err (Stopped stopped) → ended_by X why ≡ Err (Stopped stopped)
same_stop X (Stopped other) stopped is = let same : other ≡ stopped = cc in ap (λ (s : Stop). ended_by X (Stopped s)) same
same_stop X (Refused refusal) stopped is = absurd (let apart : unbegun_by (Refused refusal) ≡ Err (Stopped stopped) = is in cc)

-- a history was begun with, since no journal was blamed
begun_with : (ended : Result (Unit {0}) (End SimulationRefusal)) (file : List ℕ) (setting : Setting) (history : List Answered) → OnUnbegun ended ⊥ →
    BeginsWith file setting history → EndBegins ended file setting
begun_with (Err (Refused (Journal why))) file setting history none begins = absurd none
begun_with (Err (Stopped stop.Bench)) file setting history none begins = tt
begun_with (Err (Stopped stop.NoMemory)) file setting history none begins = tt
begun_with ended file setting history none begins = (history, begins)

not_unbegun : (P : JournalRefusal → Type 0) (ended : Result (Unit {0}) (End SimulationRefusal)) → OnUnbegun ended ⊥ → IfUnbegun ended P
not_unbegun P (Err (Refused (Journal why))) none = absurd none
not_unbegun P ended none = tt

so_on_ok : {P Q : Type 0} (ended : Result (Unit {0}) (End SimulationRefusal)) → (P → Q) → OnOk ended P → OnOk ended Q
so_on_ok (Ok done) follows holds = follows holds
so_on_ok (Err why) follows holds = tt

module _ {P B : Type 0} (source : SourceGhosts P) (bench : Ghosts B) (index : IndexView) where
  module _ (first : P) (old : B) where
    abbrev Meanwhile : List Answered → List ℕ → List ℕ → Type 0
    Meanwhile history = TalksMeanwhile source.told (simulation index history) (counted_lines (source.left first)) (bench.file old) (bench.sent old)

    none_begun : (history : List Answered) (lines : List CountedLine) → DueToFirst (simulation index history) lines []
    none_begun history lines = ([], record { count = 0; are = refl }, tt)

    -- while the journal is read no verdict is sent
    reading : (at : B) (history : List Answered) → OnlyReads bench old at → IsQuiet bench old → LeavesOnly bench old at (Meanwhile history)
    reading at history reads quiet =
        weakens bench old at (IsUntouched (bench.file old) (bench.sent old)) (Meanwhile history)
        (nothing_meanwhile (simulation index history) tt source.told (counted_lines (source.left first)) (bench.file old) (bench.sent old))
        (reads.untouched quiet)

    -- and then the lines are judged
    judging : (mid at : B) (history : List Answered) → OnlyReads bench old mid →
        (IsQuiet bench mid → LeavesOnly bench mid at
        (TalksMeanwhile source.told (simulation index history) (counted_lines (source.left first)) (bench.file mid) (bench.sent mid))) →
        IsQuiet bench old → LeavesOnly bench old at (Meanwhile history)
    judging mid at history reads judged quiet =
        let Said : List ℕ → List ℕ → List ℕ → List ℕ → Type 0 =
        TalksMeanwhile source.told (simulation index history) (counted_lines (source.left first)) in
        joins bench old mid at (Meanwhile history) (reading mid history reads quiet)
        (subst (λ (f : List ℕ). LeavesOnly bench mid at (Said f (bench.sent old))) reads.file
        (subst (λ (s : List ℕ). LeavesOnly bench mid at (Said (bench.file mid) s)) reads.sent (judged (still_quiet bench old mid reads quiet))))

    module _ (one : OneReading) where
      -- it didn't begin
      module _ (whole : NoBreak) (at : B) (reads : OnlyReads bench old at) where
        abbrev Unbegun : End JournalRefusal → Type 0
        Unbegun = EndsBy IsOfBench (λ refusal. IsOfBeginning refusal × (bench.told → UnbegunCause refusal (bench.file old) (public_setting index)))

        no_verdict : (why : End JournalRefusal) → Unbegun why → (history : List Answered) → bench.told →
            BeginsWith (bench.file old) (public_setting index) history → (input left : List ℕ) →
            EndDue (simulation index history) (unbegun_by why) input left []
            × EndSends (simulation index history) (unbegun_by why) [] (bench.sent old) (bench.sent at)
        no_verdict (Stopped stop.Bench) cause history told begins input left =
            (none_begun history (counted_lines input), (0, reads.sent ∙ sym (append-nil (bench.sent old))))
        no_verdict (Stopped stop.NoMemory) cause history told begins input left =
            (none_begun history (counted_lines input), reads.sent ∙ sym (append-nil (bench.sent old)))
        no_verdict (Stopped other) cause history told begins input left = absurd cause
        no_verdict (Refused refusal) cause history told begins input left =
            absurd (never_refused one (bench.file old) (public_setting index) whole history begins refusal (cause.1 told))

        nothing_read : (why : End JournalRefusal) → Unbegun why → (input left : List ℕ) → EndReads RefusesWithin (unbegun_by why) input left
        nothing_read (Stopped stop.Input) cause input left = absurd cause
        nothing_read (Stopped stop.Limit) cause input left = absurd cause
        nothing_read (Stopped other) cause input left = tt
        nothing_read (Refused refusal) cause input left = tt

        told_so : (why : End JournalRefusal) → Unbegun why → bench.told → EndBegins (unbegun_by why) (bench.file old) (public_setting index)
        told_so (Stopped stop.Bench) cause told = tt
        told_so (Stopped stop.NoMemory) cause told = tt
        told_so (Stopped other) cause told = absurd cause
        told_so (Refused refusal) cause told = cause.1 told

        refused_so : (why : End JournalRefusal) → Unbegun why → IfUnbegun (unbegun_by why) IsOfBeginning
        refused_so (Stopped other) cause = tt
        refused_so (Refused refusal) cause = cause.0

        untouched_so : (why : End JournalRefusal) → OnUnbegun (unbegun_by why) ((first ≡ first) × (bench.sent at ≡ bench.sent old))
        untouched_so (Stopped other) = tt
        untouched_so (Refused refusal) = (refl, reads.sent)

        module _ (X : Type 0) (why : End JournalRefusal) (cause : Unbegun why)
            (tells : TellsFault bench old at (ended_by X why ≡ Err (Stopped stop.Bench))) where
          of_bench : (stopped : Stop) → unbegun_by why ≡ Err (Stopped stopped) → IsOfBench stopped
          of_bench stopped same =
              let is : why ≡ Stopped stopped = let back : ended_by X why ≡ Err (Stopped stopped) = same_stop X why stopped same in cc in
              subst Unbegun is cause

          pub not_begun : Simulates source bench index first first old at (unbegun_by why)
          not_begun = record {
            verdicts = λ history t told begins.
                let said = no_verdict why cause history told begins (source.left first) (source.left first) in ([], said.0, said.1);
            calls = λ t told. tt;
            reads = λ t. nothing_read why cause (source.left first) (source.left first);
            begins = told_so why cause;
            refuses = refused_so why cause;
            unbegun = untouched_so why;
            moments = λ history told quiet begins. reading at history reads quiet;
            undisturbed = λ told quiet.
                weakens bench old at (IsUntouched (bench.file old) (bench.sent old)) (λ image sent. image ≡ bench.file old) (λ image sent same. same.1)
                (reads.untouched quiet);
            untouched = λ told quiet none. reads.untouched quiet;
            file = reads.file;
            crash = reads.crash;
            input = none_failed refl (λ is. of_bench stop.Input is);
            fault = record {
              later = tells.later;
              failed = λ is. tells.failed (same_stop X why stop.Bench is);
              last_call = λ is. tells.last_call (same_stop X why stop.Bench is);
              steady = λ other. tells.steady (λ is. other (let same : why ≡ Stopped stop.Bench = cc in ap unbegun_by same));
            };
            alone = of_bench stop.Spare;
          }

      -- it did, and its lines were judged
      pub judged_so : (mid at : B) (from : P) (history : List Answered) (ended : Result (Unit {0}) (End SimulationRefusal)) → OnlyReads bench old mid →
          {Failed : Type 0} → TellsFault bench old mid Failed → (Failed → ⊥) → (bench.told → bench.moment mid ≡ bench.moment old + 2) →
          (bench.told → BeginsWith (bench.file old) (public_setting index) history) →
          Judges source bench index history first from mid at ended → Simulates source bench index first from old at ended
      judged_so mid at from history ended reads tells fine ticks begun judges =
          let all = judges.0 in
          record {
            verdicts = λ others t told begins.
                let same = one_beginning one (bench.file old) (public_setting index) history others (begun told) begins in
                let found = all.due t in (
                  found.0,
                  subst (λ (h : List Answered). EndDue (simulation index h) ended (source.left first) (source.left from) found.0) same found.1,
                  subst (λ (h : List Answered). EndSends (simulation index h) ended found.0 (bench.sent old) (bench.sent at)) same
                      (subst (λ (s : List ℕ). EndSends (simulation index history) ended found.0 s (bench.sent at)) reads.sent (found.2 told)),
                );
            calls = λ t told. so_on_ok ended (λ is. omega (arith, is, ticks told)) (all.calls t told);
            reads = all.reads;
            begins = λ told. begun_with ended (bench.file old) (public_setting index) history judges.1 (begun told);
            refuses = not_unbegun _ ended judges.1;
            unbegun = not_unbegun _ ended judges.1;
            moments = λ others told quiet begins.
                let same = one_beginning one (bench.file old) (public_setting index) history others (begun told) begins in
                subst (λ (h : List Answered). LeavesOnly bench old at (Meanwhile h)) same (judging mid at history reads (all.moments told) quiet);
            undisturbed = λ told quiet.
                weakens bench old at (Meanwhile history) (λ image sent. image ≡ bench.file old) (λ image sent is. is.0)
                (judging mid at history reads (all.moments told) quiet);
            untouched = λ told quiet none. absurd (none history (begun told));
            file = all.file ∙ reads.file;
            crash = λ image left. reads.crash image (all.crash image left);
            input = all.input;
            fault = then_tells bench old mid at _ _ tells fine all.fault;
            alone = all.alone;
          }
