-- What holds in the midst of a loop that reads lines and sends texts for them, and what each end of it then says.
use Rattle.std.proofs.Common.{rules, OnOk, false, ◌≡◌, ◌≢◌, ℕ, ◌+◌, ◌≤◌, List, [], ◌∷◌, ◌++◌, length, Result, Ok, Err, refl, sym, ◌∙◌, ap, subst, arith, length-append}
use Rattle.std.specs.List.{flat_map}
use Rattle.std.proofs.lemmas.List.{append-nil}
use Rattle.std.proofs.lemmas.List.Concat.{flat_map-append}
use Rattle.bench_core.specs.declared.bench.Bench.{Ghosts}
use Rattle.bench_core.specs.declared.source.Source.{Ghosts as SourceGhosts}
use Rattle.bench_core.specs.declared.stops.Stop.{Stop}
use Rattle.bench_core.specs.declared.stops.Stop.TheVariants as stop
use Rattle.bench_core.specs.declared.stops.End.{End}
use Rattle.bench_core.specs.declared.stops.End.TheVariants.{Stopped, Refused}
use Rattle.bench_core.specs.Bench.{AppendsFront}
use Rattle.bench_core.specs.Calls.{IsUntouched, TellsFault}
use Rattle.bench_core.specs.Causes.{Rose}
use Rattle.bench_core.specs.Reports.{told_as}
use Rattle.line_wire.specs.Lines.{CountedLine, counted_lines}
use Rattle.line_wire.specs.Cutter.{Cutter}
use Rattle.line_wire.specs.Calls.{Cuts, GivesLine, GivesNone, FailsRead, PassesLimit}
use Rattle.line_wire.specs.WhichLines.{AreFirst}
use Rattle.line_wire.specs.LinesSoFar.{LinesSoFar, none_yet, first_lines, one_line_more, all_lines, all_input, lines_read, input_read, lines_within, input_over}
use Rattle.line_wire.specs.SentSoFar.{SentSoFar, none_sent, one_sent, front_sent, moments_then}
use Rattle.line_wire.specs.Talks.{DueToFirst, EndDue, EndReads, EndSends, SendsAll, SendsPart, Talk, Talks, TalksMeanwhile, TellsInput, unrefused}

-- these lines were read, these texts are due to them, and were sent
pub record SoFar {P B X R : Type 0} (source : SourceGhosts P) (bench : Ghosts B) (talk : Talk X R) (first_source from : P) (first at : B)
    (cutter : Cutter) (lines : List CountedLine) (texts : List X) : Type 0 where
  pub read : LinesSoFar source first_source from cutter lines
  pub due : talk.Due lines texts
  pub sends : SentSoFar bench first at (TalksMeanwhile source.told talk (counted_lines (source.left first_source)) (bench.file first) (bench.sent first))
      (flat_map talk.bytes texts) (length texts)

-- the bytes of one text more
pub bytes-push : {X : Type 0} (bytes : X → List ℕ) (texts : List X) (text : X) →
    flat_map bytes (texts ++ text ∷ []) ≡ flat_map bytes texts ++ bytes text
bytes-push bytes texts text = flat_map-append bytes texts (text ∷ []) ∙ ap (λ (l : List ℕ). flat_map bytes texts ++ l) (append-nil (bytes text))

-- an end that is done isn't for a cause
pub no_end : {R : Type 0} (why : End R) → (let done : Result (Unit {0}) (End R) = Ok tt in done) ≡ Err why → ⊥
no_end why is = search rules

-- an end that refuses nothing is a stop if it is one as an end of a talk
pub same_stop : (ended : Result (Unit {0}) Stop) (why : Stop) → unrefused ended ≡ Err (Stopped why) → ended ≡ Err why
same_stop (Ok done) why is = absurd (no_end (Stopped why) is)
same_stop (Err stop) why is = search rules

-- no read failed, and it isn't answered that one did
pub none_failed : {P : Type 0} {source : SourceGhosts P} {old new : P} {Answered : Type 0} → source.faults new ≡ source.faults old → (Answered → ⊥) →
    TellsInput source old new Answered
none_failed steady not = record {
  later = omega (arith, steady);
  failed = λ is. absurd (not is);
  last_read = λ is. absurd (not is);
  steady = λ other. steady;
}

-- ---- before the first line

-- what is left as it was is what a crash may find in the midst of a loop
pub nothing_meanwhile : {X R : Type 0} (talk : Talk X R) → talk.Due [] [] → (told : Type 0) (all : List CountedLine) (file before image sent : List ℕ) →
    IsUntouched file before image sent → TalksMeanwhile told talk all file before image sent
nothing_meanwhile talk none_due told all file before image sent same =
    (same.1, λ t. ([], ([], record { count = 0; are = refl }, none_due), (0, same.0 ∙ sym (append-nil before))))

module _ {P B X R : Type 0} (source : SourceGhosts P) (bench : Ghosts B) (talk : Talk X R) (first_source : P) (first : B)
    (only_now : (image bytes : List ℕ) → bench.since first (bench.moment first) image bytes → bench.leaves first image × (bytes ≡ bench.sent first))
    (none_due : talk.Due [] []) where
  -- a crash finds that nothing was sent
  pub nothing_sent : SentSoFar bench first first
      (TalksMeanwhile source.told talk (counted_lines (source.left first_source)) (bench.file first) (bench.sent first)) [] 0
  nothing_sent =
      none_sent bench first (TalksMeanwhile source.told talk (counted_lines (source.left first_source)) (bench.file first) (bench.sent first)) only_now
      (λ image same.
      nothing_meanwhile talk none_due source.told (counted_lines (source.left first_source)) (bench.file first) (bench.sent first) image (bench.sent first)
      (refl, same))

  -- and nothing was read
  pub nothing_yet : (cutter : Cutter) → (cutter.taken ≡ 0) × (cutter.pending ≡ []) × (cutter.ended ≡ false) →
      SoFar source bench talk first_source first_source first first cutter [] []
  nothing_yet cutter fresh = record { read = none_yet source first_source cutter fresh; due = none_due; sends = nothing_sent }

  -- there was no memory to begin
  pub never_began : Talks source bench talk first_source first_source first first (Err (Stopped stop.NoMemory))
  never_began = record {
    due = λ told. ([], ([], record { count = 0; are = refl }, none_due), nothing_sent.sent);
    calls = λ told tells. tt;
    reads = λ told. tt;
    moments = nothing_sent.moments;
    file = refl;
    crash = λ image left. left;
    input = none_failed refl (search rules);
    fault = record { later = omega arith; failed = λ is. absurd (search rules); last_call = λ is. absurd (search rules); steady = λ other. refl };
    alone = search rules;
  }

module _ {P B X R : Type 0} {source : SourceGhosts P} {bench : Ghosts B} {talk : Talk X R} {first_source from : P} {first at : B} {cutter : Cutter}
    {lines : List CountedLine} {texts : List X} (so_far : SoFar source bench talk first_source from first at cutter lines texts) where
  -- what a crash finds meanwhile
  abbrev Meanwhile : List ℕ → List ℕ → Type 0
  Meanwhile = TalksMeanwhile source.told talk (counted_lines (source.left first_source)) (bench.file first) (bench.sent first)

  -- the bytes with those of one text more
  abbrev bytes_with : X → List ℕ
  bytes_with text = flat_map talk.bytes (texts ++ text ∷ [])

  -- ---- a line more

  module _ {new : Cutter} {after : P} (cuts : Cuts source cutter new from after) {line : CountedLine} (gives : GivesLine source cutter new from after line) where
    pub read_now : LinesSoFar source first_source after new (lines ++ line ∷ [])
    read_now = one_line_more source first_source from cutter lines so_far.read after new cuts line gives

    first_now : source.told → AreFirst (counted_lines (source.left first_source)) (lines ++ line ∷ [])
    first_now = first_lines source first_source after new (lines ++ line ∷ []) read_now

    -- nothing is sent for it: the texts that are now due are those that were sent
    pub only_read : (others : List X) → talk.Due (lines ++ line ∷ []) others → flat_map talk.bytes others ≡ flat_map talk.bytes texts →
        length others ≡ length texts → SoFar source bench talk first_source after first at new (lines ++ line ∷ []) others
    only_read others due same many = record {
      read = read_now;
      due = due;
      sends =
          subst (λ (n : ℕ). SentSoFar bench first at Meanwhile (flat_map talk.bytes others) n) (sym many)
          (subst (λ (bytes : List ℕ). SentSoFar bench first at Meanwhile bytes (length texts)) (sym same) so_far.sends);
    }

    -- one text more is due
    module _ (text : X) (due : talk.Due (lines ++ line ∷ []) (texts ++ text ∷ [])) where
      -- a front of the texts, whose last one was sent so far
      part_now : (image bytes : List ℕ) → image ≡ bench.file first → AppendsFront (bench.sent first) (bytes_with text) bytes → Meanwhile image bytes
      part_now image bytes same part = (same, λ told. (texts ++ text ∷ [], (lines ++ line ∷ [], first_now told, due), part))

      -- it was sent
      pub text_sent : {sending : B} → SendsAll bench at sending (talk.bytes text) →
          SoFar source bench talk first_source after first sending new (lines ++ line ∷ []) (texts ++ text ∷ [])
      text_sent {sending} sends = record {
        read = read_now;
        due = due;
        sends =
            subst (λ (n : ℕ). SentSoFar bench first sending Meanwhile (bytes_with text) n) (sym (length-append texts (text ∷ [])))
            (one_sent bench first Meanwhile at (flat_map talk.bytes texts) (length texts) so_far.sends (talk.bytes text) (bytes_with text)
            (bytes-push talk.bytes texts text) part_now sending sends.file sends.crash sends.time sends.all sends.ticks sends.steady);
      }

      -- it couldn't be
      pub text_unsent : {sending : B} → SendsPart bench at sending (talk.bytes text) →
          Talks source bench talk first_source after first sending (Err (Stopped stop.Bench))
      text_unsent {sending} sends = record {
        due = λ told. (
          texts ++ text ∷ [],
          (lines ++ line ∷ [], first_now told, due),
          λ tells. front_sent bench first Meanwhile at (flat_map talk.bytes texts) (length texts) so_far.sends (talk.bytes text) (bytes_with text)
              (bytes-push talk.bytes texts text) part_now sending sends.file sends.crash sends.time tells (bench.sent sending) (sends.part tells),
        );
        calls = λ told tells. tt;
        reads = λ told. tt;
        moments =
            moments_then bench first Meanwhile at (flat_map talk.bytes texts) (length texts) so_far.sends (talk.bytes text) (bytes_with text)
            (bytes-push talk.bytes texts text) part_now sending sends.file sends.crash sends.time;
        file = sends.file ∙ so_far.sends.file;
        crash = λ image left. so_far.sends.crash image (sends.crash image left);
        input = none_failed (gives.steady ∙ so_far.read.steady) (search rules);
        fault = record {
          later = omega (arith, sends.later, so_far.sends.steady);
          failed = λ is. subst (λ (n : ℕ). Rose n (bench.faults sending)) so_far.sends.steady sends.rose;
          last_call = λ is. sends.last;
          steady = λ other. absurd (other refl);
        };
        alone = search rules;
      }

  -- ---- ends with no call of the bench

  -- by what is said of the texts and of the input
  pub ends : {after : P} (result : Result (Unit {0}) (End R)) → result ≢ Err (Stopped stop.Bench) → result ≢ Err (Stopped stop.Spare) →
      (source.told → EndDue talk result (source.left first_source) (source.left after) texts) →
      (bench.told → EndSends talk result texts (bench.sent first) (bench.sent at)) →
      (source.told → bench.told → OnOk result (bench.moment at ≡ bench.moment first + talk.count (counted_lines (source.left first_source)))) →
      (source.told → EndReads talk.Reads result (source.left first_source) (source.left after)) →
      TellsInput source from after (result ≡ Err (Stopped stop.Input)) → Talks source bench talk first_source after first at result
  ends {after} result fine alone due sends calls reads input = record {
    due = λ told. (texts, due told, sends);
    calls = calls;
    reads = reads;
    moments = so_far.sends.moments;
    file = so_far.sends.file;
    crash = so_far.sends.crash;
    input = record {
      later = omega (arith, input.later, so_far.read.steady);
      failed = λ is. subst (λ (n : ℕ). Rose n (source.faults after)) so_far.read.steady (input.failed is);
      last_read = input.last_read;
      steady = λ other. input.steady other ∙ so_far.read.steady;
    };
    fault = record {
      later = omega (arith, so_far.sends.steady);
      failed = λ is. absurd (fine is);
      last_call = λ is. absurd (fine is);
      steady = λ other. so_far.sends.steady;
    };
    alone = alone;
  }

  -- there was no memory
  pub wants_memory : {after : P} → source.faults after ≡ source.faults from → Talks source bench talk first_source after first at (Err (Stopped stop.NoMemory))
  wants_memory steady =
      ends (Err (Stopped stop.NoMemory)) (search rules) (search rules)
      (λ told. (lines, first_lines source first_source from cutter lines so_far.read told, so_far.due)) so_far.sends.sent (λ told tells. tt) (λ told. tt)
      (none_failed steady (search rules))

  -- it was refused
  pub refused : {after : P} (why : R) → (source.told → talk.Refuses why (source.left first_source) texts) →
      (source.told → talk.Reads why (source.left first_source)) → source.faults after ≡ source.faults from →
      Talks source bench talk first_source after first at (Err (Refused why))
  refused why refuses reads steady =
      ends (Err (Refused why)) (search rules) (search rules) refuses so_far.sends.sent (λ told tells. tt) reads (none_failed steady (search rules))

  module _ {new : Cutter} {after : P} (cuts : Cuts source cutter new from after) where
    -- no line is left
    pub all_read : GivesNone source cutter new from after → length texts ≡ talk.count lines →
        Talks source bench talk first_source after first at (Ok tt)
    all_read none many =
        let all = all_lines source first_source from cutter lines so_far.read after new cuts none in
        ends (Ok tt) (no_end (Stopped stop.Bench)) (no_end (Stopped stop.Spare))
        (λ told. subst (λ (ls : List CountedLine). talk.Due ls texts) (sym (all told)) so_far.due) so_far.sends.sent
        (λ told tells. so_far.sends.ticks tells ∙ ap (λ (n : ℕ). bench.moment first + n) (many ∙ ap talk.count (sym (all told))))
        (all_input source first_source from cutter lines so_far.read after new cuts none)
        (none_failed none.steady (no_end (Stopped stop.Input)))

    -- a read failed
    pub read_failed : FailsRead source cutter new from after → Talks source bench talk first_source after first at (Err (Stopped stop.Input))
    read_failed fails =
        ends (Err (Stopped stop.Input)) (search rules) (search rules)
        (λ told. (lines, lines_read source first_source from cutter lines so_far.read after new cuts fails told, so_far.due)) so_far.sends.sent
        (λ told tells. tt) (input_read source first_source from cutter lines so_far.read after new cuts fails)
        (record { later = cuts.later; failed = λ is. fails.rose; last_read = λ is. fails.last; steady = λ other. absurd (other refl) })

    -- the limit was passed
    pub limit_passed : PassesLimit source cutter new from after → Talks source bench talk first_source after first at (Err (Stopped stop.Limit))
    limit_passed passes =
        ends (Err (Stopped stop.Limit)) (search rules) (search rules)
        (λ told. (lines, lines_within source first_source from cutter lines so_far.read after new cuts passes told, so_far.due)) so_far.sends.sent
        (λ told tells. tt) (input_over source first_source from cutter lines so_far.read after new cuts passes)
        (none_failed passes.steady (search rules))

-- ---- a loop that refuses nothing

module _ {P B X : Type 0} {source : SourceGhosts P} {bench : Ghosts B} {talk : Talk X ⊥} {first_source from : P} {first at : B}
    (ended : Result (Unit {0}) Stop) (talks : Talks source bench talk first_source from first at (unrefused ended)) where
  -- what it tells of a failed read, of a failed call of the bench and of a spare is said of its own end
  pub input_told : TellsInput source first_source from (ended ≡ Err stop.Input)
  input_told = record {
    later = talks.input.later;
    failed = λ is. talks.input.failed (ap unrefused is);
    last_read = λ is. talks.input.last_read (ap unrefused is);
    steady = λ other. talks.input.steady (λ is. other (same_stop ended stop.Input is));
  }

  pub fault_told : TellsFault bench first at (ended ≡ Err stop.Bench)
  fault_told = told_as bench first at _ _ (same_stop ended stop.Bench) (λ is. ap unrefused is) talks.fault

  pub never_spare : ended ≢ Err stop.Spare
  never_spare is = talks.alone (ap unrefused is)

-- and so is what it says if it is done
pub done_too : (A : Type 0) (ended : Result (Unit {0}) Stop) → OnOk (unrefused ended) A → OnOk ended A
done_too A (Ok done) holds = holds
done_too A (Err why) holds = tt
