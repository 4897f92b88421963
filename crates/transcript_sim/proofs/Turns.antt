-- The turns of a simulation: a question whose verdict is sent, and then the reply that was shown to it.
use Rattle.std.proofs.Common.{rules, ◌≡◌, ℕ, ◌+◌, ◌-◌, ◌*◌, true, false, List, [], ◌∷◌, ◌++◌, length, take, Option, Some, None, Result, Ok, Err, refl, sym, ◌∙◌, ap, subst, arith, inl, inr, ⊎_elim, append_assoc, length-append}
use Rattle.std.specs.Option.{option_to_list}
use Rattle.std.proofs.Math.Seq.{take-append_seam}
use Rattle.std.proofs.lemmas.List.{append-nil}
use Rattle.audit_types.specs.declared.records.Answered.{Answered}
use Rattle.audit_core.specs.Audited.{Audited}
use Rattle.bench_core.specs.declared.bench.Bench.{Ghosts}
use Rattle.bench_core.specs.declared.source.Source.{Ghosts as SourceGhosts}
use Rattle.bench_core.specs.declared.stops.Stop.{Stop}
use Rattle.bench_core.specs.declared.stops.Stop.TheVariants as stop
use Rattle.bench_core.specs.declared.stops.End.{End}
use Rattle.bench_core.specs.declared.stops.End.TheVariants.{Stopped, Refused}
use Rattle.set_index.specs.Indexed.{IndexView, public_setting}
use Rattle.line_wire.specs.Lines.{CountedLine, counted_lines, whole_lines}
use Rattle.line_wire.specs.Cutter.{Cutter}
use Rattle.line_wire.specs.Calls.{Cuts, GivesLine, GivesNone}
use Rattle.line_wire.specs.LinesSoFar.{LinesSoFar}
use Rattle.line_wire.specs.ReadLines.{IsRead, ReadsLines}
use Rattle.line_wire.specs.Talks.{SendsAll, SendsPart}
use Rattle.line_wire.specs.TalkSoFar.{SoFar, all_read, bytes-push, limit_passed, only_read, read_failed, read_now, text_sent, text_unsent, wants_memory}
use Rattle.line_wire.specs.TalkSoFar as talk
use Rattle.question_plan.specs.Session.{AreReplies, Replied, records_of}
use Rattle.question_plan.specs.InTurn.{length-replies, none_behind}
use Rattle.question_plan.specs.Planned.{IsUnplanned}
use Rattle.transcript_sim.specs.declared.expecting.Expected.{Expected}
use Rattle.transcript_sim.specs.declared.shown.Shown.{Shown}
use Rattle.transcript_sim.specs.declared.shown.Shown.TheVariants.{Agrees, Disagrees}
use Rattle.transcript_sim.specs.declared.simulating.SimulationRefusal.{SimulationRefusal}
use Rattle.transcript_sim.specs.declared.simulating.SimulationRefusal.TheVariants as refusal
use Rattle.transcript_sim.specs.Verdicts.{AgreesWith, AreVerdicts, Exchange, Expects, IsVerdict, due_of, exchanges, line_of}
use Rattle.transcript_sim.specs.Laws.{OneReplyIsCalledFor, OneVerdictIsDue}
use Rattle.transcript_sim.specs.Steps.{GivesQuestion, IsUnjudged, ShowsNext, goes_on, records_shown}
use Rattle.transcript_sim.specs.Ends.{DisagreesAt, IsWithinLimit, Judges, simulation}
use Rattle.transcript_sim.proofs.Exchanges.{agreed-push, exchanges-append, question-push, records-push, verdict_with}

-- before a question: whole exchanges were read, every reply agreed, and the core has the answers that were shown
pub record Turn {P B : Type 0} (source : SourceGhosts P) (bench : Ghosts B) (index : IndexView) (begun : List Answered)
    (first_source from : P) (first at : B) (cutter : Cutter) (core : Audited) (line : ℕ) : Type 0 where
  pub lines : List CountedLine
  pub verdicts : List (Replied Answered)
  pub so_far : SoFar source bench (simulation index begun) first_source from first at cutter lines verdicts
  pub even : length lines ≡ 2 * length verdicts
  pub line_is : line ≡ length lines
  pub history : core.history ≡ begun ++ records_of verdicts
  pub setting : core.setting ≡ public_setting index

-- before a reply: the verdict on its question was sent
pub record Half {P B : Type 0} (source : SourceGhosts P) (bench : Ghosts B) (index : IndexView) (begun : List Answered)
    (first_source from : P) (first at : B) (cutter : Cutter) (core : Audited) (line : ℕ) (expected : Expected) : Type 0 where
  pub lines : List CountedLine
  pub verdicts : List (Replied Answered)
  pub question : CountedLine
  pub so_far : SoFar source bench (simulation index begun) first_source from first at cutter (lines ++ question ∷ [])
      (verdicts ++ verdict_with expected None ∷ [])
  pub before : AreVerdicts index begun lines verdicts
  pub expects : Expects index (begun ++ records_of verdicts) question expected
  pub even : length lines ≡ 2 * length verdicts
  pub line_is : line ≡ length lines + 2
  pub history : core.history ≡ begun ++ records_of verdicts
  pub setting : core.setting ≡ public_setting index

module _ {P B : Type 0} {source : SourceGhosts P} {bench : Ghosts B} {index : IndexView} {begun : List Answered}
    {first_source from : P} {first at : B} {cutter : Cutter} {lines : List CountedLine} {verdicts : List (Replied Answered)}
    (so_far : SoFar source bench (simulation index begun) first_source from first at cutter lines verdicts) {new : Cutter} {after : P}
    (cuts : Cuts source cutter new from after) where
  -- no line was given
  cut_short : (why : Stop) → IsUnplanned source cutter new from after why →
      Judges source bench index begun first_source after first at (Err (Stopped why))
  cut_short stop.Input short = (read_failed so_far cuts short, tt)
  cut_short stop.Limit short = (limit_passed so_far cuts short, tt)
  cut_short stop.NoMemory short = (wants_memory so_far short, tt)
  cut_short other short = absurd short

  -- no line is left
  none_is_left : GivesNone source cutter new from after → Judges source bench index begun first_source after first at (Ok tt)
  none_is_left none = (all_read so_far cuts none (length-replies (IsVerdict index) begun (exchanges lines) verdicts so_far.due), tt)

-- ---- a question, and the sending of its verdict

module _ {P B : Type 0} {source : SourceGhosts P} {bench : Ghosts B} {index : IndexView} {begun : List Answered}
    {first_source from : P} {first at : B} {cutter : Cutter} {core : Audited} {line : ℕ}
    (turn : Turn source bench index begun first_source from first at cutter core line) {new : Cutter} {after : P}
    (cuts : Cuts source cutter new from after) where
  module _ {expected : Expected} (question : GivesQuestion source cutter new from after index core.history expected) where
    expects : Expects index (begun ++ records_of turn.verdicts) question.line expected
    expects = subst (λ (h : List Answered). Expects index h question.line expected) turn.history question.expects

    are_with : AreVerdicts index begun (turn.lines ++ question.line ∷ []) (turn.verdicts ++ verdict_with expected None ∷ [])
    are_with = question-push index begun turn.lines turn.verdicts turn.so_far.due turn.even question.line expected expects

    -- it was sent
    pub asked_half : {sending : B} → SendsAll bench at sending (line_of expected) →
        Half source bench index begun first_source after first sending new core (line + 2) expected
    asked_half sends = record {
      lines = turn.lines;
      verdicts = turn.verdicts;
      question = question.line;
      so_far = text_sent turn.so_far cuts question.gives (verdict_with expected None) are_with sends;
      before = turn.so_far.due;
      expects = expects;
      even = turn.even;
      line_is = ap (λ (n : ℕ). n + 2) turn.line_is;
      history = turn.history;
      setting = turn.setting;
    }

    -- it couldn't be
    asked_unsent : {sending : B} → SendsPart bench at sending (line_of expected) →
        Judges source bench index begun first_source after first sending (Err (Stopped stop.Bench))
    asked_unsent fails = (text_unsent turn.so_far cuts question.gives (verdict_with expected None) are_with fails, tt)

  -- no verdict was sent
  pub unjudged : {sending : B} (why : Stop) → IsUnjudged source bench cutter new from after at sending index core.history why →
      Judges source bench index begun first_source after first sending (Err (Stopped why))
  unjudged {sending} why (inl is) =
      subst (λ (b : B). Judges source bench index begun first_source after first b (Err (Stopped why))) (sym is.1)
      (cut_short turn.so_far cuts why is.0)
  unjudged {sending} why (inr is) =
      subst (λ (s : Stop). Judges source bench index begun first_source after first sending (Err (Stopped s))) (sym is.0)
      (asked_unsent is.1.question is.1.fails)

  -- no question is left
  pub none_left : {sending : B} → GivesNone source cutter new from after → sending ≡ at →
      Judges source bench index begun first_source after first sending (Ok tt)
  none_left none same =
      subst (λ (b : B). Judges source bench index begun first_source after first b (Ok tt)) (sym same) (none_is_left turn.so_far cuts none)

-- ---- the line that was shown to it

module _ {P B : Type 0} {source : SourceGhosts P} {bench : Ghosts B} {index : IndexView} {begun : List Answered}
    {first_source from : P} {first at : B} {cutter : Cutter} {core : Audited} {line : ℕ} {expected : Expected}
    (half : Half source bench index begun first_source from first at cutter core line expected) {new : Cutter} {after : P}
    (cuts : Cuts source cutter new from after) where
  abbrev asked : List CountedLine
  asked = half.lines ++ half.question ∷ []

  module _ {shown : CountedLine} (gives : GivesLine source cutter new from after shown) where
    many : length (asked ++ shown ∷ []) ≡ length half.lines + 2
    many = omega (arith, length-append asked (shown ∷ []), length-append half.lines (half.question ∷ []))

    -- it agrees
    agreed : (added : Option Answered) → AgreesWith shown expected added → {core_now : Audited} →
        core_now.history ≡ core.history ++ option_to_list added → core_now.setting ≡ core.setting →
        Turn source bench index begun first_source after first at new core_now line
    agreed added agrees history setting =
        let sent : Replied Answered = verdict_with expected None in
        let out : Replied Answered = verdict_with expected added in
        let bytes : Replied Answered → List ℕ = λ r. r.bytes in
        record {
          lines = asked ++ shown ∷ [];
          verdicts = half.verdicts ++ out ∷ [];
          so_far =
              only_read half.so_far cuts gives (half.verdicts ++ out ∷ [])
              (agreed-push index begun half.lines half.verdicts half.before half.even half.question expected half.expects shown added agrees)
              (bytes-push bytes half.verdicts out ∙ sym (bytes-push bytes half.verdicts sent))
              (length-append half.verdicts (out ∷ []) ∙ sym (length-append half.verdicts (sent ∷ [])));
          even = omega (arith, many, half.even, length-append half.verdicts (out ∷ []));
          line_is = omega (arith, many, half.line_is);
          history =
              history ∙ ap (λ (l : List Answered). l ++ option_to_list added) half.history
              ∙ append_assoc begun (records_of half.verdicts) (option_to_list added)
              ∙ ap (λ (l : List Answered). begun ++ l) (sym (records-push half.verdicts out));
          setting = setting ∙ half.setting;
        }

    -- it doesn't
    module _ (called : OneReplyIsCalledFor) (due : OneVerdictIsDue) (not_agreed : (added : Option Answered) → AgreesWith shown expected added → ⊥) where
      none_with : (more : List (Replied Answered)) → AreVerdicts index begun (asked ++ shown ∷ []) more → ⊥
      none_with more are =
          let exchange : Exchange = record { question = half.question; shown = Some shown } in
          let split : exchanges (asked ++ shown ∷ []) ≡ exchanges half.lines ++ exchange ∷ [] =
          ap exchanges (append_assoc half.lines (half.question ∷ []) (shown ∷ []))
          ∙ exchanges-append half.lines (half.question ∷ shown ∷ []) (length half.verdicts) half.even in
          none_behind (IsVerdict index) (due index) begun (exchanges half.lines) exchange half.verdicts half.before
          (λ out is. not_agreed out.added
          (subst (λ (x : Expected). AgreesWith shown x out.added)
          (called index (begun ++ records_of half.verdicts) half.question is.expected expected is.expects half.expects) is.taken)) more
          (subst (λ (es : List Exchange). AreReplies (IsVerdict index) begun es more) split are)

      read_whole : LinesSoFar source first_source after new (asked ++ shown ∷ [])
      read_whole = read_now half.so_far cuts gives

      module _ (t : source.told) where
        abbrev behind : List CountedLine
        behind = counted_lines (new.pending ++ source.left after)

        abbrev reads : ReadsLines (source.left first_source) (new.pending ++ source.left after) new.ended (asked ++ shown ∷ [])
        reads = read_whole.reads t

        first_are : take line (counted_lines (source.left first_source)) ≡ asked ++ shown ∷ []
        first_are =
            ap (λ (n : ℕ). take n (counted_lines (source.left first_source))) (omega (arith, many, half.line_is))
            ∙ ap (λ (ls : List CountedLine). take (length (asked ++ shown ∷ [])) ls) reads.counted ∙ take-append_seam (asked ++ shown ∷ []) behind

        asked_are : take (line - 1) (counted_lines (source.left first_source)) ≡ asked
        asked_are =
            ap (λ (n : ℕ). take n (counted_lines (source.left first_source))) (omega (arith, half.line_is, length-append half.lines (half.question ∷ [])))
            ∙ ap (λ (ls : List CountedLine). take (length asked) ls) (reads.counted ∙ append_assoc asked (shown ∷ []) behind)
            ∙ take-append_seam asked (shown ∷ behind)

        disagrees_at : DisagreesAt index begun (counted_lines (source.left first_source)) line (due_of expected)
            (half.verdicts ++ verdict_with expected None ∷ [])
        disagrees_at = record {
          within =
              omega (arith, many, half.line_is, ap (λ (ls : List CountedLine). length ls) reads.counted, length-append (asked ++ shown ∷ []) behind);
          is_reply = omega (arith, half.line_is, half.even, length-append half.verdicts (verdict_with expected None ∷ []));
          are =
              subst (λ (ls : List CountedLine). AreVerdicts index begun ls (half.verdicts ++ verdict_with expected None ∷ [])) (sym asked_are)
              half.so_far.due;
          earlier = half.verdicts;
          expected = expected;
          due_is = refl;
          last_is = refl;
          none_with = λ more are. none_with more (subst (λ (ls : List CountedLine). AreVerdicts index begun ls more) first_are are);
        }

        within_limit : IsWithinLimit (source.left first_source) line
        within_limit = record {
          read = reads.read;
          behind = new.pending ++ source.left after;
          split = reads.split;
          short =
              omega (
                arith,
                ap (λ (l : List ℕ). length l) reads.split,
                length-append reads.read (new.pending ++ source.left after),
                length-append new.pending (source.left after),
                read_whole.within,
                read_whole.taken t,
              );
          inside =
              ⊎_elim (λ (is : IsRead reads.read (asked ++ shown ∷ [])). inl (omega (
                arith,
                many,
                half.line_is,
                ap (λ (ls : List CountedLine). length ls)
                    (sym (ap whole_lines (append-nil reads.read)) ∙ is [] ∙ append-nil (asked ++ shown ∷ [])),
              ))) (λ over. inr over.1) reads.whole;
        }

      disagreed : Judges source bench index begun first_source after first at (Err (Refused (refusal.Disagrees line (due_of expected))))
      disagreed = (talk.refused half.so_far (refusal.Disagrees line (due_of expected)) disagrees_at within_limit gives.steady, tt)

  -- no line was given
  pub unshown : (why : Stop) → IsUnplanned source cutter new from after why →
      Judges source bench index begun first_source after first at (Err (Stopped why))
  unshown = cut_short half.so_far cuts

  -- the transcript goes on
  pub went_on : (shown : Option Shown) → ShowsNext source cutter new from after expected shown → Ok true ≡ goes_on shown line (due_of expected) →
      {core_now : Audited} → core_now.history ≡ core.history ++ records_shown shown → core_now.setting ≡ core.setting →
      Turn source bench index begun first_source after first at new core_now line
  went_on (Some (Agrees added)) shows is history setting = agreed shows.gives added shows.comes_to history setting
  went_on (Some Disagrees) shows is history setting = absurd (search rules)
  went_on None shows is history setting = absurd (search rules)

  -- it ends with a question
  pub ended : (shown : Option Shown) → ShowsNext source cutter new from after expected shown → Ok false ≡ goes_on shown line (due_of expected) →
      Judges source bench index begun first_source after first at (Ok tt)
  ended (Some (Agrees added)) shows is = absurd (search rules)
  ended (Some Disagrees) shows is = absurd (search rules)
  ended None shows is = none_is_left half.so_far cuts shows

  -- it ends with a reply that doesn't agree
  pub refused : OneReplyIsCalledFor → OneVerdictIsDue → (shown : Option Shown) → ShowsNext source cutter new from after expected shown →
      (why : End SimulationRefusal) → Err why ≡ goes_on shown line (due_of expected) →
      Judges source bench index begun first_source after first at (Err why)
  refused called due (Some (Agrees added)) shows why is = absurd (search rules)
  refused called due (Some Disagrees) shows why is =
      subst (λ (r : Result (Unit {0}) (End SimulationRefusal)). Judges source bench index begun first_source after first at r) (search rules)
      (disagreed shows.gives called due shows.comes_to)
  refused called due None shows why is = absurd (search rules)
