-- Two journals that were read back, and what a crash leaves of each while one of them is brought up.
use Rattle.std.proofs.Common.{◌≡◌, inl, inr, ℕ, ◌+◌, List, refl, sym, ap, subst, ◌∙◌, arith}
use Rattle.audit_types.specs.declared.records.Answered.{Answered}
use Rattle.audit_types.specs.declared.shapes.Shape.{Shape}
use Rattle.audit_types.specs.History.{Table, IsLegal}
use Rattle.bench_core.specs.declared.bench.Bench.{Ghosts}
use Rattle.bench_core.specs.Calls.{IsQuiet, IsUntouched, LeavesOnly, OnlyReads}
use Rattle.bench_core.specs.Moments.{joins, still_quiet, weakens}
use Rattle.journal_form.specs.Journal.{StandsAt, StandsFor}
use Rattle.bench_core.specs.Ends.{EndsBy, IsDueUnlessStopped, IsStop}
use Rattle.bench_core.specs.Stops.{IsOfBenches}
use Rattle.bench_core.specs.declared.stops.End.{End}
use Rattle.bench_core.specs.declared.stops.End.TheVariants.{Stopped, Refused}
use Rattle.answer_journal.specs.declared.refusals.JournalRefusal.{JournalRefusal}
use Rattle.audit_store.specs.Starting.{StartCause}
use Rattle.audit_store.specs.Twice.{calls_to_bring_up}
use Rattle.audit_session.specs.Stops.{IsFront}
use Rattle.twin_journal.specs.declared.starting.TwinRefusal.{TwinRefusal}
use Rattle.twin_journal.specs.declared.starting.TwinRefusal.TheVariants.{Main, Spare, Differ}
use Rattle.twin_journal.specs.Twins.{CatchesUp, DifferFirst, IsDiffer, KeepApart, KeepTogether, KeepWhole, Meet, StandsBetween, TwinCause, calls_to_open, missing}
use Rattle.audit_session.specs.HistoryFacts.{fronts_meet}
use Rattle.twin_journal.proofs.CatchingUp.{own_front, still_between}
use Rattle.twin_journal.proofs.TwinCauses.{OneHistory, differ_once, left_due, meet_or_differ, meet_together, refused_differ, same_main, same_other, same_place, together_meet}

-- while a file is only read it stands for its own history
pub while_read : {D : Type 0} (bench : Ghosts D) (old new : D) (shape : Shape) (history whole : List Answered) → OnlyReads bench old new → IsQuiet bench old
    → StandsFor (bench.file old) shape history → IsFront history whole → LeavesOnly bench old new (CatchesUp shape history whole (bench.sent old))
while_read bench old new shape history whole reads quiet stands front =
    weakens bench old new (IsUntouched (bench.file old) (bench.sent old)) (CatchesUp shape history whole (bench.sent old)) (λ image sent is. (
      is.0,
      record { now = history; stands = subst (λ (f : List ℕ). StandsFor f shape history) (sym is.1) stands; from = own_front history; to = front },
    )) (reads.untouched quiet)

-- files that were only read stand for their own histories
pub read_between : (table : Table) (file spare main_file spare_file : List ℕ) (main other whole : List Answered) → main_file ≡ file → spare_file ≡ spare
    → KeepTogether table file spare main other whole
    → StandsBetween table.setting.shape main whole main_file × StandsBetween table.setting.shape other whole spare_file
read_between table file spare main_file spare_file main other whole same spare_same keep = (
  still_between table.setting.shape main whole main_file keep.main_stands.0
      (subst (λ (f : List ℕ). StandsAt f table.setting.shape main keep.main_stands.0) (sym same) keep.main_stands.1) keep.main_front,
  still_between table.setting.shape other whole spare_file keep.spare_stands.0
      (subst (λ (f : List ℕ). StandsAt f table.setting.shape other keep.spare_stands.0) (sym spare_same) keep.spare_stands.1) keep.spare_front,
)

-- two wholes of the same histories are one
pub meet_once : (main other one two : List Answered) → Meet main other one → Meet main other two → one ≡ two
meet_once main other one two first second = elim first.longer [
  | inl is ↦ elim second.longer [
    | inl are ↦ sym is ∙ are
    | inr are ↦
        sym is ∙ fronts_meet main other (subst (λ (h : List Answered). IsFront main h) (sym are) second.main_front)
        (subst (λ (h : List Answered). IsFront other h) (sym is) first.other_front) ∙ are
  ]
  | inr is ↦ elim second.longer [
    | inr are ↦ sym is ∙ are
    | inl are ↦
        sym is ∙ fronts_meet other main (subst (λ (h : List Answered). IsFront other h) (sym are) second.other_front)
        (subst (λ (h : List Answered). IsFront main h) (sym is) first.main_front) ∙ are
  ]
]

-- one of the files is brought up to the other
pub read_and_catch : {D : Type 0} (bench : Ghosts D) (old mid new : D) (shape : Shape) (history whole : List Answered) → OnlyReads bench old mid →
    IsQuiet bench old
    → StandsFor (bench.file old) shape history → IsFront history whole → LeavesOnly bench mid new (CatchesUp shape history whole (bench.sent mid))
    → LeavesOnly bench old new (CatchesUp shape history whole (bench.sent old))
read_and_catch bench old mid new shape history whole reads quiet stands front rest =
    joins bench old mid new (CatchesUp shape history whole (bench.sent old)) (while_read bench old mid shape history whole reads quiet stands front)
    (subst (λ (sent : List ℕ). LeavesOnly bench mid new (CatchesUp shape history whole sent)) reads.sent rest)

module _ (once : OneHistory) (table : Table) (file spare : List ℕ) (main other : List Answered)
    (stands : StandsFor file table.setting.shape main) (spare_stands : StandsFor spare table.setting.shape other)
    (legal : IsLegal table main) (other_legal : IsLegal table other) where
  -- ---- what each of the files goes through

  pub main_catches : {D : Type 0} (bench : Ghosts D) (old mid new : D) → bench.file old ≡ file → OnlyReads bench old mid → IsQuiet bench old
      → ((whole : List Answered) → IsQuiet bench mid → Meet main other whole →
      LeavesOnly bench mid new (CatchesUp table.setting.shape main whole (bench.sent mid)))
      → (m o whole : List Answered) → KeepTogether table file spare m o whole →
      LeavesOnly bench old new (CatchesUp table.setting.shape m whole (bench.sent old))
  main_catches bench old mid new same reads quiet rest m o whole keep =
      let meet = together_meet once table file spare main other stands spare_stands m o whole keep in
      subst (λ (h : List Answered). LeavesOnly bench old new (CatchesUp table.setting.shape h whole (bench.sent old)))
      (sym (same_main once table file spare main other stands spare_stands m keep.main_stands))
      (read_and_catch bench old mid new table.setting.shape main whole reads quiet
      (subst (λ (f : List ℕ). StandsFor f table.setting.shape main) (sym same) stands)
      meet.main_front (rest whole (still_quiet bench old mid reads quiet) meet))

  pub spare_catches : {D : Type 0} (bench : Ghosts D) (old mid new : D) → bench.file old ≡ spare → OnlyReads bench old mid → IsQuiet bench old
      → ((whole : List Answered) → IsQuiet bench mid → Meet main other whole →
      LeavesOnly bench mid new (CatchesUp table.setting.shape other whole (bench.sent mid)))
      → (m o whole : List Answered) → KeepTogether table file spare m o whole →
      LeavesOnly bench old new (CatchesUp table.setting.shape o whole (bench.sent old))
  spare_catches bench old mid new same reads quiet rest m o whole keep =
      let meet = together_meet once table file spare main other stands spare_stands m o whole keep in
      subst (λ (h : List Answered). LeavesOnly bench old new (CatchesUp table.setting.shape h whole (bench.sent old)))
      (sym (same_other once table file spare main other stands spare_stands o keep.spare_stands))
      (read_and_catch bench old mid new table.setting.shape other whole reads quiet
      (subst (λ (f : List ℕ). StandsFor f table.setting.shape other) (sym same) spare_stands)
      meet.other_front (rest whole (still_quiet bench old mid reads quiet) meet))

  -- if memory runs out meanwhile both stand between
  pub left_between : (left spare_left : List ℕ) → ((whole : List Answered) → Meet main other whole → StandsBetween table.setting.shape main whole left)
      → ((whole : List Answered) → Meet main other whole → StandsBetween table.setting.shape other whole spare_left)
      → (m o whole : List Answered) → KeepTogether table file spare m o whole
      → StandsBetween table.setting.shape m whole left × StandsBetween table.setting.shape o whole spare_left
  left_between left spare_left rest spare_rest m o whole keep =
      let meet = together_meet once table file spare main other stands spare_stands m o whole keep in (
        subst (λ (h : List Answered). StandsBetween table.setting.shape h whole left)
            (sym (same_main once table file spare main other stands spare_stands m keep.main_stands)) (rest whole meet),
        subst (λ (h : List Answered). StandsBetween table.setting.shape h whole spare_left)
            (sym (same_other once table file spare main other stands spare_stands o keep.spare_stands)) (spare_rest whole meet),
      )

  -- if the files don't keep together, no history has both as fronts
  pub apart_never_meet : KeepApart table file spare → (whole : List Answered) → Meet main other whole → ⊥
  apart_never_meet apart whole meet = apart main other whole (meet_together once table file spare main other stands spare_stands legal other_legal whole meet)

  -- ---- the end that is due

  -- if the catching up is refused, they differ
  pub refused_cause : (refusal : TwinRefusal) → IsDiffer refusal → ((place : ℕ) → refusal ≡ Differ place → DifferFirst main other place) →
      TwinCause refusal file spare table
  refused_cause (Main refusal) is differ = absurd is
  refused_cause (Spare refusal) is differ = absurd is
  refused_cause (Differ place) is differ = (main, stands, (legal, (other, spare_stands, (other_legal, differ place refl))))

  pub refused_due : (end : End TwinRefusal) (due : TwinRefusal) → EndsBy IsOfBenches IsDiffer end
      → ((place : ℕ) → end ≡ Refused (Differ place) → DifferFirst main other place)
      → ((d : JournalRefusal) → StartCause d file table → ⊥) → ((d : JournalRefusal) → StartCause d spare table → ⊥)
      → TwinCause due file spare table → IsDueUnlessStopped due end
  refused_due (Stopped stop) due by differ none spare_none cause = tt
  refused_due (Refused refusal) due by differ none spare_none cause = refused_differ refusal by (λ place is.
      let left = left_due file spare table none spare_none due cause in
      let same : place ≡ left.0 = differ_once main other place left.0 (differ place (ap (λ (r : TwinRefusal). Refused r) is))
      (same_place once table file spare main other stands spare_stands left.0 left.2) in
      is ∙ ap (λ (n : ℕ). Differ n) same ∙ sym left.1)

  pub refused_opens : (end : End TwinRefusal) → EndsBy IsOfBenches IsDiffer end
      → ((place : ℕ) → end ≡ Refused (Differ place) → DifferFirst main other place)
      → (m o whole : List Answered) → KeepTogether table file spare m o whole → IsStop end
  refused_opens (Stopped stop) by differ m o whole keep = tt
  refused_opens (Refused refusal) by differ m o whole keep = refused_differ refusal by (λ place is.
      meet_or_differ main other whole place (together_meet once table file spare main other stands spare_stands m o whole keep)
      (differ place (ap (λ (r : TwinRefusal). Refused r) is)))

  module _ (now : List Answered) (meet : Meet main other now) where
    -- if it isn't, the files keep together, with the history that both then stand for
    pub caught_together : KeepWhole table file spare now
    caught_together = (main, other, meet_together once table file spare main other stands spare_stands legal other_legal now meet)

    pub caught_longer : (m o whole : List Answered) → KeepTogether table file spare m o whole → now ≡ whole
    caught_longer m o whole keep = meet_once main other now whole meet (together_meet once table file spare main other stands spare_stands m o whole keep)

    pub caught_due : ((d : JournalRefusal) → StartCause d file table → ⊥) → ((d : JournalRefusal) → StartCause d spare table → ⊥)
        → (due : TwinRefusal) → TwinCause due file spare table → ⊥
    caught_due none spare_none due cause =
        let left = left_due file spare table none spare_none due cause in
        meet_or_differ main other now left.0 meet (same_place once table file spare main other stands spare_stands left.0 left.2)

    -- and so many calls were made
    pub main_calls : (before mid after : ℕ) → mid ≡ before + 2 → after ≡ mid + calls_to_bring_up (missing main now) → (m o whole : List Answered) →
        KeepTogether table file spare m o whole
        → after ≡ before + calls_to_open m whole
    main_calls before mid after read caught m o whole keep =
        omega (arith, read, caught)
        ∙ ap (λ (h : List Answered). before + calls_to_open h now) (sym (same_main once table file spare main other stands spare_stands m keep.main_stands))
        ∙ ap (λ (h : List Answered). before + calls_to_open m h) (caught_longer m o whole keep)

    pub spare_calls : (before mid after : ℕ) → mid ≡ before + 2 → after ≡ mid + calls_to_bring_up (missing other now) → (m o whole : List Answered) →
        KeepTogether table file spare m o whole
        → after ≡ before + calls_to_open o whole
    spare_calls before mid after read caught m o whole keep =
        omega (arith, read, caught)
        ∙ ap (λ (h : List Answered). before + calls_to_open h now) (sym (same_other once table file spare main other stands spare_stands o keep.spare_stands))
        ∙ ap (λ (h : List Answered). before + calls_to_open o h) (caught_longer m o whole keep)
