-- Why two journals aren't opened: one cause at most holds, and none of files that keep together.
use Rattle.std.proofs.Common.{◌≡◌, ℕ, ◌<◌, inl, inr, List, refl, sym, ap, subst, ◌∙◌, arith}
use Rattle.std.proofs.lemmas.Bool.{cases_lt}
use Rattle.std.proofs.lemmas.Option.{same_Some}
use Rattle.audit_types.specs.declared.records.Answered.{Answered}
use Rattle.audit_types.specs.declared.shapes.Shape.{Shape}
use Rattle.audit_types.specs.History.{Table, IsLegal}
use Rattle.journal_form.specs.Journal.{StandsAt, StandsFor}
use Rattle.bench_core.specs.Ends.{EndsBy, IsDueUnlessStopped, IsRefusal, IsStop, refused_as, turned_end}
use Rattle.bench_core.specs.EndLaws.{renamed_due, renamed_stopped, stopped_is_due, turned_due, turned_stopped}
use Rattle.bench_core.specs.Stops.{IsOfBenches}
use Rattle.bench_core.specs.declared.stops.End.{End}
use Rattle.bench_core.specs.declared.stops.End.TheVariants.{Stopped, Refused}
use Rattle.answer_journal.specs.declared.refusals.JournalRefusal.{JournalRefusal}
use Rattle.audit_store.specs.Starting.{StartCause}
use Rattle.audit_session.specs.Stops.{IsFront}
use Rattle.twin_journal.specs.declared.starting.TwinRefusal.{TwinRefusal}
use Rattle.twin_journal.specs.declared.starting.TwinRefusal.TheVariants.{Main, Spare, Differ}
use Rattle.twin_journal.specs.Twins.{DifferFirst, HoldApart, IsDiffer, KeepTogether, Meet, TwinCause}
use Rattle.twin_journal.proofs.CatchingUp.{get_in_whole}

-- the journal isn't refused
abbrev pub IsNotMain : TwinRefusal → Type 0
IsNotMain (Main refusal) = ⊥
IsNotMain refusal = Unit {0}

-- the journals, if they differ, aren't refused for what one of them is
pub refused_differ : {P : Type 0} (refusal : TwinRefusal) → IsDiffer refusal → ((place : ℕ) → refusal ≡ Differ place → P) → P
refused_differ (Main refusal) is differ = absurd is
refused_differ (Spare refusal) is differ = absurd is
refused_differ (Differ place) is differ = differ place refl

-- if the catching up is refused, they differ
pub only_read : (end : End TwinRefusal) (P : Type 0) → EndsBy IsOfBenches IsDiffer end → IsRefusal end → ((place : ℕ) → end ≡ Refused (Differ place) → P) → P
only_read (Stopped stop) P by refused differ = absurd refused
only_read (Refused refusal) P by refused differ = refused_differ refusal by (λ place is. differ place (ap (λ (r : TwinRefusal). Refused r) is))

module _ (file spare : List ℕ) (table : Table) where
  -- ---- the journal wasn't opened

  module _ (end : End JournalRefusal) where
    main_stopped : (due : TwinRefusal) → IsStop end → IsDueUnlessStopped due (refused_as Main end)
    main_stopped due stopped = stopped_is_due (refused_as Main end) due (renamed_stopped Main end stopped)

    pub main_due : (due : TwinRefusal) → ((d : JournalRefusal) → StartCause d file table → IsDueUnlessStopped d end)
        → ((history : List Answered) → StandsFor file table.setting.shape history → IsLegal table history → IsStop end)
        → TwinCause due file spare table → IsDueUnlessStopped due (refused_as Main end)
    main_due (Main d) due opens cause = renamed_due Main end d (due d cause)
    main_due (Spare d) due opens cause = main_stopped (Spare d) (opens cause.0.0 cause.0.1 cause.0.2)
    main_due (Differ place) due opens cause = main_stopped (Differ place) (opens cause.0 cause.1 cause.2.0)

  -- ---- it was

  module _ (none : (d : JournalRefusal) → StartCause d file table → ⊥) where
    -- the spare wasn't
    module _ (end : End JournalRefusal) where
      spare_stopped : (due : TwinRefusal) → IsStop end → IsDueUnlessStopped due (refused_as Spare (turned_end end))
      spare_stopped due stopped =
          stopped_is_due (refused_as Spare (turned_end end)) due (renamed_stopped Spare (turned_end end) (turned_stopped end stopped))

      pub spare_due : (due : TwinRefusal) → ((d : JournalRefusal) → StartCause d spare table → IsDueUnlessStopped d end)
          → ((history : List Answered) → StandsFor spare table.setting.shape history → IsLegal table history → IsStop end)
          → TwinCause due file spare table → IsDueUnlessStopped due (refused_as Spare (turned_end end))
      spare_due (Main d) due opens cause = absurd (none d cause)
      spare_due (Spare d) due opens cause = renamed_due Spare (turned_end end) d (turned_due end d (due d cause.1))
      spare_due (Differ place) due opens cause = let other = cause.2.1 in spare_stopped (Differ place) (opens other.0 other.1 other.2.0)

    -- it was, too: what is left is that they differ
    pub left_due : ((d : JournalRefusal) → StartCause d spare table → ⊥) → (due : TwinRefusal) → TwinCause due file spare table →
        (place : ℕ) × (due ≡ Differ place) × HoldApart file spare table place
    left_due spare_none (Main d) cause = absurd (none d cause)
    left_due spare_none (Spare d) cause = absurd (spare_none d cause.1)
    left_due spare_none (Differ place) cause = (place, refl, cause)

-- ---- differences

module _ (main other : List Answered) where
  not_before : (a b : ℕ) → DifferFirst main other a → DifferFirst main other b → a < b → ⊥
  not_before a b one two lt =
      one.differ (same_Some one.ours one.theirs (sym one.here ∙ two.before a lt ∙ one.there))

  -- they differ first at one place
  pub differ_once : (a b : ℕ) → DifferFirst main other a → DifferFirst main other b → a ≡ b
  differ_once a b one two = elim (cases_lt a b) [
    | inl lt ↦ absurd (not_before a b one two lt)
    | inr le ↦ elim (cases_lt b a) [ inl lt ↦ absurd (not_before b a two one lt) | inr from ↦ omega arith ]
  ]

  -- histories of which one begins the other don't
  pub meet_or_differ : (whole : List Answered) (place : ℕ) → Meet main other whole → DifferFirst main other place → ⊥
  meet_or_differ whole place meet differ =
      differ.differ
      (same_Some differ.ours differ.theirs
      (sym (get_in_whole main whole place differ.ours meet.main_front differ.here)
      ∙ get_in_whole other whole place differ.theirs meet.other_front differ.there))

-- ---- the histories of two files

-- a file stands for one history of a shape
abbrev pub OneHistory : Type 0
OneHistory =
    (file : List ℕ) (shape other : Shape) (history others : List Answered) (gate place : ℕ) → StandsAt file shape history gate →
    StandsAt file other others place
    → (shape ≡ other) × (history ≡ others) × (gate ≡ place)

module _ (once : OneHistory) (table : Table) (file spare : List ℕ) (main other : List Answered)
    (stands : StandsFor file table.setting.shape main) (spare_stands : StandsFor spare table.setting.shape other) where
  pub same_main : (history : List Answered) → StandsFor file table.setting.shape history → history ≡ main
  same_main history is = (once file table.setting.shape table.setting.shape history main is.0 stands.0 is.1 stands.1).1

  pub same_other : (history : List Answered) → StandsFor spare table.setting.shape history → history ≡ other
  same_other history is = (once spare table.setting.shape table.setting.shape history other is.0 spare_stands.0 is.1 spare_stands.1).1

  -- if they differ, they do at this place
  pub same_place : (place : ℕ) → HoldApart file spare table place → DifferFirst main other place
  same_place place apart =
      let differ : DifferFirst apart.0 apart.2.1.0 place = apart.2.1.2.1 in
      subst (λ (h : List Answered). DifferFirst h other place) (same_main apart.0 apart.1)
      (subst (λ (h : List Answered). DifferFirst apart.0 h place) (same_other apart.2.1.0 apart.2.1.1) differ)

  -- and if they keep together one of these begins the other
  pub together_meet : (m o whole : List Answered) → KeepTogether table file spare m o whole → Meet main other whole
  together_meet m o whole keep =
      let is = same_main m keep.main_stands in
      let are = same_other o keep.spare_stands in
      record {
        main_front = subst (λ (h : List Answered). IsFront h whole) is keep.main_front;
        other_front = subst (λ (h : List Answered). IsFront h whole) are keep.spare_front;
        longer = elim keep.longer [ inl same ↦ inl (sym is ∙ same) | inr same ↦ inr (sym are ∙ same) ];
      }

  -- and back
  pub meet_together : IsLegal table main → IsLegal table other → (whole : List Answered) → Meet main other whole →
      KeepTogether table file spare main other whole
  meet_together legal other_legal whole meet = record {
    main_stands = stands;
    spare_stands = spare_stands;
    main_front = meet.main_front;
    spare_front = meet.other_front;
    longer = meet.longer;
    legal = elim meet.longer [
      | inl same ↦ subst (λ (h : List Answered). IsLegal table h) same legal
      | inr same ↦ subst (λ (h : List Answered). IsLegal table h) same other_legal
    ];
  }
