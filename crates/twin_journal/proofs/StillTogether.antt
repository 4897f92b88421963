-- Files that keep together still do after a crash.
use Rattle.std.proofs.Common.{◌≡◌, ℕ, ◌≤◌, List, ◌++◌, length, take, refl, sym, ◌∙◌, ap, subst, append_assoc, arith, inl, inr, ◌⊎◌}
use Rattle.std.proofs.Math.Seq.{take-append_seam}
use Rattle.std.proofs.lemmas.Bool.{cases_lt}
use Rattle.std.proofs.lemmas.List.{take-take}
use Rattle.audit_types.specs.declared.records.Answered.{Answered}
use Rattle.audit_types.specs.History.{IsLegal}
use Rattle.table_load.specs.Database.{Database, IsDatabase, table_in}
use Rattle.line_wire.specs.Lines.{CountedLine}
use Rattle.question_plan.specs.Session.{records_of}
use Rattle.audit_session.specs.Stops.{IsFront, stands_over}
use Rattle.audit_session.specs.Laws.{StopsAreInOrder}
use Rattle.twin_journal.specs.Fronts.{legal_begins}
use Rattle.twin_journal.specs.Twins.{CatchesUpOrStops, KeepTogether, KeepWhole, SpareCatchesUpOrStops}
use Rattle.twin_journal.proofs.CatchingUp.{front_of_all, own_front}

-- a front is the first records of the whole
front_is : (front whole : List Answered) → IsFront front whole → take (length front) whole ≡ front
front_is front whole is = ap (λ (h : List Answered). take (length front) h) is.is ∙ take-append_seam front is.rest

-- the shorter of two fronts begins the longer
shorter_begins : (one two whole : List Answered) → length one ≤ length two → IsFront one whole → IsFront two whole → IsFront one two
shorter_begins one two whole le first second =
    let same : take (length one) two ≡ one = ap (λ (h : List Answered). take (length one) h) (sym (front_is two whole second))
    ∙ take-take (length one) (length two) whole le ∙ front_is one whole first in
    subst (λ (h : List Answered). IsFront h two) same (front_of_all two (length one))

-- of two fronts of one history one begins the other
fronts_in_order : (one two whole : List Answered) → IsFront one whole → IsFront two whole → IsFront one two ⊎ IsFront two one
fronts_in_order one two whole first second = elim (cases_lt (length one) (length two)) [
  | inl less ↦ inl (shorter_begins one two whole (omega (arith, less)) first second)
  | inr le ↦ inr (shorter_begins two one whole (omega (arith, le)) second first)
]

-- a front of a history begins that with more records
front_of_more : (front whole more : List Answered) → IsFront front whole → IsFront front (whole ++ more)
front_of_more front whole more is = record { rest = is.rest ++ more; is = ap (λ (h : List Answered). h ++ more) is.is ∙ append_assoc front is.rest more }

module _ (base : Database) (image spare : List ℕ) where
  -- files that stand for legal histories, of which one begins the other, keep together
  keep : (main other : List Answered) → stands_over base image main → stands_over base spare other → IsLegal (table_in base) main
      → IsLegal (table_in base) other → IsFront main other ⊎ IsFront other main → (now : List Answered) × KeepWhole (table_in base) image spare now
  keep main other stands spare_stands legal spare_legal order = elim order [
    | inl front ↦ (other, (main, other, together other front (own_front other) (inr refl) spare_legal))
    | inr front ↦ (main, (main, other, together main (own_front main) front (inl refl) legal))
  ]
    where
      together : (whole : List Answered) → IsFront main whole → IsFront other whole → (main ≡ whole) ⊎ (other ≡ whole) → IsLegal (table_in base) whole
          → KeepTogether (table_in base) image spare main other whole
      together whole front spare_front longer legal = record {
        main_stands = stands;
        spare_stands = spare_stands;
        main_front = front;
        spare_front = spare_front;
        longer = longer;
        legal = legal;
      }

pub still_together : (order : StopsAreInOrder) (base : Database) (batch : ℕ) (file spare : List ℕ) (main other whole : List Answered)
    (lines : List CountedLine) (before sent image spare_before spare_sent spare_image : List ℕ) → IsDatabase base
    → KeepTogether (table_in base) file spare main other whole → CatchesUpOrStops base batch main whole lines before image sent
    → SpareCatchesUpOrStops base batch other whole lines spare_before spare_image spare_sent
    → (now : List Answered) × KeepWhole (table_in base) image spare_image now
still_together order base batch file spare main other whole lines before sent image spare_before spare_sent spare_image is together (inl found) (inl beside) =
    keep base image spare_image found.1.now beside.1.now found.1.stands beside.1.stands
    (legal_begins (table_in base) found.1.now whole found.1.to together.legal)
    (legal_begins (table_in base) beside.1.now whole beside.1.to together.legal) (fronts_in_order found.1.now beside.1.now whole found.1.to beside.1.to)
still_together order base batch file spare main other whole lines before sent image spare_before spare_sent spare_image is together (inl found) (inr beside) =
    let stop = beside.1.1.2 in
    let legal = (order base batch whole lines spare_image beside.1.1.0 spare_image beside.1.1.0 stop stop).1 is together.legal in
    keep base image spare_image found.1.now (whole ++ records_of stop.replies) found.1.stands stop.stands_for
    (legal_begins (table_in base) found.1.now whole found.1.to together.legal) legal.0
    (inl (front_of_more found.1.now whole (records_of stop.replies) found.1.to))
still_together order base batch file spare main other whole lines before sent image spare_before spare_sent spare_image is together (inr found) (inl beside) =
    let stop = found.2 in
    let legal = (order base batch whole lines image found.0 image found.0 stop stop).1 is together.legal in
    keep base image spare_image (whole ++ records_of stop.replies) beside.1.now stop.stands_for beside.1.stands legal.0
    (legal_begins (table_in base) beside.1.now whole beside.1.to together.legal)
    (inr (front_of_more beside.1.now whole (records_of stop.replies) beside.1.to))
still_together order base batch file spare main other whole lines before sent image spare_before spare_sent spare_image is together (inr found) (inr beside) =
    let stop = found.2 in
    let spare_stop = beside.1.1.2 in
    let both = order base batch whole lines image found.0 spare_image beside.1.1.0 stop spare_stop in
    let legal = both.1 is together.legal in
    keep base image spare_image (whole ++ records_of stop.replies) (whole ++ records_of spare_stop.replies) stop.stands_for spare_stop.stands_for legal.0
    legal.1 both.0
