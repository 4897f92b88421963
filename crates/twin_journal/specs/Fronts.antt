-- Both histories of files that keep together are legal.
use Rattle.std.proofs.Common.{List, length, take, ap, subst, ◌∙◌, ℕ}
use Rattle.std.proofs.Math.Seq.{take-append_seam}
use Rattle.audit_types.specs.declared.records.Answered.{Answered}
use Rattle.audit_types.specs.History.{Table, IsLegal}
use Rattle.audit_core.specs.LegalFronts.{legal_front}
use Rattle.audit_session.specs.Stops.{IsFront}
use Rattle.twin_journal.specs.Twins.{KeepTogether}

-- a front of a legal history is legal
pub legal_begins : (table : Table) (front whole : List Answered) → IsFront front whole → IsLegal table whole → IsLegal table front
legal_begins table front whole is legal =
    subst (λ (h : List Answered). IsLegal table h) (ap (λ (h : List Answered). take (length front) h) is.is ∙ take-append_seam front is.rest)
    (legal_front table whole (length front) legal)

module _ (table : Table) (file spare : List ℕ) (main other whole : List Answered) (keep : KeepTogether table file spare main other whole) where
  -- that of the journal
  pub main_is_legal : IsLegal table main
  main_is_legal = legal_begins table main whole keep.main_front keep.legal

  -- and that of the spare
  pub spare_is_legal : IsLegal table other
  spare_is_legal = legal_begins table other whole keep.spare_front keep.legal
