-- The laws of proofs of danger.
use Rattle.std.specs.Prelude.{◌≡◌, List, All}
use Rattle.audit_types.specs.declared.records.Answered.{Answered}
use Rattle.audit_types.specs.declared.records.Asked.{Asked}
use Rattle.audit_types.specs.Column.{IsPossible, IsDangerous}
use Rattle.audit_types.specs.declared.records.Verdict.TheVariants.{DeniedUnsafe}
use Rattle.audit_types.specs.History.{Setting, FitsShape, AreProtected, IsDecisionAfter, known_of}
use Rattle.denial_proof.specs.declared.proof_parts.Proof.{Proof}
use Rattle.denial_proof.specs.Certificates.{IsProof}
use Rattle.denial_proof.specs.Canonical.{IsCanonical}
use Rattle.denial_proof.specs.Denied.{IsLegalIn}

-- what has a proof is dangerous, after every history that some table gives
abbrev pub ProofsShowDanger : Type 0
ProofsShowDanger =
    (setting : Setting) (history : List Answered) (asked : Asked) (proof : Proof) →
    All (λ r. FitsShape setting.shape r.column r.rows) history → All (λ p. FitsShape setting.shape p.column p.rows) setting.protected.groups →
    FitsShape setting.shape asked.column asked.rows → IsPossible (known_of setting history asked.column) → IsProof setting history asked proof →
    IsDangerous (known_of setting history asked.column) asked.rows.list

-- a question that is denied as unsafe after a legal history has at most one canonical proof
abbrev pub CanonicalProofsAreOne : Type 0
CanonicalProofsAreOne =
    (setting : Setting) (history : List Answered) (asked : Asked) (a b : Proof) → AreProtected setting.shape setting.protected → IsLegalIn setting history →
    FitsShape setting.shape asked.column asked.rows → IsDecisionAfter setting history asked.column asked.rows.list DeniedUnsafe →
    IsCanonical setting history asked a → IsCanonical setting history asked b → a ≡ b
