-- What is known of a question that is denied as unsafe after a legal history.
use Rattle.std.specs.Prelude.{◌≡◌, ℕ, ◌≤◌, List, [], map, length, All, Option}
use Rattle.audit_types.specs.declared.records.Answered.{Answered}
use Rattle.audit_types.specs.declared.records.Asked.{Asked}
use Rattle.audit_types.specs.declared.records.Verdict.TheVariants.{DeniedUnsafe}
use Rattle.audit_types.specs.declared.shapes.Kind.TheVariants.{Sum, Max}
use Rattle.audit_types.specs.Shapes.{kind_at}
use Rattle.audit_types.specs.Column.{known_max, guarding}
use Rattle.audit_types.specs.Headcount.{Headcount}
use Rattle.audit_types.specs.Limits.{most_width}
use Rattle.audit_types.specs.Form.{set_row, InSpan, HasNarrowForm}
use Rattle.audit_types.specs.History.{Setting, Protection, Secrets, FitsShape, AreSecrets, AreProtected, IsLegal, IsDecisionAfter, answers_of}
use Rattle.audit_core.specs.Laws.{sets_before}
use Rattle.max_bounds.specs.Few.{HasFewPeople}
use Rattle.max_audit.specs.Laws.{HasBadCandidate}
use Rattle.denial_proof.specs.declared.proof_parts.Target.{Target}
use Rattle.denial_proof.specs.Canonical.{sets_with_asked, Tells}

-- the history is legal for some table with this setting
pub record IsLegalIn (setting : Setting) (history : List Answered) : Type 0 where
  pub secrets : Secrets
  pub are_secrets : AreSecrets setting.shape secrets
  pub legal : IsLegal (record { setting = setting; secrets = secrets }) history

-- the sets of a column of sums were narrow at every record, by the greatest width
abbrev pub AreNarrowSums : ℕ → ℕ → List Answered → Type 0
AreNarrowSums n column history = (place : ℕ) → place ≤ length history → HasNarrowForm most_width n (sets_before column history place)

-- those of a legal history are such sets
abbrev pub LegalSumsAreNarrow : Type 0
LegalSumsAreNarrow =
    (setting : Setting) (history : List Answered) (column : ℕ) → All (λ r. FitsShape setting.shape r.column r.rows) history → AreProtected setting.shape setting.protected → IsLegalIn setting history →
    kind_at setting.shape column ≡ Sum → AreNarrowSums setting.shape.rows column history

-- the asked set lies outside the span of the column's sets; with it they are narrow by the width, and tell somebody something that is guarded
pub record IsUnsafeSum (n width : ℕ) (history : List Answered) (protected : Protection) (asked : Asked) : Type 0 where
  pub new : ¬ (InSpan (map (set_row n) (sets_before asked.column history (length history))) (set_row n asked.rows.list))
  pub narrow : HasNarrowForm width n (sets_with_asked history asked)
  pub target : Target
  pub own : Option ℕ
  pub told : Tells n protected asked.column (map (set_row n) (sets_with_asked history asked)) own target

-- a sum that is denied as unsafe after a legal history is such a sum
abbrev pub DeniedSumsAreUnsafe : Type 0
DeniedSumsAreUnsafe =
    (setting : Setting) (history : List Answered) (asked : Asked) → All (λ r. FitsShape setting.shape r.column r.rows) history → AreProtected setting.shape setting.protected → IsLegalIn setting history →
    FitsShape setting.shape asked.column asked.rows → kind_at setting.shape asked.column ≡ Sum → IsDecisionAfter setting history asked.column asked.rows.list DeniedUnsafe →
    IsUnsafeSum setting.shape.rows setting.protected.width history setting.protected asked

-- no answer has extreme rows of few people, and some candidate would leave such
pub record IsUnsafeMax (n : ℕ) (people : Headcount) (history : List Answered) (asked : Asked) : Type 0 where
  pub none_few : ¬ (HasFewPeople people (answers_of asked.column history))
  pub bad : HasBadCandidate (guarding (known_max n (answers_of asked.column history)) people []) asked.rows.list

-- a maximum that is denied as unsafe after a legal history is such a maximum
abbrev pub DeniedMaximaAreUnsafe : Type 0
DeniedMaximaAreUnsafe =
    (setting : Setting) (history : List Answered) (asked : Asked) → All (λ r. FitsShape setting.shape r.column r.rows) history → AreProtected setting.shape setting.protected → IsLegalIn setting history →
    FitsShape setting.shape asked.column asked.rows → kind_at setting.shape asked.column ≡ Max → IsDecisionAfter setting history asked.column asked.rows.list DeniedUnsafe →
    IsUnsafeMax setting.shape.rows setting.protected.people history asked
