-- What the history alone determines for the proofs of one column.
use Rattle.std.specs.Prelude.{◌≡◌, ℕ, suc, ◌<◌, List, All}
use Rattle.audit_types.specs.declared.shapes.Kind.TheVariants as kind
use Rattle.audit_types.specs.declared.records.Answered.{Answered}
use Rattle.audit_types.specs.Shapes.{columns, kind_at}
use Rattle.audit_types.specs.History.{Setting, answers_of}
use Rattle.max_audit.specs.Candidates.{AreCandidates, IsNearRange}
use Rattle.denial_proof.specs.declared.prover.Preparation.{Preparation}
use Rattle.denial_proof.specs.declared.prover.Preparation.TheVariants.{Sums, Maxima}
use Rattle.denial_proof.specs.declared.prover.Prover.{Prover}
use Rattle.denial_proof.specs.Kept.{AreMarksOf}

-- the marks of a column of sums, the candidates of one of maxima
abbrev pub IsPreparationOf : Setting → List Answered → ℕ → Preparation → Type 0
IsPreparationOf setting history column (Sums marks) = (kind_at setting.shape column ≡ kind.Sum) × AreMarksOf setting.shape.rows column history (suc setting.protected.people.own) marks.places.items marks.form
IsPreparationOf setting history column (Maxima candidates) = (kind_at setting.shape column ≡ kind.Max) × AreCandidates (answers_of column history) candidates.items × All IsNearRange candidates.items

-- a prover of a column of the table, for questions after this history
pub record IsProverOf (setting : Setting) (history : List Answered) (prover : Prover) : Type 0 where
  pub column_below : prover.column < columns setting.shape
  pub prepared : IsPreparationOf setting history prover.column prover.preparation
