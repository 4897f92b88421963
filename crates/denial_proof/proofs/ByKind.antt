-- A proof for a column of sums or of maxima is one of the question, whose column is of that kind.
use Rattle.std.proofs.Common.{◌≡◌, ℕ, List, sym, ◌∙◌, subst}
use Rattle.std.specs.Prelude.{Result, Ok, Err, IfOk}
use Rattle.audit_types.specs.declared.records.Answered.{Answered}
use Rattle.audit_types.specs.declared.records.Asked.{Asked}
use Rattle.audit_types.specs.declared.shapes.Kind.TheVariants as kind
use Rattle.audit_types.specs.Headcount.{Headcount}
use Rattle.audit_types.specs.Shapes.{kind_at}
use Rattle.audit_types.specs.History.{Setting, Protection}
use Rattle.denial_proof.specs.declared.proof_parts.Proof.{Proof}
use Rattle.denial_proof.specs.declared.proof_parts.Proof.TheVariants.{Sum, Max}
use Rattle.denial_proof.specs.declared.proof_parts.ProveFault.{ProveFault}
use Rattle.denial_proof.specs.Certificates.{IsProof}
use Rattle.denial_proof.specs.Canonical.{IsSumProof, IsMaxProof, IsCanonical, IsSumTooWide, IsTooWide}

module _ (setting : Setting) (history : List Answered) (asked : Asked) (n : ℕ) (records : List Answered) (same_n : n ≡ setting.shape.rows)
    (same : records ≡ history) where
  module _ (entries : Protection) (same_entries : entries ≡ setting.protected) where
    -- what holds of the column's rows, the lent records and the lent entries, holds of those of the table
    pub of_table : (P : ℕ → List Answered → Protection → Type 0) → P n records entries → P setting.shape.rows history setting.protected
    of_table P holds = subst (λ k. P k history setting.protected) same_n
        (subst (λ list. P n list setting.protected) same (subst (P n records) same_entries holds))

    pub of_column : (P : ℕ → List Answered → Protection → Type 0) → P setting.shape.rows history setting.protected → P n records entries
    of_column P holds = subst (λ k. P k records entries) (sym same_n)
        (subst (λ list. P setting.shape.rows list entries) (sym same) (subst (P setting.shape.rows history) (sym same_entries) holds))

    module _ (sums : kind_at setting.shape asked.column ≡ kind.Sum) where
      by_sum : (result : Result Proof ProveFault) → IfOk result (IsSumProof setting.shape.rows history setting.protected asked) →
          IfOk result (IsCanonical setting history asked) × IfOk result (IsProof setting history asked)
      by_sum (Ok (Sum target share times terms count)) is = ((sums, is.0), (sums, is.1))
      by_sum (Ok (Max answer few place high)) is = absurd is
      by_sum (Err fault) is = (tt, tt)

      pub sum_is : (result : Result Proof ProveFault) → IfOk result (IsSumProof n records entries asked) →
          IfOk result (IsCanonical setting history asked) × IfOk result (IsProof setting history asked)
      sum_is result is = by_sum result (of_table (λ k list groups. IfOk result (IsSumProof k list groups asked)) is)

      pub sum_is_narrow : (result : Result Proof ProveFault) → IfOk result (λ proof. ¬ (IsSumTooWide n records entries asked)) →
          IfOk result (λ proof. ¬ (IsTooWide setting history asked))
      sum_is_narrow (Ok proof) none = λ wide. none (of_column (λ k list groups. IsSumTooWide k list groups asked) wide.1)
      sum_is_narrow (Err fault) none = tt

      pub sum_is_wide : IsSumTooWide n records entries asked → IsTooWide setting history asked
      sum_is_wide wide = (sums, of_table (λ k list groups. IsSumTooWide k list groups asked) wide)

  module _ (maxima : kind_at setting.shape asked.column ≡ kind.Max) where
    by_max : (proof : Proof) → IsMaxProof setting.shape.rows setting.protected.people history asked proof → IsCanonical setting history asked proof ×
        IsProof setting history asked proof
    by_max (Sum target share times terms count) is = absurd is
    by_max (Max answer few place high) is = ((maxima, is.0), (maxima, is.1))

    pub max_is : (people : Headcount) → people ≡ setting.protected.people → (proof : Proof) → IsMaxProof n people records asked proof →
        IsCanonical setting history asked proof × IsProof setting history asked proof
    max_is people same_people proof is =
        by_max proof
        (subst (λ p. IsMaxProof setting.shape.rows p history asked proof) same_people
        (subst (λ k. IsMaxProof k people history asked proof) same_n (subst (λ list. IsMaxProof n people list asked proof) same is)))

    -- only sums are too wide
    pub max_is_narrow : ¬ (IsTooWide setting history asked)
    max_is_narrow wide = let both : kind.Sum ≡ kind.Max = sym wide.0 ∙ maxima in absurd cc
