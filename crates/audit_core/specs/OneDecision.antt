-- A question has one decision after a history, and one judgement.
use Rattle.std.proofs.Common.{◌≡◌, ℕ, List, refl, sym, subst, ◌∙◌}
use Rattle.audit_types.specs.declared.records.Verdict.{Verdict}
use Rattle.audit_types.specs.declared.records.Verdict.TheVariants.{Released, DeniedUnsafe, DeniedWide}
use Rattle.audit_types.specs.declared.shapes.Kind.{Kind}
use Rattle.audit_types.specs.declared.shapes.Kind.TheVariants as kind
use Rattle.audit_types.specs.Column.{Known}
use Rattle.audit_types.specs.Judgement.{IsWideFor, IsWithinWidthFor, IsDecision, IsJudgement, sets_with}
use Rattle.audit_types.specs.Reach.{IsWithinBounds}
use Rattle.sum_basis.specs.Laws.{SetsHaveOneForm}

-- a sum or a maximum isn't both too wide and within width
pub never_both : SetsHaveOneForm → (k : Kind) (known : Known) (rows : List ℕ) → IsWideFor k known rows → IsWithinWidthFor k known rows → ⊥
never_both forms kind.Sum known rows (other, is, wide) (form, reduced, within) =
    let one = forms known.n (sets_with known rows) in
    wide (subst (IsWithinBounds known (sets_with known rows)) (one.2 form reduced ∙ sym (one.2 other is)) within)
never_both forms kind.Max known rows wide within = wide

-- a decision is one
pub one_decision : SetsHaveOneForm → (known : Known) (rows : List ℕ) (v w : Verdict) → IsDecision known rows v → IsDecision known rows w → v ≡ w
one_decision forms known rows DeniedWide DeniedWide first second = refl
one_decision forms known rows DeniedWide DeniedUnsafe first second = absurd (never_both forms known.kind known rows first second.0)
one_decision forms known rows DeniedWide Released first second = absurd (never_both forms known.kind known rows first second.0)
one_decision forms known rows DeniedUnsafe DeniedWide first second = absurd (never_both forms known.kind known rows second first.0)
one_decision forms known rows DeniedUnsafe DeniedUnsafe first second = refl
one_decision forms known rows DeniedUnsafe Released first second = absurd (second.1 first.1)
one_decision forms known rows Released DeniedWide first second = absurd (never_both forms known.kind known rows second first.0)
one_decision forms known rows Released DeniedUnsafe first second = absurd (first.1 second.1)
one_decision forms known rows Released Released first second = refl

-- so is a judgement
pub one_judgement : SetsHaveOneForm → (known : Known) (rows : List ℕ) (v w : Verdict) → IsJudgement known rows v → IsJudgement known rows w → v ≡ w
one_judgement forms known rows DeniedWide DeniedWide first second = refl
one_judgement forms known rows DeniedWide DeniedUnsafe first second = absurd (never_both forms known.kind known rows first second.0)
one_judgement forms known rows DeniedWide Released first second = absurd (never_both forms known.kind known rows first second.0)
one_judgement forms known rows DeniedUnsafe DeniedWide first second = absurd (never_both forms known.kind known rows second first.0)
one_judgement forms known rows DeniedUnsafe DeniedUnsafe first second = refl
one_judgement forms known rows DeniedUnsafe Released first second = absurd (second.1 first.1)
one_judgement forms known rows Released DeniedWide first second = absurd (never_both forms known.kind known rows second first.0)
one_judgement forms known rows Released DeniedUnsafe first second = absurd (first.1 second.1)
one_judgement forms known rows Released Released first second = refl
