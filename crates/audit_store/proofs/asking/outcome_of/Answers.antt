use Rattle.std.proofs.Common.{rules, ◌≡◌, ◌<◌, ℕ, List, length, sym, ap, subst, ◌∙◌, arith, FitsSigned}
use Rattle.std.specs.Int.{w64}
use Rattle.std.proofs.Math.Facts.{to_z-of_z}
use Rattle.audit_types.specs.declared.records.Verdict.{Verdict}
use Rattle.audit_types.specs.declared.records.Verdict.TheVariants.{Released, DeniedUnsafe, DeniedWide}
use Rattle.audit_types.specs.History.{Setting, IsPossibleHistory, IsDecisionAfter, list_of, setting_of}
use Rattle.audit_types.specs.declared.shapes.Shape.{Shape}
use Rattle.audit_types.specs.Shapes.{kind_at}
use Rattle.audit_types.specs.Truth.{truth}
use Rattle.audit_core.specs.Audited.{Audited}
use Rattle.table_load.specs.Cells.{SecretView}
use Rattle.audit_store.specs.declared.sealed.Sealed.{Sealed}
use Rattle.audit_store.proofs.LegalHistories.{legal_is_possible}
use Rattle.audit_store.proofs.asking.outcome_of.Goals as goal

-- what the audit decides holds over the table of the secrets
decided_over : (secret : SecretView) (core : Audited) (column : ℕ) (rows : List ℕ) (given verdict : Verdict) → core.setting.shape ≡ secret.shape →
    IsPossibleHistory (setting_of secret.shape core.setting.protected) core.history →
    (IsPossibleHistory core.setting core.history → IsDecisionAfter core.setting core.history column rows given) → given ≡ verdict →
    IsDecisionAfter (setting_of secret.shape core.setting.protected) core.history column rows verdict
decided_over secret core column rows given verdict shape possible decided is =
    let setting : core.setting ≡ setting_of secret.shape core.setting.protected = ap (λ (s : Shape). setting_of s core.setting.protected) shape in
    subst (λ (s : Setting). IsDecisionAfter s core.history column rows verdict) setting
    (subst (λ (v : Verdict). IsDecisionAfter core.setting core.history column rows v) is
    (decided (subst (λ (s : Setting). IsPossibleHistory s core.history) (sym setting) possible)))

pub truth-requires-clause-released : goal.truth-requires-clause-released
truth-requires-clause-released c =
    let sealed = c.args.sealed.now in
    let protected = sealed.core.setting.protected in
    let setting : sealed.core.setting ≡ setting_of sealed.secret.shape protected = ap (λ (shape : Shape). setting_of shape protected) c.requires.same_shape in
    let possible = legal_is_possible sealed.secret protected sealed.core.history c.true_answers.ensures.legal c.shape.ensures.is c.requires.legal in
    let told = c.in-Ok-Released.ensures.decided (subst (λ (s : Setting). IsPossibleHistory s sealed.core.history) (sym setting) possible) in
    let after = λ (s : Sealed SecretView) (v : Verdict). IsDecisionAfter s.core.setting s.core.history c.args.asked.now.column c.args.asked.now.rows.list v in
    subst (λ (s : Sealed SecretView). after s Released) (sym c.weigh.ensures.same) (subst (after sealed) c.in-Ok-Released.field-0-is told)

pub returns-in-Ok-Released-clause-outcome : goal.returns-in-Ok-Released-clause-outcome
returns-in-Ok-Released-clause-outcome c =
    let sealed = c.args.sealed.now in
    let column = c.args.asked.now.column in
    let rows = c.args.asked.now.rows.list in
    let possible = legal_is_possible sealed.secret sealed.core.setting.protected sealed.core.history c.true_answers.ensures.legal c.shape.ensures.is
    c.requires.legal in
    let few : length sealed.core.history < 65536 =
    omega (arith, ap length c.history.ensures.is, ap (λ (a : Audited). length a.history) c.core.ensures, c.if-history-ge-MOST_RECORDS.false) in
    let in_range : FitsSigned w64 c.truth.result = search rules in
    let same = ap (λ (s : Sealed SecretView). truth (kind_at s.secret.shape column) (list_of s.secret.lists column) rows) c.weigh.ensures.same in (
      few,
      decided_over sealed.secret sealed.core column rows _ Released c.requires.same_shape possible c.in-Ok-Released.ensures.decided c.in-Ok-Released.field-0-is,
      to_z-of_z in_range ∙ c.truth.ensures ∙ same,
    )

pub returns-in-Ok-DeniedUnsafe-clause-outcome : goal.returns-in-Ok-DeniedUnsafe-clause-outcome
returns-in-Ok-DeniedUnsafe-clause-outcome c =
    let sealed = c.args.sealed.now in
    let possible = legal_is_possible sealed.secret sealed.core.setting.protected sealed.core.history c.true_answers.ensures.legal c.shape.ensures.is
    c.requires.legal in
    let few : length sealed.core.history < 65536 =
    omega (arith, ap length c.history.ensures.is, ap (λ (a : Audited). length a.history) c.core.ensures, c.if-history-ge-MOST_RECORDS.false) in (
      few,
      (λ e. cc),
      decided_over sealed.secret sealed.core c.args.asked.now.column c.args.asked.now.rows.list _ DeniedUnsafe c.requires.same_shape possible
          c.in-Ok-DeniedUnsafe.ensures.decided c.in-Ok-DeniedUnsafe.field-0-is,
    )

pub returns-in-Ok-DeniedWide-clause-outcome : goal.returns-in-Ok-DeniedWide-clause-outcome
returns-in-Ok-DeniedWide-clause-outcome c =
    let sealed = c.args.sealed.now in
    let possible = legal_is_possible sealed.secret sealed.core.setting.protected sealed.core.history c.true_answers.ensures.legal c.shape.ensures.is
    c.requires.legal in
    let few : length sealed.core.history < 65536 =
    omega (arith, ap length c.history.ensures.is, ap (λ (a : Audited). length a.history) c.core.ensures, c.if-history-ge-MOST_RECORDS.false) in (
      few,
      (λ e. cc),
      decided_over sealed.secret sealed.core c.args.asked.now.column c.args.asked.now.rows.list _ DeniedWide c.requires.same_shape possible
          c.in-Ok-DeniedWide.ensures.decided c.in-Ok-DeniedWide.field-0-is,
    )
