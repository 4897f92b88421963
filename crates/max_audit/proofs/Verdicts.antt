-- What the extreme rows tell of a question.
use Rattle.std.proofs.Common.{◌≡◌, ◌≢◌, ℕ, List, [], sym, ap, ◌∙◌, subst}
use Rattle.std.specs.Prelude.{◌↔◌}
use Rattle.audit_types.specs.declared.records.Verdict.{Verdict}
use Rattle.audit_types.specs.declared.records.Verdict.TheVariants.{Released, DeniedUnsafe}
use Rattle.audit_types.specs.Headcount.{Counted}
use Rattle.audit_types.specs.Rows.{AreRows}
use Rattle.audit_types.specs.Column.{Known, Answer, IsDangerous, known_max, guarding, with_bounds}
use Rattle.audit_types.specs.Judgement.{IsJudgement, IsDecision}
use Rattle.audit_types.specs.WidthLaws.{dangerous_at, dangerous_from}
use Rattle.max_bounds.specs.Maxima.{Maxima}
use Rattle.max_bounds.specs.Few.{IsFewByExtremes}
use Rattle.max_audit.specs.Columns.{IsMaxColumn}
use Rattle.max_audit.proofs.DangerousByExtremes.{dangerous_by_extremes}

-- what is known of a column of maxima of these people, in a table that is guarded with this width and this reach
abbrev pub known_among : Counted → List Answer → ℕ → ℕ → Known
known_among people answers width reach = with_bounds (guarding (known_max people.n answers) people.people []) width reach

-- a verdict as it has to be
pub record IsRightVerdict (known : Known) (rows : List ℕ) (verdict : Verdict) : Type 0 where
  pub judged : IsJudgement known rows verdict
  pub decided : IsDecision known rows verdict

module _ (people : Counted) (maxima : Maxima) (is : IsMaxColumn people maxima) (width reach : ℕ) (rows : List ℕ) (are : AreRows people.n rows)
    (some : rows ≢ []) where
  abbrev here : Known
  here = known_among people maxima.answers width reach

  -- a question is dangerous exactly if the extreme rows tell so
  danger_told : IsDangerous here rows ↔ IsFewByExtremes people.people maxima.answers rows
  danger_told =
      let told = dangerous_by_extremes people.n maxima.answers people.people rows is.formed are some in
      let plain = guarding (known_max people.n maxima.answers) people.people [] in
      ((λ danger. told.0 (dangerous_from plain width reach rows danger)), λ few. dangerous_at plain width reach rows (told.1 few))

  few_is_unsafe : IsFewByExtremes people.people maxima.answers rows → IsRightVerdict here rows DeniedUnsafe
  few_is_unsafe few = record { judged = (tt, danger_told.1 few); decided = (tt, danger_told.1 few) }

  others_are_released : ¬ (IsFewByExtremes people.people maxima.answers rows) → IsRightVerdict here rows Released
  others_are_released untold = record { judged = (tt, λ danger. untold (danger_told.0 danger)); decided = (tt, λ danger. untold (danger_told.0 danger)) }

module _ (people : Counted) (maxima : Maxima) (is : IsMaxColumn people maxima) (width reach : ℕ) (known : Known)
    (view : known_among people maxima.answers width reach ≡ known) (rows : List ℕ) (m : ℕ) (are : AreRows m rows) (same : m ≡ known.n)
    (some : rows ≢ []) where
  own_rows : AreRows people.n rows
  own_rows = subst (λ k. AreRows k rows) (same ∙ sym (ap (λ k. k.n) view)) are

  -- where the extreme rows tell of few people, a question is rightly denied as unsafe
  pub unsafe_is_right : IsFewByExtremes people.people maxima.answers rows → IsRightVerdict known rows DeniedUnsafe
  unsafe_is_right few =
      subst (λ k. IsRightVerdict k rows DeniedUnsafe) view (few_is_unsafe people maxima is width reach rows own_rows some few)

  -- and else rightly released
  pub released_is_right : ¬ (IsFewByExtremes people.people maxima.answers rows) → IsRightVerdict known rows Released
  released_is_right untold =
      subst (λ k. IsRightVerdict k rows Released) view (others_are_released people maxima is width reach rows own_rows some untold)
