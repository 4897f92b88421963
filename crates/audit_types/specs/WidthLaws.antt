-- Facts on the width and the reach: what is dangerous is so whatever they are, and no verdict on a maximum goes by them.
use Rattle.std.proofs.Common.{◌≡◌, ℕ, ◌≤◌, ℤ, List, [], ◌∷◌, refl, sym, ◌∙◌, subst, arith}
use Rattle.std.specs.Prelude.{unsigned_abs}
use Rattle.std.specs.List.{AllByRecursion}
use Rattle.audit_types.specs.declared.shapes.Kind.{Kind}
use Rattle.audit_types.specs.ListLaws.{all-weaker}
use Rattle.audit_types.specs.Form.{IsNarrow, HasNarrowForm}
use Rattle.audit_types.specs.Reach.{Changes}
use Rattle.audit_types.specs.declared.shapes.Kind.TheVariants.{Sum, Max}
use Rattle.audit_types.specs.declared.records.Verdict.{Verdict}
use Rattle.audit_types.specs.declared.records.Verdict.TheVariants.{Released, DeniedUnsafe, DeniedWide}
use Rattle.audit_types.specs.Rows.{AreRows}
use Rattle.audit_types.specs.Headcount.{AreFew}
use Rattle.audit_types.specs.Column.{Known, IsGuarded, number, greatest, total, IsDangerous, with_bounds}
use Rattle.audit_types.specs.Judgement.{IsWideFor, IsWithinWidth, IsWithinWidthFor, IsUnsafeFor, sets_with, IsJudgement, IsDecision}

-- what is guarded is so whatever was answered, and whatever the bounds
pub guarded_alike : (known other : Known) → known.kind ≡ other.kind → known.n ≡ other.n → known.groups ≡ other.groups → known.people ≡ other.people →
    (own : List ℕ) {value : List ℤ → ℤ} → IsGuarded known own value → IsGuarded other own value
guarded_alike known other kind n groups people own (number row below out few) =
    number row (rw (sym n) below) out (subst (λ p. AreFew p own (row ∷ [])) people few)
guarded_alike known other kind n groups people own (greatest rows maxima are some others few) =
    greatest rows (sym kind ∙ maxima) (subst (λ k. AreRows k rows) n are) some others (subst (λ p. AreFew p own rows) people few)
guarded_alike known other kind n groups people own (total group row one inside out) = total group row (rw (sym groups) one) inside out

-- what is dangerous is so at any bounds
pub dangerous_at : (known : Known) (width reach : ℕ) (rows : List ℕ) → IsDangerous known rows → IsDangerous (with_bounds known width reach) rows
dangerous_at known width reach rows danger = record {
  w = danger.w;
  agrees = record { one_each = danger.agrees.one_each; same = danger.agrees.same };
  own = danger.own;
  are_own = danger.are_own;
  value = danger.value;
  guarded = guarded_alike known (with_bounds known width reach) refl refl refl refl danger.own danger.guarded;
  disclosed = λ v gives also. danger.disclosed v (record { agrees = record { one_each = gives.agrees.one_each; same = gives.agrees.same }; same = gives.same }) also;
}

-- and back
pub dangerous_from : (known : Known) (width reach : ℕ) (rows : List ℕ) → IsDangerous (with_bounds known width reach) rows → IsDangerous known rows
dangerous_from known width reach rows danger = record {
  w = danger.w;
  agrees = record { one_each = danger.agrees.one_each; same = danger.agrees.same };
  own = danger.own;
  are_own = danger.are_own;
  value = danger.value;
  guarded = guarded_alike (with_bounds known width reach) known refl refl refl refl danger.own danger.guarded;
  disclosed = λ v gives also. danger.disclosed v (record { agrees = record { one_each = gives.agrees.one_each; same = gives.agrees.same }; same = gives.same }) also;
}

module _ (known : Known) (maxima : known.kind ≡ Max) (width reach : ℕ) (rows : List ℕ) where
  -- no maximum is too wide
  never_wide : IsWideFor known.kind known rows → ⊥
  never_wide wide = subst (λ kind. IsWideFor kind known rows) maxima wide

  pub within_any_width : IsWithinWidth (with_bounds known width reach) rows
  within_any_width = subst (λ kind. IsWithinWidthFor kind (with_bounds known width reach) rows) (sym maxima) tt

  -- a maximum is judged and decided alike at any bounds
  unsafe_at : IsUnsafeFor known.kind known rows → IsUnsafeFor known.kind (with_bounds known width reach) rows
  unsafe_at unsafe =
      subst (λ kind. IsUnsafeFor kind (with_bounds known width reach) rows) (sym maxima)
      (dangerous_at known width reach rows (subst (λ kind. IsUnsafeFor kind known rows) maxima unsafe))

  unsafe_from : IsUnsafeFor known.kind (with_bounds known width reach) rows → IsUnsafeFor known.kind known rows
  unsafe_from unsafe =
      subst (λ kind. IsUnsafeFor kind known rows) (sym maxima)
      (dangerous_from known width reach rows (subst (λ kind. IsUnsafeFor kind (with_bounds known width reach) rows) maxima unsafe))

  pub judged_at : (verdict : Verdict) → IsJudgement known rows verdict → IsJudgement (with_bounds known width reach) rows verdict
  judged_at DeniedWide is = absurd (never_wide is)
  judged_at DeniedUnsafe is = (within_any_width, unsafe_at is.1)
  judged_at Released is = (within_any_width, λ unsafe. is.1 (unsafe_from unsafe))

  pub decided_at : (verdict : Verdict) → IsDecision known rows verdict → IsDecision (with_bounds known width reach) rows verdict
  decided_at DeniedWide is = absurd (never_wide is)
  decided_at DeniedUnsafe is = (within_any_width, dangerous_at known width reach rows is.1)
  decided_at Released is = (within_any_width, λ danger. is.1 (dangerous_from known width reach rows danger))

-- ---- greater bounds

-- a form that is narrow by a width is so by a greater one
pub narrow_by_more : (width more : ℕ) → width ≤ more → (form : List (List ℤ)) → IsNarrow width form → IsNarrow more form
narrow_by_more width more le form narrow = record {
  entries = all-weaker (AllByRecursion (λ x. unsigned_abs x ≤ width)) (AllByRecursion (λ x. unsigned_abs x ≤ more))
      (λ row. all-weaker (λ x. unsigned_abs x ≤ width) (λ x. unsigned_abs x ≤ more) (λ x small. omega (arith, small, le)) row) form narrow.entries;
  common = narrow.common;
  common_is = narrow.common_is;
  common_small = omega (arith, narrow.common_small, le);
}

pub has_narrow_by_more : (width more n : ℕ) (sets : List (List ℕ)) → width ≤ more → HasNarrowForm width n sets → HasNarrowForm more n sets
has_narrow_by_more width more n sets le has =
    record { form = has.form; reduced = has.reduced; narrow = narrow_by_more width more le has.form has.narrow }

-- what changes along a direction of so many rows changes along one of more
pub changes_by_more : (n : ℕ) (sets : List (List ℕ)) (form : List (List ℤ)) (most more : ℕ) (value : List ℤ → ℤ) → most ≤ more →
    Changes n sets form most value → Changes n sets form more value
changes_by_more n sets form most more value le c =
    record { direction = c.direction; still = c.still; column = c.column; only = c.only; near = omega (arith, c.near, le); changed = c.changed }

within_by_more : (kind : Kind) (known : Known) (width reach : ℕ) (rows : List ℕ) → known.width ≤ width → known.reach ≤ reach →
    IsWithinWidthFor kind known rows → IsWithinWidthFor kind (with_bounds known width reach) rows
within_by_more Sum known width reach rows wider further (form, reduced, within) = (
  form,
  reduced,
  record {
    narrow = narrow_by_more known.width width wider form within.narrow;
    near = λ value guarded changes.
        changes_by_more known.n (sets_with known rows) form known.reach reach value further
        (within.near value (guarded_alike (with_bounds known width reach) known refl refl refl refl [] guarded) changes);
  },
)
within_by_more Max known width reach rows wider further within = tt

-- what is released by some bounds is released by greater ones
pub released_by_more : (known : Known) (width reach : ℕ) (rows : List ℕ) → known.width ≤ width → known.reach ≤ reach →
    IsDecision known rows Released → IsDecision (with_bounds known width reach) rows Released
released_by_more known width reach rows wider further is =
    (within_by_more known.kind known width reach rows wider further is.0, λ danger. is.1 (dangerous_from known width reach rows danger))

-- what is within the bounds has a narrow form
pub narrow_within : (known : Known) (rows : List ℕ) → IsWithinWidthFor Sum known rows → HasNarrowForm known.width known.n (sets_with known rows)
narrow_within known rows (form, reduced, within) = record { form = form; reduced = reduced; narrow = within.narrow }
