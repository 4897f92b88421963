-- What a column judges and decides if one group alone is protected, or none, said of the history; and which group keeps a question from being released.
use Rattle.std.proofs.Common.{eq-eqb, ◌≡◌, ◌↔◌, ℕ, ◌<◌, ◌+◌, true, false, ℤ, List, [], ◌∷◌, Option, Some, None, option_map, refl, sym, ap, ◌∙◌, subst, inl, inr, zero, arith, Bor}
use Rattle.std.specs.Prelude.{All, Contains, IfSome, IsTrue, slice_get}
use Rattle.std.specs.Option.{option_to_list}
use Rattle.std.proofs.lemmas.Bool.{cases_lt, true≢false}
use Rattle.std.proofs.lemmas.Option.{same_Some}
use Rattle.std.proofs.lemmas.List.Elements.{All-nil, All-cons}
use Rattle.audit_types.specs.declared.records.Answered.{Answered}
use Rattle.audit_types.specs.declared.records.Asked.{Asked}
use Rattle.audit_types.specs.declared.records.Protected.{Protected}
use Rattle.audit_types.specs.declared.records.Verdict.{Verdict}
use Rattle.audit_types.specs.declared.records.Verdict.TheVariants.{Released}
use Rattle.audit_types.specs.declared.shapes.Kind.{Kind}
use Rattle.audit_types.specs.declared.shapes.Kind.TheVariants.{Sum, Max}
use Rattle.audit_types.specs.Shapes.{columns}
use Rattle.audit_types.specs.Column.{Known, Agrees, AreOwn, Discloses, IsGuarded, number, greatest, total, IsDangerous, IsPossible, with_groups}
use Rattle.audit_types.specs.Form.{Reduced}
use Rattle.audit_types.specs.Judgement.{IsWithinWidthFor, IsDecision, IsJudgement, IsUnsafeFor, sets_with}
use Rattle.audit_types.specs.Reach.{Changes, IsWithinBounds}
use Rattle.audit_types.specs.History.{Setting, IsPossibleHistory, IsJudgementAfter, known_of, groups_of, list_of}
use Rattle.sum_basis.specs.Laws.{SetsHaveOneForm}
use Rattle.audit_core.specs.Audited.{Audited}
use Rattle.audit_types.specs.Truth.{number_at, sum_over, greatest_over}
use Rattle.audit_core.specs.GroupEntries.{entry_of_group}
use Rattle.audit_core.specs.Blame.{IsReleasedWith, IsJudgedReleasedWith}
use Rattle.audit_core.proofs.ProtectedGroups.{sum_or_max}
use Rattle.audit_core.specs.OneDecision.{one_decision, one_judgement}

-- what holds of a group that is there holds of the list of it
pub all_of : (P : Protected → Type 0) (group : Option (Bor Protected)) → IfSome group (λ p. P p.now) → All P (option_to_list (option_map (λ p. p.now) group))
all_of P None is = All-nil P
all_of P (Some p) is = All-cons P p.now [] is (All-nil P)

module _ (audited : Audited) (asked : Asked) (known : Known) (below : asked.column < columns audited.setting.shape)
    (own : known ≡ known_of audited.setting audited.history asked.column)
    (sets : List (List ℕ)) (groups : List Protected) (same : sets ≡ groups_of asked.column groups) where
  -- a decision of the column with these groups is that of the history
  decided_with_them : (verdict : Verdict) → IsPossibleHistory audited.setting audited.history →
      (IsPossible known → IsDecision (with_groups known sets) asked.rows.list verdict) →
      IsDecision (with_groups (known_of audited.setting audited.history asked.column) (groups_of asked.column groups)) asked.rows.list verdict
  decided_with_them verdict possible decided =
      subst (λ s. IsDecision (with_groups (known_of audited.setting audited.history asked.column) s) asked.rows.list verdict) same
      (subst (λ k. IsPossible k → IsDecision (with_groups k sets) asked.rows.list verdict) own decided
      (list_of possible.0 asked.column, possible.2 asked.column below))

  -- so is a judgement
  judged_with_them : (verdict : Verdict) → IsJudgement (with_groups known sets) asked.rows.list verdict →
      IsJudgement (with_groups (known_of audited.setting audited.history asked.column) (groups_of asked.column groups)) asked.rows.list verdict
  judged_with_them verdict judged =
      subst (λ s. IsJudgement (with_groups (known_of audited.setting audited.history asked.column) s) asked.rows.list verdict) same
      (subst (λ k. IsJudgement (with_groups k sets) asked.rows.list verdict) own judged)

  pub is_released : (IsPossible known → IsDecision (with_groups known sets) asked.rows.list Released) → IsPossibleHistory audited.setting audited.history →
      IsTrue true ↔ IsReleasedWith audited.setting audited.history asked groups
  is_released decided possible = (λ yes. decided_with_them Released possible decided, λ is. refl)

  pub is_denied : SetsHaveOneForm → (verdict : Verdict) → (Released ≡ verdict → ⊥) →
      (IsPossible known → IsDecision (with_groups known sets) asked.rows.list verdict) →
      IsPossibleHistory audited.setting audited.history → IsTrue false ↔ IsReleasedWith audited.setting audited.history asked groups
  is_denied forms verdict other decided possible = (
    λ no. absurd (true≢false (sym no)),
    λ is. absurd (other (one_decision forms (with_groups (known_of audited.setting audited.history asked.column) (groups_of asked.column groups))
        asked.rows.list Released verdict
        is (decided_with_them verdict possible decided))),
  )

  pub is_judged_released : IsJudgement (with_groups known sets) asked.rows.list Released →
      IsTrue true ↔ IsJudgedReleasedWith audited.setting audited.history asked groups
  is_judged_released judged = (λ yes. judged_with_them Released judged, λ is. refl)

  pub is_judged_denied : SetsHaveOneForm → (verdict : Verdict) → (Released ≡ verdict → ⊥) → IsJudgement (with_groups known sets) asked.rows.list verdict →
      IsTrue false ↔ IsJudgedReleasedWith audited.setting audited.history asked groups
  is_judged_denied forms verdict other judged = (
    λ no. absurd (true≢false (sym no)),
    λ is. absurd (other (one_judgement forms (with_groups (known_of audited.setting audited.history asked.column) (groups_of asked.column groups))
        asked.rows.list Released verdict
        is (judged_with_them verdict judged))),
  )

module _ (setting : Setting) (history : List Answered) (asked : Asked) where
  abbrev known : Known
  known = known_of setting history asked.column

  danger_with : (groups : List (List ℕ)) (w : List ℤ) → Agrees known w → (own : List ℕ) → AreOwn known own → (value : List ℤ → ℤ) →
      IsGuarded (with_groups known groups) own value → Discloses known own asked.rows.list w value → IsDangerous (with_groups known groups) asked.rows.list
  danger_with groups w agrees own are_own value guarded disclosed = record {
    w = w;
    agrees = record { one_each = agrees.one_each; same = agrees.same };
    own = own;
    are_own = are_own;
    value = value;
    guarded = guarded;
    disclosed = λ v gives also. disclosed v (record { agrees = record { one_each = gives.agrees.one_each; same = gives.agrees.same }; same = gives.same }) also;
  }

  -- the rows of one group of the column
  abbrev alone : Protected → List (List ℕ)
  alone p = groups_of asked.column (p ∷ [])

  -- a group of the column is that of one entry alone
  group_alone : (group : List ℕ) → Contains known.groups group → (p : Protected) × (i : ℕ) × (slice_get setting.protected.groups i ≡ Some p) ×
      Contains (alone p) group
  group_alone group among =
      let found = entry_of_group setting.protected.groups asked.column group among in
      let one : Contains (alone found.entry) group = rw (eq-eqb found.entry.column asked.column found.own) (zero, omega arith, found.rows_are) in
      (found.entry, found.place, found.there, one)

  -- what is within the bounds with each group alone, and with none, is so with all: what is guarded is one of theirs, and the form is the same
  module _ (forms : SetsHaveOneForm)
      (each : (i : ℕ) (p : Protected) → slice_get setting.protected.groups i ≡ Some p →
      IsWithinWidthFor known.kind (with_groups known (alone p)) asked.rows.list) where
    abbrev sets : List (List ℕ)
    sets = sets_with known asked.rows.list

    near_with_all : (form : List (List ℤ)) → Reduced known.n sets form → IsWithinBounds (with_groups known []) sets form → known.kind ≡ Sum →
        {value : List ℤ → ℤ} → IsGuarded known [] value → Changes known.n sets form known.n value → Changes known.n sets form known.reach value
    near_with_all form reduced within sums (number row below other guarded) changes =
        within.near (λ w. number_at w row) (number row below other guarded) changes
    near_with_all form reduced within sums (greatest rows maxima are some others few) changes = absurd (sum_or_max known.kind sums maxima)
    near_with_all form reduced within sums (total group row among inside other) changes =
        let found = group_alone group among in
        let bounds = subst (λ kind. IsWithinWidthFor kind (with_groups known (alone found.0)) asked.rows.list) sums (each found.1 found.0 found.2) in
        let one = forms known.n sets in
        let same = one.2 bounds.0 bounds.1 ∙ sym (one.2 form reduced) in
        (subst (IsWithinBounds (with_groups known (alone found.0)) sets) same bounds.2).near (λ w. sum_over w group)
        (total group row found.3 inside other) changes

    within_with_all : (kind : Kind) → known.kind ≡ kind → IsWithinWidthFor kind (with_groups known []) asked.rows.list →
        IsWithinWidthFor kind known asked.rows.list
    within_with_all Sum sums (form, reduced, within) =
        (form, reduced, record { narrow = within.narrow; near = λ value guarded changes. near_with_all form reduced within sums guarded changes })
    within_with_all Max maxima within = tt

  module _ (none : IsDangerous (with_groups known []) asked.rows.list → ⊥)
      (each : (i : ℕ) (p : Protected) → slice_get setting.protected.groups i ≡ Some p → IsDangerous (with_groups known (alone p)) asked.rows.list → ⊥) where
    -- what is guarded is a number, or the total of one group
    not_disclosed : (w : List ℤ) → Agrees known w → (own : List ℕ) → AreOwn known own → {value : List ℤ → ℤ} → IsGuarded known own value →
        Discloses known own asked.rows.list w value → ⊥
    not_disclosed w agrees own are_own (number row below other guarded) disclosed =
        none (danger_with [] w agrees own are_own (λ v. number_at v row) (number row below other guarded) disclosed)
    not_disclosed w agrees own are_own (greatest rows maxima are some others few) disclosed =
        none (danger_with [] w agrees own are_own (λ v. greatest_over v rows) (greatest rows maxima are some others few) disclosed)
    not_disclosed w agrees own are_own (total group row among inside other) disclosed =
        let found = group_alone group among in
        each found.1 found.0 found.2
        (danger_with (alone found.0) w agrees own are_own (λ v. sum_over v group) (total group row found.3 inside other) disclosed)

    not_dangerous : IsDangerous known asked.rows.list → ⊥
    not_dangerous danger = not_disclosed danger.w danger.agrees danger.own danger.are_own danger.guarded danger.disclosed

  -- what is unsafe with all groups is so with one of them, or with none
  safe_with_all : (kind : Kind) → (IsUnsafeFor kind (with_groups known []) asked.rows.list → ⊥) →
      ((i : ℕ) (p : Protected) → slice_get setting.protected.groups i ≡ Some p → IsUnsafeFor kind (with_groups known (alone p)) asked.rows.list → ⊥) →
      IsUnsafeFor kind known asked.rows.list → ⊥
  safe_with_all Sum none each (inl pins) =
      none (inl (record { own = pins.own; are_own = pins.are_own; row = pins.row; guarded = pins.guarded; pinned = pins.pinned }))
  safe_with_all Sum none each (inr spans) =
      let found = group_alone spans.group spans.one in
      each found.1 found.0 found.2 (inr (record {
        own = spans.own;
        are_own = spans.are_own;
        group = spans.group;
        one = found.3;
        row = spans.row;
        inside = spans.inside;
        other = spans.other;
        spanned = spans.spanned;
      }))
  safe_with_all Max none each danger = not_dangerous none each danger

  -- a question that is judged released if any group alone is protected, or none, is judged so if all are
  pub judged_with_all : SetsHaveOneForm → IsJudgedReleasedWith setting history asked [] →
      ((i : ℕ) (p : Protected) → slice_get setting.protected.groups i ≡ Some p → IsJudgedReleasedWith setting history asked (p ∷ [])) →
      IsJudgementAfter setting history asked.column asked.rows.list Released
  judged_with_all forms none each = (
    within_with_all forms (λ i p here. (each i p here).0) known.kind refl none.0,
    safe_with_all known.kind none.1 (λ i p here. (each i p here).1),
  )

-- if the groups before a place pass and the one there does, all before the next place do
pub one_more_passes : (groups : List Protected) (passes : List Protected → Type 0) (at : ℕ) (group : Protected) → slice_get groups at ≡ Some group →
    passes (group ∷ []) →
    ((i : ℕ) (p : Protected) → i < at → slice_get groups i ≡ Some p → passes (p ∷ [])) →
    (i : ℕ) (p : Protected) → i < at + 1 → slice_get groups i ≡ Some p → passes (p ∷ [])
one_more_passes groups passes at group there passed before i p below here = elim (cases_lt i at) [
  | inl lt ↦ before i p lt here
  | inr le ↦ let same : i ≡ at = omega (arith, below, le) in
      let is : p ≡ group = same_Some p group (sym here ∙ ap (slice_get groups) same ∙ there) in
      subst (λ q. passes (q ∷ [])) (sym is) passed
]
