-- Which protected group keeps a question from being released.
use Rattle.std.specs.Prelude.{◌≡◌, ℕ, ◌<◌, List, [], ◌∷◌, Option, Some, None, slice_get}
use Rattle.audit_types.specs.declared.records.Answered.{Answered}
use Rattle.audit_types.specs.declared.records.Asked.{Asked}
use Rattle.audit_types.specs.declared.records.Protected.{Protected}
use Rattle.audit_types.specs.declared.records.Verdict.TheVariants.{Released}
use Rattle.audit_types.specs.History.{Setting, IsDecisionAfter, IsJudgementAfter}

-- the question of a record
abbrev pub asked_in : Answered → Asked
asked_in r = record { column = r.column; rows = r.rows }

-- a question is released after a history if these groups alone are protected
abbrev pub IsReleasedWith : Setting → List Answered → Asked → List Protected → Type 0
IsReleasedWith setting history asked groups =
    IsDecisionAfter (record setting { protected = record setting.protected { groups = groups } }) history asked.column asked.rows.list Released

-- the same by the judgement, which speaks of every history, also of one that no table gives
abbrev pub IsJudgedReleasedWith : Setting → List Answered → Asked → List Protected → Type 0
IsJudgedReleasedWith setting history asked groups =
    IsJudgementAfter (record setting { protected = record setting.protected { groups = groups } }) history asked.column asked.rows.list Released

-- the first of some groups that alone doesn't let a question pass has this place in the schema
pub record IsFirstToDeny (groups : List Protected) (passes : List Protected → Type 0) (place : ℕ) : Type 0 where
  pub at : ℕ
  pub group : Protected
  pub stands : slice_get groups at ≡ Some group
  pub named : place ≡ group.place
  pub denies : ¬ (passes (group ∷ []))
  pub before : (i : ℕ) (other : Protected) → i < at → slice_get groups i ≡ Some other → passes (other ∷ [])

-- what keeps a question from passing: that group if it would pass with no group, and else none
abbrev pub BlamesOf : List Protected → (List Protected → Type 0) → Option ℕ → Type 0
BlamesOf groups passes None = ¬ (passes [])
BlamesOf groups passes (Some place) = passes [] × IsFirstToDeny groups passes place

-- what keeps a question from being released
abbrev pub Blames : Setting → List Answered → Asked → Option ℕ → Type 0
Blames setting history asked group = BlamesOf setting.protected.groups (IsReleasedWith setting history asked) group

-- and from being judged as released
abbrev pub BlamesByJudgement : Setting → List Answered → Asked → Option ℕ → Type 0
BlamesByJudgement setting history asked group = BlamesOf setting.protected.groups (IsJudgedReleasedWith setting history asked) group
