-- Which histories were to be released, as far as may be seen without a secret: by the judgement on each record's question.
use Rattle.std.specs.Prelude.{◌≡◌, ℕ, ◌<◌, ◌≤◌, List, length, take, slice_get, Option, Some}
use Rattle.audit_types.specs.Limits.{most_records}
use Rattle.audit_types.specs.declared.records.Answered.{Answered}
use Rattle.audit_types.specs.declared.records.Verdict.TheVariants.{Released}
use Rattle.audit_types.specs.History.{Setting, FitsShape, IsJudgementAfter}
use Rattle.audit_core.specs.Audited.{Audited}
use Rattle.audit_core.specs.Blame.{BlamesByJudgement, asked_in}
use Rattle.audit_core.specs.declared.replaying.ReplayFault.{ReplayFault}
use Rattle.audit_core.specs.declared.replaying.ReplayFault.TheVariants as fault

-- the question of a record is judged as released after a history
abbrev pub IsJudgedReleased : Setting → List Answered → Answered → Type 0
IsJudgedReleased setting history r = IsJudgementAfter setting history r.column r.rows.list Released

-- a record that may follow a history, whatever the secrets are: it fits, and its question is judged as released
pub record IsReleasedRecord (setting : Setting) (history : List Answered) (r : Answered) : Type 0 where
  pub fits : FitsShape setting.shape r.column r.rows
  pub released : IsJudgedReleased setting history r

-- at most 65,536 records, each of which may follow those before it
pub record WereReleased (setting : Setting) (history : List Answered) : Type 0 where
  pub few : length history ≤ most_records
  pub each : (i : ℕ) (r : Answered) → slice_get history i ≡ Some r → IsReleasedRecord setting (take i history) r

-- the first record that wasn't to be released stands at this place; the group, if there is one, keeps it from being
pub record IsFirstUnreleased (setting : Setting) (history : List Answered) (place : ℕ) (group : Option ℕ) : Type 0 where
  pub at : Answered
  pub stands : slice_get history place ≡ Some at
  pub denied : ¬ (IsJudgedReleased setting (take place history) at)
  pub blamed : BlamesByJudgement setting (take place history) (asked_in at) group
  pub before : (i : ℕ) (r : Answered) → i < place → slice_get history i ≡ Some r → IsJudgedReleased setting (take i history) r

-- why a history isn't gone on from
abbrev pub ReplayCause : ReplayFault → Setting → List Answered → Type 0
ReplayCause (fault.Unreleased place group) setting history = IsFirstUnreleased setting history place group
ReplayCause fault.NoMemory setting history = Unit {0}

-- what is told of a record that doesn't follow those of a core: its place and what keeps it from being released, or that memory ran out
abbrev pub TellsUnreleased : Audited → ℕ → Answered → ReplayFault → Type 0
TellsUnreleased core at r (fault.Unreleased place group) =
    (place ≡ at) × ¬ (IsJudgedReleased core.setting core.history r) × BlamesByJudgement core.setting core.history (asked_in r) group
TellsUnreleased core at r fault.NoMemory = Unit {0}
