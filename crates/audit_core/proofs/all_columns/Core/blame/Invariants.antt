use Rattle.std.proofs.Common.{◌≡◌, ◌<◌, ℕ, [], ◌∷◌, Some}
use Rattle.std.specs.Prelude.{slice_get}
use Rattle.audit_types.specs.declared.records.Protected.{Protected}
use Rattle.audit_types.specs.History.{IsPossibleHistory}
use Rattle.audit_core.specs.Blame.{IsReleasedWith, IsJudgedReleasedWith}
use Rattle.audit_core.proofs.all_columns.Core.blame.Given as goal

-- each group before this one alone lets the question pass
abbrev pub invariant-loop-group : goal.invariant-loop-group
invariant-loop-group l = record {
  judged : (i : ℕ) (p : Protected) → i < l.group-index → slice_get l.self.setting.protected.groups i ≡ Some p →
      IsJudgedReleasedWith l.self.setting l.self.history l.asked (p ∷ []);
  decided : IsPossibleHistory l.self.setting l.self.history →
      (i : ℕ) (p : Protected) → i < l.group-index → slice_get l.self.setting.protected.groups i ≡ Some p →
      IsReleasedWith l.self.setting l.self.history l.asked (p ∷ []);
}
