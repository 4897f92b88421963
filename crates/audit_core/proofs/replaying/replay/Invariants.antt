use Rattle.std.proofs.Common.{◌≡◌, ℕ, ◌<◌, take, Some}
use Rattle.std.specs.Prelude.{slice_get}
use Rattle.audit_types.specs.declared.records.Answered.{Answered}
use Rattle.audit_types.specs.History.{setting_of}
use Rattle.audit_core.specs.Released.{IsReleasedRecord}
use Rattle.audit_core.proofs.replaying.replay.Given as goal

-- the core has the records so far, each of which was to be released
abbrev pub invariant-loop-place : goal.invariant-loop-place
invariant-loop-place l = record {
  same_setting : l.core.setting ≡ setting_of l.fn.shape l.fn.protected;
  so_far : l.core.history ≡ take l.place l.list;
  released : (i : ℕ) (r : Answered) → i < l.place → slice_get l.list i ≡ Some r → IsReleasedRecord (setting_of l.fn.shape l.fn.protected) (take i l.list) r;
}
