use Rattle.std.proofs.Common.{◌≡◌, take}
use Rattle.audit_types.specs.History.{IsLegal, setting_of}
use Rattle.table_load.specs.Database.{secret_table}
use Rattle.audit_store.proofs.starting.replay.Given as goal

-- the core has the records so far, and they are legal
abbrev pub invariant-loop-place : goal.invariant-loop-place
invariant-loop-place l = record {
  same_setting : l.core.setting ≡ setting_of l.secret.shape l.fn.protected;
  so_far : l.core.history ≡ take l.place l.list;
  legal : IsLegal (secret_table l.secret l.fn.protected) (take l.place l.list);
}
