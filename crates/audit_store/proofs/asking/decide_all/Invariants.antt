use Rattle.std.proofs.Common.{◌≡◌, ◌≤◌, ◌++◌, length, take}
use Rattle.std.specs.Vec.{vec_len, vec_capacity}
use Rattle.audit_types.specs.History.{IsLegal}
use Rattle.audit_core.specs.Outcomes.{AreOutcomes, records_made}
use Rattle.table_load.specs.Database.{secret_table}
use Rattle.audit_store.proofs.asking.decide_all.Given as goal

-- the questions so far are decided, and the core has their records
abbrev pub invariant-loop-question : goal.invariant-loop-question
invariant-loop-question l = record {
  same_setting : l.sealed.core.setting ≡ l.fn.sealed.core.setting;
  same_secret : l.sealed.secret ≡ l.fn.sealed.secret;
  so_far : AreOutcomes (secret_table l.fn.sealed.secret l.fn.sealed.core.setting.protected) l.fn.sealed.core.history
      (take l.question-index l.asked) l.outcomes.items;
  history : l.sealed.core.history ≡ l.fn.sealed.core.history ++ records_made (take l.question-index l.asked) l.outcomes.items;
  legal : IsLegal (secret_table l.fn.sealed.secret l.fn.sealed.core.setting.protected) l.sealed.core.history;
  many : vec_len l.outcomes ≡ l.question-index;
  room : length l.asked ≤ vec_capacity l.outcomes;
}
