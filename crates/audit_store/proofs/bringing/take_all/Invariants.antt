use Rattle.std.proofs.Common.{◌≡◌, ◌++◌, take}
use Rattle.audit_store.proofs.bringing.take_all.Given as goal

-- the core has the records so far
abbrev pub invariant-loop-answered : goal.invariant-loop-answered
invariant-loop-answered g l = record {
  setting : l.sealed.core.setting ≡ l.fn.sealed.core.setting;
  secret : l.sealed.secret ≡ l.fn.sealed.secret;
  so_far : l.sealed.core.history ≡ l.fn.sealed.core.history ++ take l.answered-index l.list;
}
