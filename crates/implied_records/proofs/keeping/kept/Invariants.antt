use Rattle.std.proofs.Common.{◌≡◌, take}
use Rattle.audit_types.specs.History.{setting_of}
use Rattle.implied_records.specs.Kept.{IsKeptOf, no_groups}
use Rattle.implied_records.proofs.keeping.kept.Given as goal

abbrev pub invariant-loop-answered : goal.invariant-loop-answered
invariant-loop-answered l = record {
  setting : l.core.setting ≡ setting_of l.shape no_groups;
  kept : IsKeptOf l.shape (take l.answered-index l.history) l.core.history;
}
