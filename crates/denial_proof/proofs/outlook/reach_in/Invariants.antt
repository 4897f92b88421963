use Rattle.std.proofs.Common.{◌≡◌, ◌++◌, ℕ, true, [], ◌⊎◌}
use Rattle.std.specs.Prelude.{◌≤ℤ◌}
use Rattle.audit_types.specs.Rows.{has_row}
use Rattle.audit_types.specs.Headcount.{AreFew}
use Rattle.audit_types.specs.Extremes.{upper_bound}
use Rattle.max_bounds.specs.Kept.{rows_at_least}
use Rattle.denial_proof.specs.Outlook.{below_all, reach_of}
use Rattle.denial_proof.proofs.OutlookWalks.{IsReached}
use Rattle.denial_proof.proofs.outlook.reach_in.Given as goal

abbrev pub invariant-loop-row : goal.invariant-loop-row
invariant-loop-row l = record {
  together : l.yielded ++ l.row-iterator ≡ l.rows.list;
  top : (q : ℕ) → has_row l.yielded q ≡ true → reach_of (upper_bound l.bounds.answers q) ≤ℤ l.reach.top;
  reached : IsReached l.bounds.answers l.yielded l.reach.top;
  many : (l.reach.many ≤ℤ below_all) ⊎ (¬ (AreFew l.people.people [] (rows_at_least (upper_bound l.bounds.answers) l.reach.many l.rows.list)));
}
