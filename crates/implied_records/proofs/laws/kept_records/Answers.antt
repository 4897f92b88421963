use Rattle.implied_records.proofs.KeptRecords.{one_is_kept, same_lists_agree}
use Rattle.implied_records.proofs.laws.kept_records.Goals as goal

pub returns-clause-one : goal.returns-clause-one
returns-clause-one c = one_is_kept

pub returns-clause-lists : goal.returns-clause-lists
returns-clause-lists c = same_lists_agree
