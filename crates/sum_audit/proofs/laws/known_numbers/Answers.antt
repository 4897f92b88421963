use Rattle.sum_audit.proofs.KnownNumbers.{still_by_ties, tied_or_open, ties_tell, open_by_form}
use Rattle.sum_audit.proofs.laws.known_numbers.Goals as goal

pub returns-clause-still : goal.returns-clause-still
returns-clause-still c = still_by_ties

pub returns-clause-tied_or_open : goal.returns-clause-tied_or_open
returns-clause-tied_or_open c = tied_or_open

pub returns-clause-told : goal.returns-clause-told
returns-clause-told c = ties_tell

pub returns-clause-by_form : goal.returns-clause-by_form
returns-clause-by_form c = open_by_form c.ties.ensures
