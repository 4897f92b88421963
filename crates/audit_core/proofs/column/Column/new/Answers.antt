use Rattle.audit_core.proofs.column.Column.new.Goals as goal

pub returns-in_ok-new-in-Sum : goal.returns-in_ok-new-in-Sum
returns-in_ok-new-in-Sum c = rw c.in-Sum.is c.in_ok-new-in-Sum.ensures

pub returns-in_ok-new-in-Max : goal.returns-in_ok-new-in-Max
returns-in_ok-new-in-Max c = rw c.in-Max.is (rw (c.requires.sums c.in-Max.is) c.in_ok-new-in-Max.ensures)
