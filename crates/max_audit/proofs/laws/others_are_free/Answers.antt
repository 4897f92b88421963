use Rattle.max_audit.proofs.OtherRowsAreFree.{highest_agrees_law, lone_or_lowered, lone_or_free}
use Rattle.max_audit.proofs.laws.others_are_free.Goals as goal

pub returns-clause-highest : goal.returns-clause-highest
returns-clause-highest c = highest_agrees_law

pub returns-clause-lowered : goal.returns-clause-lowered
returns-clause-lowered c = lone_or_lowered

pub returns-clause-free : goal.returns-clause-free
returns-clause-free c = lone_or_free
