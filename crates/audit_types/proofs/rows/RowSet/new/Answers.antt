use Rattle.audit_types.specs.Limits.{most_words}
use Rattle.audit_types.specs.RowLaws.{rows_that_none}
use Rattle.audit_types.specs.WordLaws.{no_bit, AreWords-none}
use Rattle.audit_types.proofs.rows.RowSet.new.Goals as goal

pub invariant_of-result : goal.invariant_of-result
invariant_of-result c = AreWords-none c.args.n c.requires.some c.requires.at_most

pub returns-clause-empty : goal.returns-clause-empty
returns-clause-empty c = rows_that_none _ c.args.n (λ r l. no_bit most_words r)
