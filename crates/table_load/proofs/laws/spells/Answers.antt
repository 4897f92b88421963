use Rattle.table_load.proofs.NumeralLaw.{numeral_from_number, number_from_numeral}
use Rattle.table_load.proofs.laws.spells.Goals as goal

pub returns-clause-only : goal.returns-clause-only
returns-clause-only c = numeral_from_number

pub returns-clause-all : goal.returns-clause-all
returns-clause-all c = number_from_numeral
