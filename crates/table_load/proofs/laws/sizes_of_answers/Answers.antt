use Rattle.table_load.proofs.AnswerSizes.{sums_small, maxima_small}
use Rattle.table_load.proofs.laws.sizes_of_answers.Goals as goal

pub returns-clause-sums : goal.returns-clause-sums
returns-clause-sums c = sums_small

pub returns-clause-maxima : goal.returns-clause-maxima
returns-clause-maxima c = maxima_small
