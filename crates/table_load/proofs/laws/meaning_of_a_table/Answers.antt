use Rattle.table_load.specs.MeaningLaws.{read_means, means_read}
use Rattle.table_load.proofs.laws.meaning_of_a_table.Goals as goal

pub returns : goal.returns
returns c = record { read = read_means; meant = λ columns bytes public secret. means_read }
