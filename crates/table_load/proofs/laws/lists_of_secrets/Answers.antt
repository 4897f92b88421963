use Rattle.table_load.specs.SecretLists.{are_secrets}
use Rattle.table_load.proofs.laws.lists_of_secrets.Goals as goal

pub returns : goal.returns
returns c = are_secrets
