use Rattle.table_load.proofs.GoodFiles.{has_parts, secret_is, public_is, public_fits, shape_is}
use Rattle.table_load.proofs.laws.secrets_of_a_table.Goals as goal

pub returns-clause-secret : goal.returns-clause-secret
returns-clause-secret c =
    λ schema bytes t are is. secret_is schema t (has_parts schema bytes t is) (c.shape_of_a_table.ensures.valid schema)
    (λ rows. c.shape_of_a_table.ensures.secrets schema rows are)

pub returns-clause-public : goal.returns-clause-public
returns-clause-public c = λ schema bytes t is. public_is schema t (has_parts schema bytes t is)

pub returns-clause-shape : goal.returns-clause-shape
returns-clause-shape c = λ schema bytes t is. shape_is schema t (has_parts schema bytes t is)

pub returns-clause-fits : goal.returns-clause-fits
returns-clause-fits c = λ schema bytes t is. public_fits schema t (has_parts schema bytes t is)
