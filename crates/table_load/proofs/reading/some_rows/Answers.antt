use Rattle.std.proofs.Common.{refl, sym, arith, ◌∙◌, vec_len}
use Rattle.std.proofs.lemmas.Bool.{eqb-true}
use Rattle.table_load.proofs.reading.some_rows.Goals as goal

pub returns-then-is_empty : goal.returns-then-is_empty
returns-then-is_empty c = (refl, omega (arith, eqb-true (vec_len c.args.rows) 0 (sym c.is_empty.ensures ∙ c.if-is_empty.true)))
