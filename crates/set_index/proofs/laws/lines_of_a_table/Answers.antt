use Rattle.set_index.proofs.GroupLaws.{rows_are_lines}
use Rattle.set_index.proofs.laws.lines_of_a_table.Goals as goal

pub returns : goal.returns
returns c = rows_are_lines
