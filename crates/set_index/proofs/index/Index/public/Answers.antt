use Rattle.std.proofs.Common.{ap, sym, ◌∙◌}
use Rattle.table_load.specs.Cells.{whole}
use Rattle.set_index.specs.Indexed.{IndexView}
use Rattle.set_index.proofs.index.Index.public.Goals as goal

pub returns : goal.returns
returns c = sym c.self.invariant.all ∙ ap (λ (v : IndexView). whole v.public) c.self.view_is
