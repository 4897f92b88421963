use Rattle.std.proofs.Common.{ap, sym}
use Rattle.predicate_lang.specs.Trees.{tree_of}
use Rattle.set_index.specs.Indexed.{IndexView}
use Rattle.set_index.proofs.Sets.{asked_meant}
use Rattle.set_index.proofs.index.Index.fill_rows_of.Goals as goal

pub returns-clause-rows : goal.returns-clause-rows
returns-clause-rows c =
    asked_meant c.args.self.now.public (tree_of c.args.pred.now) c.self.inside.only _ _ _ (sym (ap (λ (v : IndexView). v.public.only) c.self.view_is))
    c.fill_rows_of.ensures.rows c.fill_rows_of.ensures.n c.cut_to.ensures.all c.cut_to.ensures.cut
