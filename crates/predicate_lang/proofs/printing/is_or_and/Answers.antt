use Rattle.std.proofs.Common.{sym, ap, ◌∙◌}
use Rattle.predicate_lang.specs.Trees.{Tree, tree_step, tree_of}
use Rattle.predicate_lang.specs.Printing.{is_or_and}
use Rattle.predicate_lang.specs.declared.trees.Pred.TheVariants.{rolls-And}
use Rattle.predicate_lang.specs.declared.trees.Pred.TheFolds.{fold-roll-Pred}
use Rattle.predicate_lang.proofs.printing.is_or_and.Goals as goal

pub returns-in-And : goal.returns-in-And
returns-in-And c =
    sym (ap is_or_and (ap tree_of c.in-And.is ∙ ap tree_of (sym (rolls-And c.in-And.field-0 c.in-And.field-1)) ∙ fold-roll-Pred Tree tree_step _))
