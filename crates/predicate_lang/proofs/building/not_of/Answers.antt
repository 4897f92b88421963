use Rattle.std.proofs.Common.{sym, ap, ◌∙◌}
use Rattle.predicate_lang.specs.Trees.{Tree, tree_step, tree_of}
use Rattle.predicate_lang.specs.declared.trees.Pred.TheVariants.{rolls-Not}
use Rattle.predicate_lang.specs.declared.trees.Pred.TheFolds.{fold-roll-Pred}
use Rattle.predicate_lang.proofs.building.not_of.Goals as goal

pub returns : goal.returns
returns c = ap tree_of (c.in_ok-new.ensures.ok ∙ sym (rolls-Not c.args.p)) ∙ fold-roll-Pred Tree tree_step _
