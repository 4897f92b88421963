use Rattle.std.proofs.Common.{sym, ap, ◌∙◌}
use Rattle.predicate_lang.specs.Trees.{Tree, tree_step, tree_of}
use Rattle.predicate_lang.specs.Building.{part_of}
use Rattle.predicate_lang.specs.Machine.{add_or}
use Rattle.predicate_lang.specs.declared.trees.Pred.TheVariants.{rolls-Or}
use Rattle.predicate_lang.specs.declared.trees.Pred.TheFolds.{fold-roll-Pred}
use Rattle.predicate_lang.proofs.building.or_of.Goals as goal

pub returns-in_ok-new-in-Some : goal.returns-in_ok-new-in-Some
returns-in_ok-new-in-Some c =
    let left = c.in-Some.d in
    ap tree_of (c.in_ok-new-in-Some.ensures.ok ∙ sym (rolls-Or left c.args.p)) ∙ fold-roll-Pred Tree tree_step _
    ∙ ap (λ ors. add_or (part_of ors) (tree_of c.args.p.value)) (sym c.in-Some.is)
