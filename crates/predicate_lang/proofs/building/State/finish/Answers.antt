use Rattle.std.proofs.Common.{refl, ◌∙◌}
use Rattle.predicate_lang.specs.Building.{frames_of, part_of}
use Rattle.predicate_lang.proofs.Frames.{no_tree}
use Rattle.predicate_lang.proofs.building.State.finish.Goals as goal

pub returns-in_default : goal.returns-in_default
returns-in_default c =
    let state = c.args.self.now in (
      no_tree (frames_of state.opened.items) (part_of state.ors) state.spot state.literals.items
          (λ p is. c.in_default.not-Whole p (c.replace.ensures.value ∙ is)),
      refl,
    )
