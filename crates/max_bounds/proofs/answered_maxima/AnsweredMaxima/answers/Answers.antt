use Rattle.std.proofs.Common.{sym, ap, ◌∙◌, map}
use Rattle.max_bounds.specs.Maxima.{ListOfMaxima}
use Rattle.max_bounds.proofs.PairedSets.{answers-paired}
use Rattle.max_bounds.specs.declared.answered.AnsweredMax.{AnsweredMax}
use Rattle.max_bounds.proofs.answered_maxima.AnsweredMaxima.answers.Goals as goal

pub returns : goal.returns
returns c =
    c.deref.ensures.value ∙ sym (answers-paired c.self.inside.answers.items c.self.inside.sets.list c.self.invariant)
    ∙ ap (λ (m : ListOfMaxima). map (λ (p : AnsweredMax). p.answer) m.items) c.self.view_is
