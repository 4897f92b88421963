use Rattle.std.proofs.Common.{sym, ap, ◌∙◌, length}
use Rattle.max_bounds.specs.Maxima.{ListOfMaxima}
use Rattle.max_bounds.proofs.PairedSets.{length-paired}
use Rattle.max_bounds.proofs.answered_maxima.AnsweredMaxima.len.Goals as goal

pub returns : goal.returns
returns c =
    c.len.ensures ∙ sym (length-paired c.self.inside.answers.items c.self.inside.sets.list c.self.invariant)
    ∙ ap (λ (m : ListOfMaxima). length m.items) c.self.view_is
