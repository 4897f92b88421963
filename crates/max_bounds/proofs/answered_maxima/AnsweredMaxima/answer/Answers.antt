use Rattle.std.proofs.Common.{◌≡◌, sym, ◌∙◌, arith, rules, SFits, length}
use Rattle.std.specs.Prelude.{vec_len}
use Rattle.std.specs.Int.{w64}
use Rattle.std.proofs.lemmas.Int.{to_z-of_z}
use Rattle.max_bounds.proofs.PairedSets.{within, answer_is}
use Rattle.max_bounds.proofs.answered_maxima.AnsweredMaxima.answer.Goals as goal

pub index-requires : goal.index-requires
index-requires c =
    let place = within c.self.inside c.args.self.now c.self.view_is c.self.invariant c.args.k c.requires in
    let long : vec_len c.self.inside.answers ≡ length c.self.inside.answers.items = search rules in
    omega (arith, place, long, c.self.invariant)

pub returns : goal.returns
returns c =
    let fits : SFits w64 c.index.result.now = search rules in
    to_z-of_z w64 c.index.result.now fits
    ∙ sym (answer_is c.self.inside c.args.self.now c.self.view_is c.self.invariant c.args.k c.index.result.now c.requires c.index.ensures)
