use Rattle.std.proofs.Common.{◌≡◌, ap, ◌∙◌}
use Rattle.max_audit.specs.Witnesses.{highest, lowered_at}
use Rattle.witness_build.proofs.HighestList.{both_agree}
use Rattle.witness_build.proofs.maxima.max_witness.Goals as goal

pub returns-clause-agree : goal.returns-clause-agree
returns-clause-agree c =
    let known = c.args.column.now in
    let high : c.in_ok-hi.hi.items ≡ highest known.n known.answers = c.in_ok-hi.ensures.exact ∙ ap (λ b. highest b.n b.answers) c.bounds-bounds.ensures.exact in
    let low : c.in_ok-lo.lo.items ≡ lowered_at (highest known.n known.answers) c.args.row = c.in_ok-lo.ensures.exact
    ∙ ap (λ w. lowered_at w c.args.row) (c.deref.ensures.value ∙ high) in
    let both = both_agree c.others_are_free.ensures.highest c.others_are_free.ensures.lowered known c.args.row c.bounds-bounds.ensures.maxima
    c.bounds-bounds.ensures.well_formed
    c.requires.consistent c.requires.free c.requires.row in
    rw (low, high) both
