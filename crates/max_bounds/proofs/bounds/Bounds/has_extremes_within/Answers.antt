use Rattle.std.proofs.Common.{◌≡◌, ℤ, sym, ap, ◌∙◌, subst, to_z, of_z}
use Rattle.std.specs.Int.{w64}
use Rattle.std.specs.Prelude.{◌↔◌, IsTrue}
use Rattle.std.proofs.lemmas.Int.{to_z-of_z}
use Rattle.max_bounds.specs.Maxima.{Maxima, answers_of}
use Rattle.max_bounds.specs.Outside.{HasExtremesWithin}
use Rattle.max_bounds.proofs.HeldExtremes.{extremes_of_set, set_of_extremes}
use Rattle.max_bounds.proofs.bounds.Bounds.has_extremes_within.Goals as goal

pub has_within-requires : goal.has_within-requires
has_within-requires c =
    let same_n : c.self.inside.n ≡ c.args.rows.now.n = ap (λ (m : Maxima). m.n) c.self.view_is ∙ sym c.requires.same_n in
    record {
      same_n = c.self.invariant.same_n_least ∙ same_n;
      descend = c.self.invariant.descend;
      marked = c.self.invariant.marked;
    }

pub returns : goal.returns
returns c =
    let answers = answers_of c.self.inside.pairs.items in
    let sets = answers_of c.self.inside.least.items in
    let rows = c.args.rows.now.list in
    let least = c.self.invariant.tells.are_least in
    let value : ℤ = to_z w64 (of_z w64 c.args.answer) in
    subst (λ (m : Maxima). IsTrue c.has_within.result ↔ HasExtremesWithin m.answers rows c.args.answer) c.self.view_is
    (subst (λ v. IsTrue c.has_within.result ↔ HasExtremesWithin answers rows v) (to_z-of_z w64 c.args.answer c.ranges.answer) (
      (λ yes. extremes_of_set answers sets least rows value (c.has_within.ensures.0 yes)),
      (λ held. c.has_within.ensures.1 (set_of_extremes answers sets least rows value held)),
    ))
