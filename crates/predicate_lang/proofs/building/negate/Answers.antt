use Rattle.std.proofs.Common.{◌≡◌, false, refl, sym, ap, ◌∙◌}
use Rattle.predicate_lang.specs.Trees.{tree_of}
use Rattle.predicate_lang.specs.Machine.{is_under_not, negated, without_nots}
use Rattle.predicate_lang.specs.Building.{frames_of}
use Rattle.predicate_lang.proofs.Frames.{negated_bracket, without_nots_bracket}
use Rattle.predicate_lang.proofs.Pushes.{where_refused}
use Rattle.predicate_lang.proofs.building.negate.Goals as goal

pub nots-init : goal.nots-init
nots-init c = record { same_tree = refl; same_rest = refl }

pub end_not-requires : goal.end_not-requires
end_not-requires c = ap (λ os. is_under_not (frames_of os)) (sym c.deref.ensures.value) ∙ sym c.is_under_not.ensures ∙ c.nots-test.true

pub nots-preserved : goal.nots-preserved
nots-preserved c =
    let ended = c.end_not.ensures.frames in
    record {
      same_tree =
          ap (negated (frames_of c.end_not.new.opened.items)) c.in_ok-p.ensures
          ∙ sym (ap (λ fs. negated fs (tree_of c.nots.p.value)) ended) ∙ c.nots.invariant.same_tree;
      same_rest = sym (ap without_nots ended) ∙ c.nots.invariant.same_rest;
    }

pub nots-smaller : goal.nots-smaller
nots-smaller c = c.end_not.ensures.fewer

pub returns : goal.returns
returns c =
    let frames = frames_of c.nots.opened.items in
    let none : is_under_not frames ≡ false =
    ap (λ os. is_under_not (frames_of os)) (sym c.deref.ensures.value) ∙ sym c.is_under_not.ensures ∙ c.nots-test.false in
    record {
      tree = sym (negated_bracket frames (tree_of c.nots.p.value) none) ∙ c.nots.invariant.same_tree;
      rest = sym (without_nots_bracket frames none) ∙ c.nots.invariant.same_rest;
    }

pub returns-in_err-p-clause-rest : goal.returns-in_err-p-clause-rest
returns-in_err-p-clause-rest c = where_refused c.from_residual.result _ c.from_residual.ensures.0
