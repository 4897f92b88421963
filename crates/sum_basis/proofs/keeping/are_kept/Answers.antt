use Rattle.std.proofs.Common.{◌≡◌, ◌<◌, length, map, get_or, refl, sym, ap, ◌∙◌, arith}
use Rattle.std.proofs.lemmas.List.{length-map, get_or-map}
use Rattle.sum_basis.specs.declared.keeping.KeptSet.{KeptSet}
use Rattle.sum_basis.proofs.KeptSets.{same_more}
use Rattle.sum_basis.proofs.keeping.are_kept.Goals as goal

pub loop-k-preserved : goal.loop-k-preserved
loop-k-preserved c =
    let kept = c.args.kept.now in
    let sets = c.args.sets.now in
    let k = c.loop-k.k in
    let here = c.index-kept-k.result in
    let within : k < length kept = omega (arith, c.loop-k-test.true, c.if-kept-sets.false) in
    let inside : k < length (map (λ (s : KeptSet). s.rows) kept) = omega (arith, within, length-map kept (λ (s : KeptSet). s.rows)) in
    let at : here.rows ≡ get_or (map (λ (s : KeptSet). s.rows) kept) k here.rows =
    sym (get_or-map (λ (s : KeptSet). s.rows) kept k here here.rows within ∙ ap (λ (s : KeptSet). s.rows) (sym c.index-kept-k.is)) in
    same_more (map (λ (s : KeptSet). s.rows) kept) sets k here.rows c.index-sets-k.result inside c.loop-k-test.true at c.index-sets-k.is
    (ap (λ (s : KeptSet). s.rows) c.index-kept-k.is ∙ c.if-not-same.ensures.0 refl) c.loop-k.invariant
