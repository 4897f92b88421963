use Rattle.std.proofs.Common.{rules, ◌≡◌, ◌≢◌, length, List, take, get_or, [], ◌∷◌, ◌++◌, sym, ap, ◌∙◌, refl, arith}
use Rattle.std.proofs.lemmas.List.{take_more}
use Rattle.std.proofs.lemmas.Option.{slice_get_read, slice_get_within, same_Some}
use Rattle.audit_types.specs.declared.records.Answered.{Answered}
use Rattle.audit_store.proofs.agreeing.agreement.Goals as goal

pub returns-then-ne-clause-differ : goal.returns-then-ne-clause-differ
returns-then-ne-clause-differ c = λ a b here there same.
    let first = c.args.first.now in
    let second = c.args.second.now in
    let place = c.loop-place.place in
    let ours = c.index-first-place.result in
    let theirs = c.index-second-place.result in
    let other : ours ≢ theirs = search rules in
    let is : a ≡ ours = same_Some a ours (sym here ∙ slice_get_read first (length first) place ours refl
    (slice_get_within first place a here) c.index-first-place.is) in
    let are : b ≡ theirs = same_Some b theirs
    (sym there ∙ slice_get_read second (length second) place theirs refl (slice_get_within second place b there) c.index-second-place.is) in
    other (sym is ∙ same ∙ are)

pub loop-place-preserved : goal.loop-place-preserved
loop-place-preserved c =
    let first = c.args.first.now in
    let second = c.args.second.now in
    let place = c.loop-place.place in
    let ours = c.index-first-place.result in
    let theirs = c.index-second-place.result in
    let same : ours ≡ theirs = search rules in
    take_more first place ours (omega (arith, c.loop-place-test.true, c.min-end.ensures))
    ∙ ap (λ (r : Answered). take place first ++ r ∷ []) (sym c.index-first-place.is ∙ same ∙ c.index-second-place.is)
    ∙ ap (λ (l : List Answered). l ++ get_or second place theirs ∷ []) c.loop-place.invariant
    ∙ sym (take_more second place theirs (omega (arith, c.loop-place-test.true, c.min-end.ensures)))

pub returns-clause-differ : goal.returns-clause-differ
returns-clause-differ c = λ a b here there.
    absurd
    (omega (arith, c.min-end.ensures, slice_get_within c.args.first.now c.min-end.result a here, slice_get_within c.args.second.now c.min-end.result b there))
