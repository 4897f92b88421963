use Rattle.std.proofs.Common.{◌≡◌, ◌≢◌, ℕ, ◌<◌, List, length, get_or, set, refl, sym, ap, ◌∙◌, subst, inl, inr, arith, get_or-set_other, get_or-set_same}
use Rattle.std.specs.Prelude.{Contains}
use Rattle.std.proofs.lemmas.Bool.{cases_eq}
use Rattle.std.proofs.lemmas.List.{length-set, get_or_default, with_items_is}
use Rattle.std.proofs.lemmas.List.Elements.{Contains-get_or}
use Rattle.audit_types.specs.ListLaws.{all-get_or}
use Rattle.sum_basis.specs.Keys.{IsKeyAmong, point_at}
use Rattle.sum_basis.specs.Points.{IsKey}
use Rattle.sum_basis.specs.declared.points.Point.{Point}
use Rattle.sum_basis.proofs.KeyProducts.{no_point}
use Rattle.sum_basis.proofs.column_keys.write_keys_of.Goals as goal

pub loop-k-preserved : goal.loop-k-preserved
loop-k-preserved c =
    let some = c.args.some.now in
    let columns = some.columns.items in
    let slice = c.deref-column-items.result.now in
    let value : slice ≡ columns = c.deref-column-items.ensures.value in
    let keys = c.loop-k.keys in
    let k = c.loop-k.k in
    let found = c.index.result.now in
    let place = get_or slice k 0 in
    let place_is : place ≡ get_or columns k 0 = ap (λ (l : List ℕ). get_or l k 0) value in
    let long : length slice ≡ length columns = ap length value in
    let within : k < length columns = let step = c.loop-k-test.true in omega (arith, long) in
    let was = c.loop-k.invariant in
    let inside : place < length keys =
    subst (λ (q : ℕ). q < length keys) (sym place_is)
    (subst (λ (m : ℕ). get_or columns k 0 < m) (sym was.long) (all-get_or (λ q. q < length c.args.keys.now) columns k 0 c.requires.below within)) in
    let size = c.in_ok-found.ensures.len in
    let points_within : k < length some.points.items = omega (arith, within, c.requires.each) in
    let each : length c.keys_of.new.keys ≡ c.in_ok-found.found.len = c.keys_of.auto.keys ∙ c.deref_mut.ensures.len in
    let keyed : k < length c.keys_of.new.keys =
    let points_are = c.deref.ensures.len in
    let slice_is = ap length c.deref.ensures.value in
    omega (arith, points_within, each, size, c.len.ensures, points_are, slice_is) in
    let found_is : found ≡ get_or c.keys_of.new.keys k 0 =
    c.index.ensures ∙ ap (λ (l : List ℕ). get_or l k found) (with_items_is c.in_ok-found.found c.keys_of.new.keys each)
    ∙ get_or_default c.keys_of.new.keys k found 0 keyed in
    let is : IsKey (point_at some.points.items k) found =
    subst (IsKey (point_at some.points.items k)) (sym found_is)
    (subst (λ (ps : List Point). IsKey (get_or ps k no_point) (get_or c.keys_of.new.keys k 0)) c.deref.ensures.value
    (c.if-not-keys_of.ensures refl k (let long = ap length c.deref.ensures.value in omega (arith, points_within, long)))) in
    let new = set keys place found in
    record {
      long = length-set keys place found ∙ was.long;
      written = λ i upto. elim (cases_eq (get_or columns i 0) place) [
        | inl same ↦ (
          k,
          within,
          sym place_is ∙ sym same,
          subst (λ (q : ℕ). IsKey (point_at some.points.items k) (get_or new q 0)) (sym same) (rw get_or-set_same is),
        )
        | inr apart ↦
            let before : i < k = elim (cases_eq i k) [
              | inl last ↦ absurd (apart (ap (λ (j : ℕ). get_or columns j 0) last ∙ sym place_is))
              | inr other ↦ omega arith
            ] in
            rw get_or-set_other (was.written i before)
      ];
      others = λ q none.
          let apart : q ≢ place = λ same.
          none (subst (Contains columns) (sym (same ∙ place_is)) (Contains-get_or columns k 0 within)) in
          rw get_or-set_other (was.others q none);
    }

pub returns-clause-written : goal.returns-clause-written
returns-clause-written c = λ yes q (k, within, at).
    let columns = c.args.some.now.columns.items in
    let is : get_or columns k 0 ≡ q = get_or_default columns k 0 q within ∙ at in
    subst (λ (i : ℕ). IsKeyAmong c.args.some.now i (get_or c.loop-k.keys i 0)) is
    (c.loop-k.invariant.written k
    (let ends = c.loop-k-test.false in let long = ap length c.deref-column-items.ensures.value in omega (arith, within, long)))
