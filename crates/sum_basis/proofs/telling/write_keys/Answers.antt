use Rattle.std.proofs.Common.{◌≡◌, ◌<◌, ℕ, List, [], get_or, refl, sym, ap, ◌∙◌, subst, inl, inr, arith}
use Rattle.std.specs.Prelude.{Contains, IsTrue}
use Rattle.std.specs.List.{AllByRecursion}
use Rattle.std.proofs.lemmas.Result.{IfOk-weaker}
use Rattle.sum_basis.specs.Basis.{unit_row}
use Rattle.sum_basis.specs.Keys.{IsKeyAmong}
use Rattle.sum_basis.specs.Points.{HasKey, Matters}
use Rattle.sum_basis.specs.declared.sparse.FreeEntry.{FreeEntry}
use Rattle.sum_basis.proofs.ColumnLists.{in_or_not, known_key, new_is_left, none_is_new, not_among, touched_key, untouched_key}
use Rattle.sum_basis.proofs.telling.write_keys.Goals as goal

pub returns-in_default : goal.returns-in_default
returns-in_default c = λ yes j below matters.
    let form = c.args.form.now in
    let kept = c.args.kept.now in
    let weights = kept.weights.items in
    let none = none_is_new weights c.args.list.now (rw c.in_default.is at c.requires.new) in
    let stays : get_or c.copy_from_slice.new.self j 0 ≡ get_or kept.keys.items j 0 =
    ap (λ (l : List ℕ). get_or l j 0) (c.copy_from_slice.ensures.after ∙ c.deref.ensures.value) in
    subst (λ (l : List FreeEntry). HasKey form weights l (unit_row form.n j) (get_or c.copy_from_slice.new.self j 0)) (sym none)
    (subst (HasKey form weights [] (unit_row form.n j)) (sym stays)
    (known_key form c.columns.ensures.form kept j below
    (c.requires.kept.known j below (c.if-not-are_all_known.ensures refl j (omega (arith, below, c.requires.kept.columns)) matters))))

pub write_keys_of-requires-clause-below : goal.write_keys_of-requires-clause-below
write_keys_of-requires-clause-below c =
    subst (λ (m : ℕ). AllByRecursion (λ q. q < m) c.in_ok-touched.touched.columns.items) (sym (c.copy_from_slice.auto.self ∙ c.requires.keys))
    c.in_ok-touched.ensures.below

pub returns : goal.returns
returns c =
    let form = c.args.form.now in
    let kept = c.args.kept.now in
    let weights = kept.weights.items in
    let list = c.args.list.now in
    let beside = c.args.beside.now.list in
    let several = c.args.several.now.list in
    let touched = c.in_ok-touched.touched in
    let new = rw c.in-Some.is at c.requires.new in
    let left = new_is_left form weights list c.in-Some.first c.requires.list new in
    let keys = c.write_keys_of.new.keys in
    IfOk-weaker c.write_keys_of.result
    (λ written. IsTrue written → (q : ℕ) → Contains touched.columns.items q → IsKeyAmong touched q (get_or keys q 0))
    (λ written. IsTrue written → (j : ℕ) → j < form.n → Matters beside several j → HasKey form weights list (unit_row form.n j) (get_or keys j 0))
    (λ written h yes j below matters. elim (in_or_not touched.columns.items j) [
      | inl found ↦ touched_key form weights list touched j (get_or keys j 0) c.in_ok-touched.ensures.are (h yes j found)
      | inr none ↦
          let stays : get_or keys j 0 ≡ get_or kept.keys.items j 0 = c.write_keys_of.ensures.others j none
          ∙ ap (λ (l : List ℕ). get_or l j 0) (c.copy_from_slice.ensures.after ∙ c.deref.ensures.value) in
          subst (HasKey form weights list (unit_row form.n j)) (sym stays)
          (untouched_key form c.columns.ensures.form kept j below list c.in-Some.first new (c.if-not-has_inverse.ensures refl)
          (c.requires.kept.known j below (c.if-not-are_all_known.ensures refl j (omega (arith, below, c.requires.kept.columns)) matters))
          (not_among form weights list beside several touched.columns.items touched.points.items j left c.in_ok-touched.ensures matters none))
    ]) c.write_keys_of.ensures.written
