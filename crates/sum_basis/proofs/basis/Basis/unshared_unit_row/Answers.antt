use Rattle.std.proofs.Common.{◌<◌, [], get_or, length, sym, ap, ◌∙◌, subst, arith, inl, inr}
use Rattle.std.proofs.lemmas.Bool.{cases_eq, true≢false, eqb-true, eq-eqb}
use Rattle.audit_types.specs.Form.{InSpan, pivot}
use Rattle.audit_types.specs.Rows.{has_row}
use Rattle.sum_basis.specs.Basis.{Echelon, SpansUnit, unit_row, IsFreeList}
use Rattle.sum_basis.specs.Elimination.{IsSmallForm}
use Rattle.sum_basis.proofs.OwnRows.{not_alone}
use Rattle.sum_basis.proofs.OwnUnits.{spans_pivot, none_below, none_at_all}
use Rattle.sum_basis.proofs.basis.Basis.unshared_unit_row.Goals as goal
use Rattle.sum_basis.proofs.basis.Basis.unshared_unit_row.Goals.{else-is_empty-via-then-is_empty+else-not-has, else-is_empty-via-else-is_empty}

pub loop-k-preserved : goal.loop-k-preserved
loop-k-preserved c = λ j before mine span.
    let form = c.args.self.now in
    let k = c.loop-k.k in
    let shared = c.args.shared.now.list in
    let same = c.form-form.ensures in
    let at = c.pivot-place.ensures.pivot ∙ ap (λ (e : Echelon). pivot (get_or e.rows k [])) same in
    let f = subst (λ (e : Echelon). IsSmallForm e.n e.rows) same c.rank-k-end.ensures.form in
    let free = subst (λ (e : Echelon). IsFreeList e.n e.rows (get_or e.rows k []) c.free.result.now) same c.free.ensures in
    let rank = c.rank-k-end.ensures.rank ∙ ap (λ (e : Echelon). length e.rows) same in
    let within : k < length form.rows = let test = c.loop-k-test.true in omega arith in
    elim (cases_eq j k) [
      | inl here ↦ elim c.else-is_empty.branch [
        | else-is_empty-via-then-is_empty+else-not-has w ↦
            true≢false
            (sym (sym w.has.ensures ∙ w.if-not-has.false) ∙ ap (has_row shared) (at ∙ ap (λ i. pivot (get_or form.rows i [])) (sym here)) ∙ mine)
        | else-is_empty-via-else-is_empty w ↦
            not_alone form f k within c.free.result.now free
            (λ none. true≢false (sym (c.is_empty.ensures ∙ eq-eqb (length c.free.result.now) 0 none) ∙ w.if-is_empty.false))
            (subst (λ i. InSpan form.rows (unit_row form.n (pivot (get_or form.rows i [])))) here span)
      ]
      | inr other ↦ c.loop-k.invariant j (omega (arith, other)) mine span
    ]

pub returns-then-not-has : goal.returns-then-not-has
returns-then-not-has c =
    let form = c.args.self.now in
    let k = c.loop-k.k in
    let shared = c.args.shared.now.list in
    let same = c.form-form.ensures in
    let at = c.pivot-place.ensures.pivot ∙ ap (λ (e : Echelon). pivot (get_or e.rows k [])) same in
    let f = subst (λ (e : Echelon). IsSmallForm e.n e.rows) same c.rank-k-end.ensures.form in
    let free = subst (λ (e : Echelon). IsFreeList e.n e.rows (get_or e.rows k []) c.free.result.now) same c.free.ensures in
    let rank = c.rank-k-end.ensures.rank ∙ ap (λ (e : Echelon). length e.rows) same in
    let within : k < length form.rows = let test = c.loop-k-test.true in omega arith in
    let none = eqb-true (length c.free.result.now) 0 (sym c.is_empty.ensures ∙ c.if-is_empty.true) in (
      (
        subst (SpansUnit form) (sym at) (spans_pivot form f k c.free.result.now within free none),
        sym c.has.ensures ∙ c.if-not-has.true,
      ),
      λ i less found. none_below form f shared k i within c.loop-k.invariant (subst (λ p. i < p) at less) found.0 found.1,
    )

pub returns : goal.returns
returns c = λ i found.
    let form = c.args.self.now in
    let same = c.form-form.ensures in
    let f = subst (λ (e : Echelon). IsSmallForm e.n e.rows) same c.rank-k-end.ensures.form in
    let rank = c.rank-k-end.ensures.rank ∙ ap (λ (e : Echelon). length e.rows) same in
    none_at_all form f c.args.shared.now.list c.loop-k.k i (let past = c.loop-k-test.false in omega arith) c.loop-k.invariant found.0 found.1
