use Rattle.std.proofs.Common.{◌≡◌, ℕ, ◌<◌, ℤ, pos, List, length, get_or, sym, ap, ◌∙◌, subst, arith, inl, inr}
use Rattle.std.proofs.lemmas.Bool.{cases_eq, false≢true}
use Rattle.std.proofs.lemmas.List.{get_or_default}
use Rattle.audit_types.specs.Rows.{Rows, AreRows}
use Rattle.audit_types.specs.Truth.{number_at, sum_over}
use Rattle.audit_types.specs.Form.{set_row}
use Rattle.audit_types.specs.PrimitiveLines.{times}
use Rattle.sum_basis.specs.Elimination.{IsRemainder}
use Rattle.sum_basis.specs.Reach.{AreSmallEntries, IsReached, without_new}
use Rattle.sum_basis.proofs.Reaching.{reached, near, set_tells}
use Rattle.sum_basis.proofs.SetRows.{set_bits}
use Rattle.sum_basis.proofs.SmallEntries.{new_small}
use Rattle.sum_basis.proofs.WithinReach.{has_grown}
use Rattle.sum_basis.proofs.reach.are_sets_near.Goals as goal

pub remainder-requires-clause-bits : goal.remainder-requires-clause-bits
remainder-requires-clause-bits c = set_bits c.set-item.result.n c.set-item.result.list c.write_set.new.row c.write_set.ensures

pub is_near_whole-requires-clause-new : goal.is_near_whole-requires-clause-new
is_near_whole-requires-clause-new c =
    subst (λ (n : ℕ). AreSmallEntries n c.args.new.now) (sym c.remainder.ensures.length) (new_small c.args.form.now c.args.new.now c.requires.new)

-- what is left of the row of a set over the form's columns
left_of : (n m : ℕ) (rows : List (List ℤ)) (list : List ℕ) (row left : List ℤ) → row ≡ set_row m list → m ≡ n →
    (k : ℕ) × (0 < k) × IsRemainder rows (times (pos k) row) left → (k : ℕ) × (0 < k) × IsRemainder rows (times (pos k) (set_row n list)) left
left_of n m rows list row left is same rest =
    (rest.0, rest.1, subst (λ (r : List ℤ). IsRemainder rows (times (pos rest.0) r) left) (is ∙ ap (λ (k : ℕ). set_row k list) same) rest.2)

pub returns-then-not-is_near_whole : goal.returns-then-not-is_near_whole
returns-then-not-is_near_whole c = λ grown is.
    let form = c.args.form.now in
    let set = c.set-item.result in
    let left = c.remainder.new.row in
    let same : set.n ≡ form.n = ap (λ (s : Rows). s.n) c.set-item.is ∙ c.requires.same_n c.loop-set.set-index set c.loop-set-test.true in
    let g = has_grown form c.args.new.now grown c.remainder.ensures.form c.requires.new is in
    let tells = set_tells form.n form.rows c.args.new.now grown g left c.remainder.ensures.length set.list
    (subst (λ (n : ℕ). AreRows n set.list) same c.n.ensures.are_rows)
    (left_of form.n set.n form.rows set.list c.write_set.new.row left c.write_set.ensures same c.remainder.ensures.remainder) in (
      λ yes. absurd (false≢true yes),
      λ all. absurd (false≢true (sym c.if-not-is_near_whole.true ∙ c.is_near_whole.ensures.1
          (near form.n form.rows c.args.new.now grown g c.args.counts.now c.args.reach (c.requires.counted grown is) (λ w. sum_over w set.list)
          (without_new c.args.new.now (number_at left)) tells
          (subst (λ (s : Rows). IsReached form.n c.args.reach grown (λ w. sum_over w s.list)) (sym c.set-item.is)
          (all c.loop-set.set-index set c.loop-set-test.true))))),
    )

pub loop-set-preserved : goal.loop-set-preserved
loop-set-preserved c =
    let form = c.args.form.now in
    let set = c.set-item.result in
    let left = c.remainder.new.row in
    let same : set.n ≡ form.n = ap (λ (s : Rows). s.n) c.set-item.is ∙ c.requires.same_n c.loop-set.set-index set c.loop-set-test.true in
    record {
      long = c.remainder.ensures.length;
      near = λ grown is k d low before. elim (cases_eq k c.loop-set.set-index) [
        | inl here ↦
            let g = has_grown form c.args.new.now grown c.remainder.ensures.form c.requires.new is in
            let tells = set_tells form.n form.rows c.args.new.now grown g left c.remainder.ensures.length set.list
            (subst (λ (n : ℕ). AreRows n set.list) same c.n.ensures.are_rows)
            (left_of form.n set.n form.rows set.list c.write_set.new.row left c.write_set.ensures same c.remainder.ensures.remainder) in
            let mine : IsReached form.n c.args.reach grown (λ w. sum_over w set.list) =
            reached form.n form.rows c.args.new.now grown g c.args.counts.now c.args.reach (c.requires.counted grown is) (λ w. sum_over w set.list)
            (without_new c.args.new.now (number_at left)) tells (c.is_near_whole.ensures.0 c.if-not-is_near_whole.false) in
            subst (λ (s : Rows). IsReached form.n c.args.reach grown (λ w. sum_over w s.list))
            (at_index c.args.sets.now c.loop-set.set-index k set d c.loop-set-test.true c.set-item.is here) mine
        | inr other ↦ c.loop-set.invariant.near grown is k d low (let b = before in omega (arith, other))
      ];
    }
  where
    at_index : (sets : List Rows) (i k : ℕ) (s d : Rows) → i < length sets → s ≡ get_or sets i s → k ≡ i → s ≡ get_or sets k d
    at_index sets i k s d l is same = is ∙ get_or_default sets i s d l ∙ sym (ap (λ (j : ℕ). get_or sets j d) same)
