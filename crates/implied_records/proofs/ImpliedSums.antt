-- A sum is implied by those before it exactly when the row of its set lies in their span: then, and only then, all lists that
-- give the answers before it have one total over its set.
use Rattle.std.proofs.Common.{◌≡◌, ℕ, List, sym, ◌∙◌}
use Rattle.std.specs.List.{AllByRecursion}
use Rattle.audit_types.specs.Rows.{AreRows}
use Rattle.audit_types.specs.Truth.{sum_over}
use Rattle.audit_types.specs.Column.{Answer, Agrees, IsPossible, known_sum, with_answer}
use Rattle.audit_types.specs.ListLaws.{all-front, all-map}
use Rattle.sum_audit.specs.Laws.{FixedTotalsBySpan, IsFixedTotal}
use Rattle.implied_records.specs.Kept.{IsImplied}
use Rattle.implied_records.specs.Laws.{ImpliedBySpan}

module _ (n : ℕ) (answers : List Answer) (a : Answer) (possible : IsPossible (with_answer (known_sum n answers) a.rows a.value)) where
  -- some list gives the sum and those before it
  gives : AllByRecursion (λ b. sum_over possible.0 b.rows ≡ b.value) answers × (sum_over possible.0 a.rows ≡ a.value)
  gives = all-front (λ b. sum_over possible.0 b.rows ≡ b.value) answers (record { rows = a.rows; value = a.value }) possible.1.same

  agrees : Agrees (known_sum n answers) possible.0
  agrees = record { one_each = possible.1.one_each; same = gives.0 }

  fixed : IsImplied (known_sum n answers) a → IsFixedTotal n answers a.rows
  fixed implied w v first second = implied w first ∙ sym (implied v second)

  implied : IsFixedTotal n answers a.rows → IsImplied (known_sum n answers) a
  implied total w first = total w possible.0 first agrees ∙ gives.1

pub implied_by_span : FixedTotalsBySpan → ImpliedBySpan
implied_by_span law n answers a are rows possible =
    let spans = law n answers a.rows (all-map (λ b. b.rows) (AreRows n) answers are) rows (possible.0, agrees n answers a possible) in
    (λ so. spans.0 (fixed n answers a possible so), λ span. implied n answers a possible (spans.1 span))
