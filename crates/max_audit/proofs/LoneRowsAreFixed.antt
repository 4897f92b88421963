-- A lone row has the value of its answer, in every list that agrees.
--
-- If a list gives all answers, the row of a set that has the greatest number has its bound there: it is at most the bound,
-- and the bound is at most the answer. So each answer has an extreme row with its value; if only one row is extreme, it is that one.
use Rattle.std.proofs.Common.{◌≡◌, ◌≢◌, ℕ, ℤ, true, List, [], ◌∷◌, sym, ap, ◌∙◌, arith, inl, inr}
use Rattle.std.proofs.lemmas.Int.{ints}
use Rattle.std.proofs.lemmas.Bool.{true≢false}
use Rattle.std.specs.List.{AllByRecursion}
use Rattle.audit_types.specs.Rows.{has_row}
use Rattle.audit_types.specs.Truth.{number_at, greatest_over}
use Rattle.audit_types.specs.Column.{Answer, IsOneOf, known_max}
use Rattle.audit_types.specs.Extremes.{upper_bound, is_bound, extremes, IsLone}
use Rattle.max_audit.specs.Laws.{IsFixed}
use Rattle.max_bounds.specs.AnswerLaws.{all_at}
use Rattle.audit_types.specs.GreatestLaws.{bound_and_reached}
use Rattle.audit_types.specs.WalkLaws.{first_or_later}
use Rattle.max_bounds.specs.RowListLaws.{has-filter}
use Rattle.max_bounds.specs.BoundLaws.{bound_below, bound_is}
use Rattle.max_audit.proofs.UpperBounds.{Gives, below_bound}

-- if a list gives all answers, each answer has an extreme row with its value
pub extreme_row : (w : List ℤ) (answers : List Answer) (a : Answer) → Gives w answers → IsOneOf a answers → a.rows ≢ [] →
    (q : ℕ) × (has_row (extremes answers a) q ≡ true) × (number_at w q ≡ a.value)
extreme_row w answers a gives one some =
    let hit = (bound_and_reached w a.rows some).1 in
    let q = hit.0 in
    let value = all_at (λ b. greatest_over w b.rows ≡ b.value) answers a gives one in
    let bound = bound_below answers a q one hit.1 in
    let low = below_bound w answers q bound.0 gives bound.1 in
    let reach = hit.2 in
    let under = bound.2 in
    let same : bound.0 ≡ a.value = omega (arith, ints) in (
      q,
      has-filter (λ r. is_bound (upper_bound answers r) a.value) a.rows q hit.1 (bound_is (upper_bound answers q) bound.0 a.value bound.1 same),
      reach
          ∙ value,
    )

-- a lone row has the value of its answer
pub lone_value : (w : List ℤ) (answers : List Answer) (a : Answer) (r : ℕ) → Gives w answers → IsOneOf a answers → a.rows ≢ [] → extremes answers a ≡ r ∷ [] →
    number_at w r ≡ a.value
lone_value w answers a r gives one some only =
    let hit = extreme_row w answers a gives one some in
    let there : has_row (r ∷ []) hit.0 ≡ true = ap (λ l. has_row l hit.0) (sym only) ∙ hit.1 in
    let same : r ≡ hit.0 = elim (first_or_later r hit.0 [] there) [ inl e ↦ e | inr none ↦ absurd (true≢false (sym none)) ] in
    ap (number_at w) same ∙ hit.2

-- so it is the same in all lists that agree
pub lone_rows_are_fixed : (n : ℕ) (answers : List Answer) (i : ℕ) → AllByRecursion (λ b. b.rows ≢ []) answers → IsLone answers i →
    IsFixed (known_max n answers) i
lone_rows_are_fixed n answers i some (a, one, only) = λ w v first second.
    lone_value v answers a i second.same one (all_at (λ b. b.rows ≢ []) answers a some one) only
    ∙ sym (lone_value w answers a i first.same one (all_at (λ b. b.rows ≢ []) answers a some one) only)
