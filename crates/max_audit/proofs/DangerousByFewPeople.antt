-- A maximum is dangerous exactly if some answer to it leaves few people behind the extreme rows of some answer; and then a candidate does.
--
-- The greatest number over such extreme rows is that answer, in each list that agrees, so all know it. Conversely, what a list that shows the danger
-- discloses would be open after its answer, unless few people stand behind the extreme rows of some answer. And the candidate that lies as this
-- answer does leaves the same extreme rows.
use Rattle.std.proofs.Common.{◌≡◌, ◌≢◌, ℕ, ◌<◌, ℤ, List, [], length, refl, sym, ap, ◌∙◌, arith, inl, inr}
use Rattle.std.specs.Prelude.{◌≤ℤ◌}
use Rattle.std.proofs.lemmas.Int.{ints}
use Rattle.audit_types.specs.Headcount.{Headcount, AreFew}
use Rattle.audit_types.specs.Rows.{AreRows}
use Rattle.audit_types.specs.GreatestLaws.{bound_and_reached, greatest_is}
use Rattle.audit_types.specs.Truth.{greatest_over}
use Rattle.audit_types.specs.Column.{Known, Answer, Agrees, IsOneOf, IsWellFormed, IsDangerous, IsGuarded, number, greatest, total, known_max, guarding}
use Rattle.audit_types.specs.Extremes.{upper_bound, is_bound, extremes, IsConsistent}
use Rattle.audit_types.specs.ListLaws.{all-push, all-front}
use Rattle.max_bounds.specs.AnswerLaws.{all_at, extreme_rows}
use Rattle.max_bounds.specs.OneMoreLaws.{asked, with_asked}
use Rattle.max_bounds.specs.RowListLaws.{filter-has}
use Rattle.max_audit.specs.Witnesses.{highest}
use Rattle.max_audit.specs.Laws.{LeavesFewPeople, DangerousByFewPeople, DangerousByCandidates}
use Rattle.max_audit.proofs.LoneRowsAreFixed.{extreme_row}
use Rattle.max_audit.proofs.OtherRowsAreFree.{highest_agrees_law, possible_by_extremes}
use Rattle.max_audit.proofs.OpenToAskers.{few_or_open}
use Rattle.max_audit.proofs.AnswersInOneGap.{moved}
use Rattle.max_audit.proofs.CandidateOfAGap.{candidate_for}

-- no row is in an empty list
no_row : (rows : List ℕ) → rows ≡ [] → 0 < length rows → ⊥
no_row rows none some = let short = ap length none in omega (arith, short, some)

-- what is at most a number is at most an equal one
at_most_same : (y z v : ℤ) → y ≡ z → v ≤ℤ y → v ≤ℤ z
at_most_same y z v same most = omega (arith, ints, same, most)

module _ (n : ℕ) (answers : List Answer) (people : Headcount) (rows : List ℕ) (well : IsWellFormed (known_max n answers)) (are : AreRows n rows)
    (some : rows ≢ []) where
  -- what is known, with the people behind the rows
  abbrev known : Known
  known = guarding (known_max n answers) people []

  still_well : (x : ℤ) → IsWellFormed (known_max n (with_asked answers rows x))
  still_well x = record {
    are_rows = all-push (λ a. AreRows n a.rows) answers (asked answers rows x) well.are_rows are;
    some = all-push (λ a. a.rows ≢ []) answers (asked answers rows x) well.some some;
  }

  -- ---- danger leaves few

  -- what is guarded stays so after an answer
  still_guarded : (x : ℤ) {own : List ℕ} {value : List ℤ → ℤ} → IsGuarded known own value →
      IsGuarded (guarding (known_max n (with_asked answers rows x)) people []) own value
  still_guarded x (number row below other few) = number row below other few
  still_guarded x (greatest set is of_table full apart few) = greatest set is of_table full apart few
  still_guarded x (total group row one inside other) = let k = one.1 in absurd (omega arith)

  to_few : IsDangerous known rows → (x : ℤ) × LeavesFewPeople known rows x
  to_few danger =
      let x = greatest_over danger.w rows in
      let agrees : Agrees (known_max n (with_asked answers rows x)) danger.w = record {
        one_each = danger.agrees.one_each;
        same = all-push (λ a. greatest_over danger.w a.rows ≡ a.value) answers (asked answers rows x) danger.agrees.same refl;
      } in (
        x,
        record {
          possible = (possible_by_extremes n (with_asked answers rows x) (still_well x)).0 (danger.w, agrees);
          few = elim (few_or_open n (with_asked answers rows x) people danger.w (still_well x) agrees) [
            | inl few ↦ few
            | inr open_to ↦
                let other = open_to danger.own danger.value danger.are_own (still_guarded x danger.guarded) in
                let parts = all-front (λ a. greatest_over other.other a.rows ≡ a.value) answers (asked answers rows x) other.agrees.same in
                absurd (other.differs (danger.disclosed other.other
                (record { agrees = record { one_each = other.agrees.one_each; same = parts.0 }; same = parts.1 }) other.same))
          ];
        },
      )

  -- ---- and what leaves few is dangerous

  module _ (x : ℤ) (possible : IsConsistent (with_asked answers rows x)) (a : Answer) (one : IsOneOf a (with_asked answers rows x))
      (few : AreFew people [] (extremes (with_asked answers rows x) a)) where
    abbrev whole : List Answer
    whole = with_asked answers rows x

    some_extreme : extremes whole a ≢ []
    some_extreme none = no_row (extremes whole a) none (all_at (λ b. 0 < length (extremes whole b)) whole a possible one)

    -- the greatest number over the extreme rows is the answer
    greatest_there : (v : List ℤ) → Agrees (known_max n whole) v → greatest_over v (extremes whole a) ≡ a.value
    greatest_there v agrees =
        let hit = extreme_row v whole a agrees.same one (all_at (λ b. b.rows ≢ []) whole a (still_well x).some one) in
        let most = bound_and_reached v a.rows (all_at (λ b. b.rows ≢ []) whole a (still_well x).some one) in
        greatest_is v (extremes whole a) a.value hit.0 some_extreme
        (λ r there.
        at_most_same (greatest_over v a.rows) a.value _ (all_at (λ b. greatest_over v b.rows ≡ b.value) whole a agrees.same one)
        (most.0 r (filter-has (λ s. is_bound (upper_bound whole s) a.value) a.rows r there).0)) hit.1 hit.2

    from_few : IsDangerous known rows
    from_few =
        let w = highest n whole in
        let agrees = highest_agrees_law n whole (still_well x) possible in
        let parts = all-front (λ b. greatest_over w b.rows ≡ b.value) answers (asked answers rows x) agrees.same in
        record {
          w = w;
          agrees = record { one_each = agrees.one_each; same = parts.0 };
          own = [];
          are_own = (tt, omega arith, tt);
          value = λ v. greatest_over v (extremes whole a);
          guarded = greatest (extremes whole a) refl
              (extreme_rows n whole (still_well x).are_rows a one)
              some_extreme tt few;
          disclosed = λ v alike also.
              greatest_there v (record {
                one_each = alike.agrees.one_each;
                same = all-push (λ b. greatest_over v b.rows ≡ b.value) answers (asked answers rows x) alike.agrees.same (alike.same ∙ parts.1);
              })
              ∙ sym (greatest_there w agrees);
        }

pub dangerous_by_few_people : DangerousByFewPeople
dangerous_by_few_people n answers people rows well are some = (
  to_few n answers people rows well are some,
  (λ found. from_few n answers people rows well are some found.0 found.1.possible found.1.few.0 found.1.few.1 found.1.few.2),
)

pub dangerous_by_candidates : DangerousByCandidates
dangerous_by_candidates n answers people rows well are some = (
  (λ danger.
      let leaves = to_few n answers people rows well are some danger in
      let found = candidate_for answers leaves.0 in
      record {
        answer = found.0;
        candidate = found.1;
        leaves = moved leaves.0 found.0 rows answers found.2 n people leaves.1;
      }),
  (λ bad. (dangerous_by_few_people n answers people rows well are some).1 (bad.answer, bad.leaves)),
)
