-- If some numbers give the answers, an answer follows from them exactly if all numbers that give them give it.
use Rattle.std.proofs.Common.{◌≡◌, ◌≢◌, ℕ, ◌<◌, ℤ, List, [], length, Some, refl, sym, ap, ◌∙◌, subst}
use Rattle.std.specs.Prelude.{◌↔◌}
use Rattle.std.specs.List.{AllByRecursion}
use Rattle.audit_types.specs.declared.shapes.Kind.{Kind}
use Rattle.audit_types.specs.declared.shapes.Kind.TheVariants.{Sum, Max}
use Rattle.audit_types.specs.Rows.{AreRows}
use Rattle.audit_types.specs.Truth.{truth}
use Rattle.audit_types.specs.Column.{Known, Answer, Agrees, IsPossible, IsWellFormed, known_max, known_sum, with_answer}
use Rattle.audit_types.specs.Extremes.{upper_bound, extremes, is_bound, IsConsistent}
use Rattle.audit_types.specs.Laws.{GreatestIsBoundAndReached}
use Rattle.audit_types.specs.ListLaws.{all-push}
use Rattle.max_bounds.specs.Laws.{UpperBoundIsLeast}
use Rattle.max_bounds.specs.AnswerLaws.{all_at}
use Rattle.max_bounds.specs.BoundLaws.{exact_bound}
use Rattle.max_bounds.specs.RowListLaws.{filter-has, some_row}
use Rattle.max_audit.specs.Laws.{PossibleByExtremes}
use Rattle.implied_records.specs.Kept.{IsImplied, IsForced}
use Rattle.implied_records.specs.Follows.{FollowsFrom, FollowsIfTold, IsForcedOver, IsTold}
use Rattle.implied_records.specs.Laws.{ImpliedBySpan, ImpliedByExtremes}
use Rattle.implied_records.proofs.ImpliedMaxima.{forced}

-- the answer to a question on these rows
abbrev answer_over : List ℕ → ℤ → Answer
answer_over rows value = record { rows = rows; value = value }

module _ (known : Known) (rows : List ℕ) (well : IsWellFormed known) (are : AreRows known.n rows) (some : rows ≢ []) (possible : IsPossible known) where
  -- what a column of this kind knows, apart from protected groups
  abbrev knows : Kind → Known
  knows kind = record (known_sum known.n known.answers) { kind = kind }

  module _ (kind : Kind) (is : known.kind ≡ kind) where
    to_plain : (w : List ℤ) → Agrees known w → Agrees (knows kind) w
    to_plain w agrees = record {
      one_each = agrees.one_each;
      same = subst (λ k. AllByRecursion (λ (a : Answer). truth k w a.rows ≡ a.value) known.answers) is agrees.same;
    }

    from_plain : (w : List ℤ) → Agrees (knows kind) w → Agrees known w
    from_plain w agrees = record {
      one_each = agrees.one_each;
      same = subst (λ k. AllByRecursion (λ (a : Answer). truth k w a.rows ≡ a.value) known.answers) (sym is) agrees.same;
    }

    -- what every list of the one gives, every list of the other gives
    plainly : (value : ℤ) → IsImplied known (answer_over rows value) → IsImplied (knows kind) (answer_over rows value)
    plainly value implied w agrees = subst (λ k. truth k w rows ≡ value) is (implied w (from_plain w agrees))

    told : (value : ℤ) → IsImplied (knows kind) (answer_over rows value) → IsTold known rows
    told value implied = (value, λ w agrees. subst (λ k. truth k w rows ≡ value) (sym is) (implied w (to_plain w agrees)))

    -- the list at hand gives the answers and what it gives to the question
    given : IsPossible (with_answer (knows kind) rows (truth kind possible.0 rows))
    given =
        let w = possible.0 in
        let agrees = to_plain w possible.1 in (
          w,
          record {
            one_each = agrees.one_each;
            same = all-push (λ (a : Answer). truth kind w a.rows ≡ a.value) known.answers (answer_over rows (truth kind w rows)) agrees.same refl;
          },
        )

    -- which is the one that all lists give
    given_as : (value : ℤ) → IsImplied (knows kind) (answer_over rows value) → IsPossible (with_answer (knows kind) rows value)
    given_as value implied =
        let same = implied possible.0 (to_plain possible.0 possible.1) in
        subst (λ v. IsPossible (with_answer (knows kind) rows v)) same given

  module _ (span : ImpliedBySpan) (is : known.kind ≡ Sum) where
    sum_told : FollowsFrom Sum known.n known.answers rows ↔ IsTold known rows
    sum_told = (
      λ follows.
          let value = truth Sum possible.0 rows in
          told Sum is value ((span known.n known.answers (answer_over rows value) well.are_rows are (given Sum is)).1 follows),
      λ one.
          let implied = plainly Sum is one.0 one.1 in
          (span known.n known.answers (answer_over rows one.0) well.are_rows are (given_as Sum is one.0 implied)).0 implied,
    )

  module _ (greatest : GreatestIsBoundAndReached) (bounds : UpperBoundIsLeast) (consistent : PossibleByExtremes) (extreme : ImpliedByExtremes)
      (is : known.kind ≡ Max) where
    formed : IsWellFormed (known_max known.n known.answers)
    formed = record { are_rows = well.are_rows; some = well.some }

    all_reached : IsConsistent known.answers
    all_reached = (consistent known.n known.answers formed).0 (possible.0, to_plain Max is possible.0 possible.1)

    -- what is forced is the bound of an extreme row of the answer that forces it
    forced_over : (value : ℤ) → IsForced known.answers (answer_over rows value) → IsForcedOver known.answers rows value
    forced_over value forced =
        let e = forced.reached.answer in
        let one = some_row (extremes known.answers e)
        (all_at (λ (b : Answer). 0 < length (extremes known.answers b)) known.answers e all_reached forced.reached.one) in
        let found = filter-has (λ r. is_bound (upper_bound known.answers r) e.value) e.rows one.0 one.1 in
        record {
          highest = record {
            bounded = forced.bounded;
            row = one.0;
            inside = forced.reached.within one.0 one.1;
            has_it = exact_bound (upper_bound known.answers one.0) e.value found.1 ∙ ap Some forced.reached.same;
          };
          reached = forced.reached;
        }

    maximum_told : FollowsFrom Max known.n known.answers rows ↔ IsTold known rows
    maximum_told = (
      λ follows.
          told Max is follows.0 (forced greatest bounds known.n known.answers formed (answer_over rows follows.0) are some
          (record { bounded = follows.1.highest.bounded; reached = follows.1.reached })),
      λ one.
          let implied = plainly Max is one.0 one.1 in (
            one.0,
            forced_over one.0 ((extreme known.n known.answers (answer_over rows one.0) formed are some (given_as Max is one.0 implied)).0 implied),
          ),
    )

  module _ (greatest : GreatestIsBoundAndReached) (bounds : UpperBoundIsLeast) (consistent : PossibleByExtremes) (span : ImpliedBySpan)
      (extreme : ImpliedByExtremes) where
    as_told : (kind : Kind) → known.kind ≡ kind → FollowsFrom kind known.n known.answers rows ↔ IsTold known rows
    as_told Sum is = sum_told span is
    as_told Max is = maximum_told greatest bounds consistent extreme is

pub follows_if_told : GreatestIsBoundAndReached → UpperBoundIsLeast → PossibleByExtremes → ImpliedBySpan → ImpliedByExtremes → FollowsIfTold
follows_if_told greatest bounds consistent span extreme known rows well are some possible =
    as_told known rows well are some possible greatest bounds consistent span extreme known.kind refl
