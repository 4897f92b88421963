-- The set of a sum that is dangerous after a legal history lies outside the span of the column's sets: a legal history tells nobody anything
-- that is guarded, and a set of the span wouldn't change that.
use Rattle.std.proofs.Common.{◌≡◌, ◌⊎◌, ℕ, zero, suc, ◌+◌, ◌<◌, ◌≤◌, ℤ, pos, List, [], ◌∷◌, ◌++◌, map, length, take, sym, ap, ◌∙◌, subst, arith, inl, inr, add-one}
use Rattle.std.specs.Prelude.{All}
use Rattle.std.specs.List.{AllByRecursion}
use Rattle.std.proofs.lemmas.List.{map-append, take_all, take_more}
use Rattle.std.proofs.lemmas.Option.{slice_get_cases}
use Rattle.audit_types.specs.declared.records.Answered.{Answered}
use Rattle.audit_types.specs.declared.shapes.Kind.TheVariants.{Sum}
use Rattle.audit_types.specs.Rows.{AreRows}
use Rattle.audit_types.specs.Shapes.{columns, kind_at}
use Rattle.audit_types.specs.Truth.{sum_over}
use Rattle.audit_types.specs.Form.{set_row, InSpan}
use Rattle.audit_types.specs.Judgement.{PinSomeNumber, SpanSomeGroup, sets_with}
use Rattle.audit_types.specs.Column.{Known, Agrees, IsDangerous, known_sum, guarding, with_bounds}
use Rattle.audit_types.specs.History.{Table, AreSecrets, AreProtected, AgreeWithHistory, IsLegal, answers_of, groups_of, known_of, list_of}
use Rattle.audit_types.specs.Laws.{TrueAnswersKeepAgreement}
use Rattle.audit_types.specs.ListLaws.{all-append, all-get_or, all-push, all-weaker}
use Rattle.audit_core.specs.Laws.{LegalPinsNothing}
use Rattle.audit_core.specs.KindColumns.{known_sums}
use Rattle.sum_audit.specs.Laws.{DangerousByPins, PinnedByUnitRow}
use Rattle.sum_basis.specs.Spans.{span_trans}
use Rattle.denial_proof.proofs.KeptIndependent.{span_first, span_more}
use Rattle.denial_proof.proofs.KeptSpan.{still_in_span}

-- rows lie in their own span
pub span_self : (rows : List (List ℤ)) → AllByRecursion (InSpan rows) rows
span_self [] = tt
span_self (row ∷ rows) = (span_first row rows, all-weaker (InSpan rows) (InSpan (row ∷ rows)) (λ r span. span_more row r rows span) rows (span_self rows))

-- what holds of two lists one after the other holds of each
all-split : {X : Type 0} (P : X → Type 0) (xs ys : List X) → AllByRecursion P (xs ++ ys) → AllByRecursion P xs × AllByRecursion P ys
all-split P [] ys all = (tt, all)
all-split P (x ∷ xs) ys all = let rest = all-split P xs ys all.1 in ((all.0, rest.0), rest.1)

-- with a set in their span, sets and others span no more
span_without : (n : ℕ) (sets others : List (List ℕ)) (rows : List ℕ) (row : List ℤ) → InSpan (map (set_row n) sets) (set_row n rows) →
    InSpan (map (set_row n) ((sets ++ rows ∷ []) ++ others)) row → InSpan (map (set_row n) (sets ++ others)) row
span_without n sets others rows row span more =
    let R = map (set_row n) in
    let all = R sets ++ R others in
    let both = all-split (InSpan all) (R sets) (R others) (span_self all) in
    let longer : R ((sets ++ rows ∷ []) ++ others) ≡ (R sets ++ set_row n rows ∷ []) ++ R others
    = map-append (set_row n) (sets ++ rows ∷ []) others ∙ ap (λ l. l ++ R others) (map-append (set_row n) sets (rows ∷ [])) in
    subst (λ (l : List (List ℤ)). InSpan l row) (sym (map-append (set_row n) sets others))
    (span_trans all ((R sets ++ set_row n rows ∷ []) ++ R others) row
    (all-append (InSpan all) (R sets ++ set_row n rows ∷ []) (R others)
    (all-push (InSpan all) (R sets) (set_row n rows) both.0 (span_trans all (R sets) (set_row n rows) both.0 span)) both.1)
    (subst (λ (l : List (List ℤ)). InSpan l row) longer more))

-- the laws that this stands on
pub record LegalLaws : Type 0 where
  pub agreement : TrueAnswersKeepAgreement
  pub pins_nothing : LegalPinsNothing
  pub dangerous : DangerousByPins
  pub pinned : PinnedByUnitRow

module _ (laws : LegalLaws) (table : Table) (history : List Answered) (secrets : AreSecrets table.setting.shape table.secrets)
    (protected : AreProtected table.setting.shape table.setting.protected)
    (legal : IsLegal table history) where
  -- the table's own secrets agree with each front of the history
  front_agrees : (i : ℕ) → i ≤ length history → AgreeWithHistory table.setting (take i history) table.secrets
  front_agrees zero within = λ column below. record {
    one_each = all-get_or (λ w. length w ≡ table.setting.shape.rows) table.secrets column [] secrets.numbers (let all = secrets.one_each in omega arith);
    same = tt;
  }
  front_agrees (suc i) within =
      let rest = front_agrees i (omega arith) in
      elim (slice_get_cases history i).1 [
        | inl (r, below, there, is) ↦
            let more : take (i + 1) history ≡ take i history ++ r ∷ [] = take_more history i r below ∙ ap (λ (x : Answered). take i history ++ x ∷ []) is in
            subst (λ k. AgreeWithHistory table.setting (take k history) table.secrets) (add-one i)
            (subst (λ (h : List Answered). AgreeWithHistory table.setting h table.secrets) (sym more)
            (laws.agreement table.setting (take i history) r table.secrets rest (legal.each i r there).true_answer))
        | inr (past, none) ↦ absurd (omega arith)
      ]

  module _ (column : ℕ) (below : column < columns table.setting.shape) (sums : kind_at table.setting.shape column ≡ Sum) where
    -- what is known of the column
    abbrev known : Known
    known = with_bounds (guarding (known_sum table.setting.shape.rows (answers_of column history)) table.setting.protected.people
        (groups_of column table.setting.protected.groups)) table.setting.protected.width table.setting.protected.reach

    pub own_agrees : Agrees (known_sum table.setting.shape.rows (answers_of column history)) (list_of table.secrets column)
    own_agrees =
        let agrees = subst (λ (k : Known). Agrees k (list_of table.secrets column)) (known_sums table.setting history column sums)
        (subst (λ (h : List Answered). AgreeWithHistory table.setting h table.secrets) (take_all (length history) history (omega arith))
        (front_agrees (length history) (omega arith)) column below) in
        record { one_each = agrees.one_each; same = agrees.same }

    module _ (are : AllByRecursion (AreRows table.setting.shape.rows) (map (λ a. a.rows) (answers_of column history))) (rows : List ℕ)
        (own : AreRows table.setting.shape.rows rows)
        (groups : All (AreRows table.setting.shape.rows) (groups_of column table.setting.protected.groups))
        (danger : IsDangerous (known_of table.setting history column) rows) where
      -- the sets, the asked one among them, tell somebody something that is guarded
      pub told_to_some : PinSomeNumber known (sets_with known rows) ⊎ SpanSomeGroup known (sets_with known rows)
      told_to_some =
          let n = table.setting.shape.rows in
          let answers = answers_of column history in
          (laws.dangerous n answers table.setting.protected.people (groups_of column table.setting.protected.groups) table.setting.protected.width
          table.setting.protected.reach rows
          (all-push (AreRows n) (map (λ a. a.rows) answers) rows are own) groups (list_of table.secrets column, own_agrees)).0
          (subst (λ (k : Known). IsDangerous k rows) (known_sums table.setting history column sums) danger)

      -- without it they don't, so it is new
      pub asked_new : ¬ (InSpan (map (set_row table.setting.shape.rows) (map (λ a. a.rows) (answers_of column history)))
          (set_row table.setting.shape.rows rows))
      asked_new span =
          let n = table.setting.shape.rows in
          let sets : List (List ℕ) = map (λ a. a.rows) (answers_of column history) in
          let nothing = subst (λ (k : Known). ¬ (PinSomeNumber k sets ⊎ SpanSomeGroup k sets)) (known_sums table.setting history column sums)
          (laws.pins_nothing table history column secrets protected legal below sums) in
          elim told_to_some [
            | inl pins ↦ nothing (inl (record {
              own = pins.own;
              are_own = pins.are_own;
              row = pins.row;
              guarded = pins.guarded;
              pinned = record {
                below = pins.pinned.below;
                other = pins.pinned.other;
                still = λ d direction zeros. pins.pinned.still d (record {
                  one_each = direction.one_each;
                  zero_sums = all-push (λ s. sum_over d s ≡ pos 0) sets rows direction.zero_sums
                      (still_in_span n sets rows d are own direction.zero_sums span);
                }) zeros;
              };
            }))
            | inr spans ↦ nothing (inr (record {
              own = spans.own;
              are_own = spans.are_own;
              group = spans.group;
              one = spans.one;
              row = spans.row;
              inside = spans.inside;
              other = spans.other;
              spanned = span_without n sets (map (λ q. q ∷ []) spans.own) rows (set_row n spans.group) span spans.spanned;
            }))
          ]
