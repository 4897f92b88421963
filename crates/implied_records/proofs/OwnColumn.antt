-- What a core's column shows of a record, and of a question: whether the records of the core imply it, and whether its answer follows.
use Rattle.std.proofs.Common.{◌≡◌, ℕ, ℤ, List, [], ◌∷◌, ◌++◌, map, refl, sym, ◌∙◌, subst}
use Rattle.std.specs.Prelude.{◌↔◌}
use Rattle.std.specs.List.{AllByRecursion}
use Rattle.audit_types.specs.declared.shapes.Kind.{Kind}
use Rattle.audit_types.specs.declared.shapes.Kind.TheVariants.{Sum, Max}
use Rattle.audit_types.specs.declared.records.Answered.{Answered}
use Rattle.audit_types.specs.Rows.{AreRows}
use Rattle.audit_types.specs.Shapes.{kind_at}
use Rattle.audit_types.specs.Truth.{truth}
use Rattle.audit_types.specs.Form.{set_row, InSpan, Reduced}
use Rattle.audit_types.specs.Headcount.{one_person_each}
use Rattle.audit_types.specs.Column.{Known, Answer, Agrees, IsPossible, IsWellFormed, known_max}
use Rattle.audit_types.specs.History.{FitsShape, IsPossibleHistory, answers_of, answer_in, known_of, list_of}
use Rattle.audit_types.specs.ListLaws.{all-unmap}
use Rattle.sum_basis.specs.Spans.{span_trans}
use Rattle.audit_core.specs.Audited.{Audited}
use Rattle.audit_core.specs.Columns.{HasItsPart}
use Rattle.implied_records.specs.Kept.{IsImplied, IsImpliedBy, IsForced}
use Rattle.implied_records.specs.Follows.{Follows, FollowsFrom, IsForcedToOne}
use Rattle.implied_records.specs.Laws.{ImpliedBySpan, ImpliedByExtremes}
use Rattle.audit_types.specs.Limits.{most_rows, most_width}
use Rattle.implied_records.proofs.Pushes.{own_answers}

-- the form of a column has the span of the column's answered sets
pub spans_show : (audited : Audited) (column : ℕ) (rows : List ℕ) (known : Known) → HasItsPart audited column Sum known → (form : List (List ℤ)) (n : ℕ) →
    n ≡ known.n → Reduced known.n (map (λ a. a.rows) known.answers) form →
    InSpan form (set_row n rows)
    ↔ InSpan (map (set_row audited.setting.shape.rows) (map (λ a. a.rows) (answers_of column audited.history))) (set_row audited.setting.shape.rows rows)
spans_show audited column rows known part form n same reduced =
    let size = audited.setting.shape.rows in
    let sets = map (set_row size) (map (λ (a : Answer). a.rows) (answers_of column audited.history)) in
    let form_of = subst (λ l. Reduced size (map (λ (a : Answer). a.rows) l) form) part.answers
    (subst (λ m. Reduced m (map (λ (a : Answer). a.rows) known.answers) form) part.n reduced) in
    let columns_same : n ≡ size = same ∙ part.n in (
      λ span. span_trans sets form (set_row size rows) form_of.within (subst (λ m. InSpan form (set_row m rows)) columns_same span),
      λ span. subst (λ m. InSpan form (set_row m rows)) (sym columns_same) (span_trans form sets (set_row size rows) form_of.spans span),
    )

-- so the answer to a question follows, if the form has its row
pub sum_follows : (audited : Audited) (column : ℕ) (rows : List ℕ) (known : Known) → HasItsPart audited column Sum known → (form : List (List ℤ)) (n : ℕ) →
    n ≡ known.n → Reduced known.n (map (λ a. a.rows) known.answers) form →
    InSpan form (set_row n rows) ↔ Follows (known_of audited.setting audited.history column) rows
sum_follows audited column rows known part form n same reduced =
    let Told : Kind → Type 0 = λ kind. FollowsFrom kind audited.setting.shape.rows (answers_of column audited.history) rows in
    let spans = spans_show audited column rows known part form n same reduced in
    (λ span. subst Told (sym part.own_kind) (spans.0 span), λ follows. spans.1 (subst Told part.own_kind follows))

-- and of a maximum, if it is forced
pub maximum_follows : (audited : Audited) (column : ℕ) (rows : List ℕ) (known : Known) → HasItsPart audited column Max known → (answers : List Answer) →
    answers ≡ known.answers → IsForcedToOne answers rows ↔ Follows (known_of audited.setting audited.history column) rows
maximum_follows audited column rows known part answers same =
    let Told : Kind → Type 0 = λ kind. FollowsFrom kind audited.setting.shape.rows (answers_of column audited.history) rows in
    let is : answers ≡ answers_of column audited.history = same ∙ part.answers in (
      λ forced. subst Told (sym part.own_kind) (subst (λ l. IsForcedToOne l rows) is forced),
      λ follows. subst (λ l. IsForcedToOne l rows) (sym is) (subst Told part.own_kind follows),
    )

module _ (audited : Audited) (r : Answered) (fits : FitsShape audited.setting.shape r.column r.rows)
    (possible : IsPossibleHistory audited.setting (audited.history ++ r ∷ [])) where
  -- what the column knows
  abbrev own : List Answer
  own = answers_of r.column audited.history

  -- how many rows there are
  abbrev size : ℕ
  size = audited.setting.shape.rows

  -- what is known of a column, apart from protected groups
  abbrev knows : Kind → List Answer → Known
  knows kind answers =
      record { kind = kind; n = size; answers = answers; groups = []; people = one_person_each; width = most_width; reach = most_rows }

  rows_are : AreRows size r.rows.list
  rows_are = subst (λ m. AreRows m r.rows.list) fits.same_n fits.are_rows

  -- some list gives the column's answers and the record's
  own_possible : (kind : Kind) → kind_at audited.setting.shape r.column ≡ kind → IsPossible (knows kind (own ++ answer_in r ∷ []))
  own_possible kind is =
      let w = list_of possible.0 r.column in
      let agrees = possible.2 r.column fits.column_below in
      let P : Kind → Type 0 = λ k. Agrees (knows k (own ++ answer_in r ∷ [])) w in (
        w,
        subst P is (record {
          one_each = agrees.one_each;
          same = subst (AllByRecursion (λ a. truth (kind_at audited.setting.shape r.column) w a.rows ≡ a.value))
              (own_answers r.column audited.history r refl) agrees.same;
        }),
      )

  -- implied by what a column of this kind knows
  abbrev ImpliedAs : Kind → Type 0
  ImpliedAs kind = IsImplied (knows kind own) (answer_in r)

  pub sums_show : ImpliedBySpan → (known : Known) → HasItsPart audited r.column Sum known → AllByRecursion (AreRows known.n) (map (λ a. a.rows) known.answers) →
      (form : List (List ℤ)) (n : ℕ) → n ≡ known.n → Reduced known.n (map (λ a. a.rows) known.answers) form →
      InSpan form (set_row n r.rows.list) ↔ IsImpliedBy audited.setting.shape audited.history r
  sums_show law known part are form n same reduced =
      let sets = subst (λ l. AllByRecursion (λ (a : Answer). AreRows size a.rows) l) part.answers
      (all-unmap (λ (a : Answer). a.rows) (AreRows size) known.answers
      (subst (λ m. AllByRecursion (AreRows m) (map (λ (a : Answer). a.rows) known.answers)) part.n are)) in
      let both = law size own (answer_in r) sets rows_are (own_possible Sum part.own_kind) in
      let spans = spans_show audited r.column r.rows.list known part form n same reduced in (
        λ span. subst ImpliedAs (sym part.own_kind) (both.1 (spans.0 span)),
        λ implied. spans.1 (both.0 (subst ImpliedAs part.own_kind implied)),
      )

  pub maxima_show : ImpliedByExtremes → (known : Known) → HasItsPart audited r.column Max known → IsWellFormed known → (answers : List Answer) → answers
      ≡ known.answers →
      IsForced answers (answer_in r) ↔ IsImpliedBy audited.setting.shape audited.history r
  maxima_show law known part well answers same =
      let P : ℕ → List Answer → Type 0 = λ m l. IsWellFormed (known_max m l) in
      let formed : IsWellFormed (known_max size own) = subst (λ m. P m own) part.n
      (subst (P known.n) part.answers (record { are_rows = well.are_rows; some = well.some })) in
      let both = law size own (answer_in r) formed rows_are fits.some (own_possible Max part.own_kind) in
      let is : answers ≡ own = same ∙ part.answers in (
        λ told. subst ImpliedAs (sym part.own_kind) (both.1 (subst (λ l. IsForced l (answer_in r)) is told)),
        λ implied. subst (λ l. IsForced l (answer_in r)) (sym is) (both.0 (subst ImpliedAs part.own_kind implied)),
      )
