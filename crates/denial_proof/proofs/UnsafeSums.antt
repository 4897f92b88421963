-- What holds of a legal history's sums, and what a denial as unsafe says after it: what the canonical proof of a sum is made from.
use Rattle.std.proofs.Common.{◌≡◌, ◌≢◌, ℕ, ◌==◌, true, false, ℤ, pos, Option, None, Some, List, [], ◌∷◌, ◌++◌, map, length, get_or, append-nil, refl, sym, ap, ◌∙◌, subst, arith, inl, inr}
use Rattle.std.specs.Prelude.{All, Contains, slice_get}
use Rattle.std.specs.List.{AllByRecursion}
use Rattle.std.proofs.lemmas.Int.{ints}
use Rattle.std.proofs.lemmas.List.{get_or_default, map-append}
use Rattle.std.proofs.lemmas.List.Elements.{All-weaker, recursion_from_All}
use Rattle.std.proofs.lemmas.Option.{get_or_from_slice_get, slice_get_within}
use Rattle.audit_types.specs.declared.records.Answered.{Answered}
use Rattle.audit_types.specs.declared.records.Asked.{Asked}
use Rattle.audit_types.specs.declared.records.Protected.{Protected}
use Rattle.audit_types.specs.declared.records.Verdict.TheVariants.{DeniedUnsafe}
use Rattle.audit_types.specs.declared.shapes.Shape.{Shape}
use Rattle.audit_types.specs.declared.shapes.Kind.TheVariants.{Sum, Max}
use Rattle.audit_types.specs.Rows.{AreRows, has_row}
use Rattle.audit_types.specs.Truth.{sum_over}
use Rattle.audit_types.specs.Shapes.{kind_at}
use Rattle.audit_types.specs.Headcount.{AreFew}
use Rattle.audit_types.specs.Column.{Answer, Known, AreOwn, IsWellFormed, IsDangerous, known_sum, known_max, guarding, with_bounds}
use Rattle.audit_types.specs.Direction.{IsPinned, IsPinnedFor}
use Rattle.audit_types.specs.Form.{set_row, InSpan}
use Rattle.audit_types.specs.Judgement.{IsWithinWidth}
use Rattle.audit_types.specs.Limits.{most_width}
use Rattle.audit_types.specs.WidthLaws.{dangerous_from, has_narrow_by_more, narrow_within}
use Rattle.audit_types.specs.History.{Setting, Table, FitsShape, IsProtected, AreProtected, IsDecisionAfter, answers_of, answer_in, groups_of}
use Rattle.audit_types.specs.ListLaws.{all-map, all-filter, all-front, all-push, all-weaker}
use Rattle.audit_core.specs.Laws.{LegalIsNarrow, LegalLeavesNoFewPeople, sets_before}
use Rattle.audit_core.specs.GroupEntries.{entry_of_group}
use Rattle.audit_core.specs.KindColumns.{known_sums, known_maxima}
use Rattle.max_audit.specs.Laws.{DangerousByCandidates}
use Rattle.denial_proof.specs.declared.proof_parts.Target.{Target}
use Rattle.denial_proof.specs.declared.proof_parts.Target.TheVariants.{Row, Group}
use Rattle.denial_proof.specs.Canonical.{sets_with_asked, Tells}
use Rattle.denial_proof.specs.Denied.{IsLegalIn, AreNarrowSums, IsUnsafeSum, IsUnsafeMax}
use Rattle.denial_proof.proofs.AskedIsNew.{LegalLaws, asked_new, told_to_some}
use Rattle.denial_proof.proofs.SumParts.{sets_at_end}
use Rattle.denial_proof.proofs.ProofsShowDanger.{group_there}

-- ---- groups

module _ (setting : Setting) (protected : AreProtected setting.shape setting.protected) where
  -- an entry that is there fits
  entry_fits : (place : ℕ) (p : Protected) → slice_get setting.protected.groups place ≡ Some p → IsProtected setting.shape p
  entry_fits place p there =
      subst (IsProtected setting.shape) (get_or_from_slice_get setting.protected.groups place p p there)
      (protected.0 place p (slice_get_within setting.protected.groups place p there))

  -- groups are sets of rows of the table, none empty
  groups_are_rows : (column : ℕ) → All (λ group. AreRows setting.shape.rows group × (group ≢ [])) (groups_of column setting.protected.groups)
  groups_are_rows column = λ k d within.
      let group = get_or (groups_of column setting.protected.groups) k d in
      let found = entry_of_group setting.protected.groups column group
      (k, within, get_or_default (groups_of column setting.protected.groups) k group d within) in
      let fits = (entry_fits found.place found.entry found.there).0 in
      subst (λ group. AreRows setting.shape.rows group × (group ≢ [])) found.rows_are
      (subst (λ n. AreRows n found.entry.rows.list) fits.same_n fits.are_rows, fits.some)

  -- a column of maxima has none
  no_groups : (column : ℕ) → kind_at setting.shape column ≡ Max → groups_of column setting.protected.groups ≡ []
  no_groups column maxima = go (groups_of column setting.protected.groups) refl
    where
      go : (groups : List (List ℕ)) → groups_of column setting.protected.groups ≡ groups → groups_of column setting.protected.groups ≡ []
      go [] e = e
      go (group ∷ groups) e =
          let found = entry_of_group setting.protected.groups column group
          (subst (λ (list : List (List ℕ)). Contains list group) (sym e) (0, omega arith, refl)) in
          let both : Sum ≡ Max = sym (entry_fits found.place found.entry found.there).1 ∙ ap (kind_at setting.shape) found.own ∙ maxima in
          absurd cc

-- entries are over the rows of the table
pub entries_same_n : (shape : Shape) (list : List Protected) → All (IsProtected shape) list → AllByRecursion (λ (p : Protected). p.rows.n ≡ shape.rows) list
entries_same_n shape list fit = all-weaker (IsProtected shape) (λ (p : Protected). p.rows.n ≡ shape.rows) (λ p fits. fits.0.same_n) list
    (recursion_from_All (IsProtected shape) list fit)

-- ---- the answers before

module _ (setting : Setting) (history : List Answered) (fit : All (λ (r : Answered). FitsShape setting.shape r.column r.rows) history) where
  -- what holds of each record that fits
  each_record : (P : Answered → Type 0) → ((r : Answered) → FitsShape setting.shape r.column r.rows → P r) → AllByRecursion P history
  each_record P holds =
      all-weaker (λ (r : Answered). FitsShape setting.shape r.column r.rows) P holds history
      (recursion_from_All (λ (r : Answered). FitsShape setting.shape r.column r.rows) history fit)

  pub records_same_n : AllByRecursion (λ (r : Answered). r.rows.n ≡ setting.shape.rows) history
  records_same_n = each_record (λ (r : Answered). r.rows.n ≡ setting.shape.rows) (λ r fits. fits.same_n)

  pub records_are_rows : AllByRecursion (λ (r : Answered). AreRows setting.shape.rows r.rows.list) history
  records_are_rows = each_record (λ (r : Answered). AreRows setting.shape.rows r.rows.list)
      (λ r fits. subst (λ n. AreRows n r.rows.list) fits.same_n fits.are_rows)

  sets_are_rows : (column : ℕ) → AllByRecursion (λ (a : Answer). AreRows setting.shape.rows a.rows) (answers_of column history)
  sets_are_rows column =
      all-map answer_in (λ a. AreRows setting.shape.rows a.rows) _
      (all-filter (λ (r : Answered). AreRows setting.shape.rows r.rows.list) (λ r. r.column == column) history records_are_rows)

  sets_have_rows : (column : ℕ) → AllByRecursion (λ (a : Answer). a.rows ≢ []) (answers_of column history)
  sets_have_rows column =
      all-map answer_in (λ a. a.rows ≢ []) _ (all-filter (λ (r : Answered). r.rows.list ≢ []) (λ r. r.column == column) history
      (each_record (λ (r : Answered). r.rows.list ≢ []) (λ r fits. fits.some)))

  all_sets : (column : ℕ) → AllByRecursion (AreRows setting.shape.rows) (map (λ a. a.rows) (answers_of column history))
  all_sets column = all-map (λ (a : Answer). a.rows) (AreRows setting.shape.rows) (answers_of column history) (sets_are_rows column)

  -- what the sets before the end span, all sets do
  at_end : (column : ℕ) (row : List ℤ) → InSpan (map (set_row setting.shape.rows) (sets_before column history (length history))) row →
      InSpan (map (set_row setting.shape.rows) (map (λ a. a.rows) (answers_of column history))) row
  at_end column row span = subst (λ (sets : List (List ℕ)). InSpan (map (set_row setting.shape.rows) sets) row) (sets_at_end column history) span

  pub narrow_sums : LegalIsNarrow → AreProtected setting.shape setting.protected → IsLegalIn setting history → (column : ℕ) →
      kind_at setting.shape column ≡ Sum → AreNarrowSums setting.shape.rows column history
  narrow_sums narrow protected legal column sums place within =
      has_narrow_by_more setting.protected.width most_width setting.shape.rows (sets_before column history place) protected.4
      (narrow (record { setting = setting; secrets = legal.secrets }) history column place protected legal.legal sums within)

  -- ---- the question

  module _ (protected : AreProtected setting.shape setting.protected) (asked : Asked) (question : FitsShape setting.shape asked.column asked.rows)
      (denied : IsDecisionAfter setting history asked.column asked.rows.list DeniedUnsafe) where
    -- its set
    own_rows : AreRows setting.shape.rows asked.rows.list
    own_rows = subst (λ n. AreRows n asked.rows.list) question.same_n question.are_rows

    pub unsafe_max : DangerousByCandidates → LegalLeavesNoFewPeople → IsLegalIn setting history → kind_at setting.shape asked.column ≡ Max →
        IsUnsafeMax setting.shape.rows setting.protected.people history asked
    unsafe_max by_candidates leaves_none legal maxima =
        let n = setting.shape.rows in
        let answers = answers_of asked.column history in
        let people = setting.protected.people in
        let formed : IsWellFormed (known_max n answers) = record { are_rows = sets_are_rows asked.column; some = sets_have_rows asked.column } in
        let known = guarding (known_max n answers) people [] in
        let table : Table = record { setting = setting; secrets = legal.secrets } in
        let danger =
        dangerous_from known setting.protected.width setting.protected.reach asked.rows.list
        (subst (λ k. IsDangerous k asked.rows.list)
        (known_maxima setting history asked.column maxima (no_groups setting protected asked.column maxima)) denied.1) in
        record {
          none_few = (leaves_none table history asked.column legal.are_secrets protected legal.legal question.column_below maxima).1;
          bad = (by_candidates n answers people asked.rows.list formed own_rows question.some).0 danger;
        }

    module _ (laws : LegalLaws) (legal : IsLegalIn setting history) (sums : kind_at setting.shape asked.column ≡ Sum) where
      abbrev table : Table
      table = record { setting = setting; secrets = legal.secrets }

      -- what is known of the column
      abbrev known : Known
      known = with_bounds (guarding (known_sum setting.shape.rows (answers_of asked.column history)) setting.protected.people
          (groups_of asked.column setting.protected.groups)) setting.protected.width setting.protected.reach

      groups : All (AreRows setting.shape.rows) (groups_of asked.column setting.protected.groups)
      groups = All-weaker (λ group. AreRows setting.shape.rows group × (group ≢ [])) (AreRows setting.shape.rows) (λ group is. is.0)
          (groups_of asked.column setting.protected.groups) (groups_are_rows setting protected asked.column)

      all_with_asked : AllByRecursion (AreRows setting.shape.rows) (sets_with_asked history asked)
      all_with_asked = all-push (AreRows setting.shape.rows) (map (λ a. a.rows) (answers_of asked.column history)) asked.rows.list (all_sets asked.column)
          own_rows

      -- the sets pin a number for somebody, so they tell it
      tells_pinned : (own : List ℕ) → AreOwn known own → (row : ℕ) → AreFew setting.protected.people own (row ∷ []) →
          IsPinnedFor setting.shape.rows (sets_with_asked history asked) own row →
          (target : Target) × (o : Option ℕ) × Tells setting.shape.rows setting.protected asked.column
          (map (set_row setting.shape.rows) (sets_with_asked history asked)) o target
      tells_pinned [] are row few pinned =
          let n = setting.shape.rows in
          let still : IsPinned n (sets_with_asked history asked) row = record { below = pinned.below; still = λ d direction. pinned.still d direction tt } in (
            Row row,
            None,
            record {
              askers = tt;
              is_target = (pinned.below, refl, few);
              spanned = (laws.pinned n (sets_with_asked history asked) row all_with_asked pinned.below).0 still;
            },
          )
      tells_pinned (q ∷ []) are row few pinned =
          let n = setting.shape.rows in
          let sets = sets_with_asked history asked in
          let beside : AllByRecursion (AreRows n) (sets ++ (q ∷ []) ∷ []) = all-push (AreRows n) sets (q ∷ []) all_with_asked are.0 in
          let still : IsPinned n (sets ++ (q ∷ []) ∷ []) row = record {
            below = pinned.below;
            still = λ d direction.
                let parts = all-front (λ s. sum_over d s ≡ pos 0) sets (q ∷ []) direction.zero_sums in
                pinned.still d (record { one_each = direction.one_each; zero_sums = parts.0 }) ((let last = parts.1 in omega (arith, ints)), tt);
          } in (
            Row row,
            Some q,
            record {
              askers = (record { below = are.0.1; inside = (let some = are.1 in omega arith); one = are.2.0 }, tt);
              is_target = (pinned.below, pinned.other, few);
              spanned = subst (λ (rows : List (List ℤ)). InSpan rows (set_row n (row ∷ []))) (map-append (set_row n) sets ((q ∷ []) ∷ []))
                  ((laws.pinned n (sets ++ (q ∷ []) ∷ []) row beside pinned.below).0 still);
            },
          )
      tells_pinned (q ∷ p ∷ own) are row few pinned = let most = are.1 in let one = protected.2.own in absurd (omega arith)

      -- the same of the total of a group
      tells_spanned : (own : List ℕ) → AreOwn known own → (place : ℕ) (entry : Protected) → slice_get setting.protected.groups place ≡ Some entry →
          entry.column ≡ asked.column → (row : ℕ) → has_row entry.rows.list row ≡ true → has_row own row ≡ false →
          InSpan (map (set_row setting.shape.rows) (sets_with_asked history asked ++ map (λ q. q ∷ []) own)) (set_row setting.shape.rows entry.rows.list) →
          (target : Target) × (o : Option ℕ) × Tells setting.shape.rows setting.protected asked.column
          (map (set_row setting.shape.rows) (sets_with_asked history asked)) o target
      tells_spanned [] are place entry there of_column row holds other spanned =
          let n = setting.shape.rows in (
            Group place,
            None,
            record {
              askers = tt;
              is_target = record { entry = entry; there = there; of_column = of_column; row = row; holds = holds; other = other };
              spanned = subst (λ (rows : List ℕ). InSpan (map (set_row n) (sets_with_asked history asked)) (set_row n rows))
                  (sym (group_there setting.protected.groups place entry there))
                  (subst (λ (sets : List (List ℕ)). InSpan (map (set_row n) sets) (set_row n entry.rows.list)) (append-nil (sets_with_asked history asked))
                  spanned);
            },
          )
      tells_spanned (q ∷ []) are place entry there of_column row holds other spanned =
          let n = setting.shape.rows in (
            Group place,
            Some q,
            record {
              askers = (record { below = are.0.1; inside = (let some = are.1 in omega arith); one = are.2.0 }, tt);
              is_target = record { entry = entry; there = there; of_column = of_column; row = row; holds = holds; other = other };
              spanned = subst (λ (rows : List ℕ). InSpan (map (set_row n) (sets_with_asked history asked) ++ set_row n (q ∷ []) ∷ []) (set_row n rows))
                  (sym (group_there setting.protected.groups place entry there))
                  (subst (λ (rows : List (List ℤ)). InSpan rows (set_row n entry.rows.list))
                  (map-append (set_row n) (sets_with_asked history asked) ((q ∷ []) ∷ [])) spanned);
            },
          )
      tells_spanned (q ∷ p ∷ own) are place entry there of_column row holds other spanned =
          let most = are.1 in let one = protected.2.own in absurd (omega arith)

      -- the sets tell something
      tells_some : (target : Target) × (o : Option ℕ) × Tells setting.shape.rows setting.protected asked.column
          (map (set_row setting.shape.rows) (sets_with_asked history asked)) o target
      tells_some =
          let n = setting.shape.rows in
          elim (told_to_some laws table history legal.are_secrets protected legal.legal asked.column question.column_below sums (all_sets asked.column)
          asked.rows.list own_rows groups denied.1) [
            | inl pins ↦ tells_pinned pins.own pins.are_own pins.row pins.guarded pins.pinned
            | inr spans ↦
                let found = entry_of_group setting.protected.groups asked.column spans.group spans.one in
                tells_spanned spans.own spans.are_own found.place found.entry found.there found.own spans.row
                (subst (λ rows. has_row rows spans.row ≡ true) (sym found.rows_are) spans.inside) spans.other
                (subst (λ rows. InSpan (map (set_row n) (sets_with_asked history asked ++ map (λ q. q ∷ []) spans.own)) (set_row n rows)) (sym found.rows_are)
                spans.spanned)
          ]

      pub unsafe_sum : IsUnsafeSum setting.shape.rows setting.protected.width history setting.protected asked
      unsafe_sum = record {
        new = λ span.
            asked_new laws table history legal.are_secrets protected legal.legal asked.column question.column_below sums
            (all_sets asked.column) asked.rows.list own_rows groups denied.1 (at_end asked.column (set_row setting.shape.rows asked.rows.list) span);
        narrow = narrow_within known asked.rows.list (subst (λ k. IsWithinWidth k asked.rows.list) (known_sums setting history asked.column sums) denied.0);
        target = tells_some.0;
        own = tells_some.1;
        told = tells_some.2;
      }
