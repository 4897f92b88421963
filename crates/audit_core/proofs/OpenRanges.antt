-- A legal history leaves the numbers and the protected totals of each column open within ranges, for each asker.
--
-- Of maxima: more than a few people stand behind the extreme rows of each answer, so a row of few may have any number that no answer over a set
-- with it is below.
use Rattle.std.proofs.Common.{◌≡◌, ℕ, ◌<◌, Bool, true, false, ℤ, pos, List, [], ◌∷◌, refl, sym, ap, ◌∙◌, subst, arith, inl, inr}
use Rattle.std.specs.Prelude.{◌+ℤ◌, ◌≤ℤ◌}
use Rattle.std.specs.List.{AllByRecursion, range_with_len}
use Rattle.std.proofs.lemmas.Int.{ints}
use Rattle.std.proofs.lemmas.Bool.{true≢false}
use Rattle.audit_types.specs.declared.records.Answered.{Answered}
use Rattle.audit_types.specs.declared.shapes.Kind.TheVariants.{Max}
use Rattle.audit_types.specs.Headcount.{AreFew}
use Rattle.audit_types.specs.ListLaws.{all-weaker}
use Rattle.audit_types.specs.Rows.{has_row}
use Rattle.audit_types.specs.RowLaws.{has_first}
use Rattle.audit_types.specs.WalkLaws.{first_or_later}
use Rattle.audit_types.specs.Shapes.{columns}
use Rattle.audit_types.specs.Truth.{number_at}
use Rattle.audit_types.specs.Column.{Known, Agrees, AreOwn, AreSameAt, IsWellFormed}
use Rattle.audit_types.specs.History.{Table, AreSecrets, AreProtected, IsLegal, known_of, list_of}
use Rattle.sum_audit.specs.Laws.{SpannedOrMovedBySmall, StillOrMovedBySmall}
use Rattle.max_audit.specs.Knowing.{IsRaised, FewOrAny}
use Rattle.audit_core.specs.Ranges.{AreInside, StaysOpen}
use Rattle.audit_core.specs.Laws.{HasNumbers, LegalStaysOpen}
use Rattle.audit_core.proofs.Twins.{ColumnLaws, agree, well_formed}
use Rattle.audit_core.proofs.FreeNumbers.{no_few_people}
use Rattle.audit_core.proofs.OneOther.{not_this}
use Rattle.audit_core.proofs.MovedWithin.{all_rows, each_row}
use Rattle.audit_core.proofs.OpenSums.{by_kind, may_have, open_sums}

-- a row of one is it
this_one : (row r : ℕ) → has_row (row ∷ []) r ≡ true → row ≡ r
this_one row r there = elim (first_or_later row r [] there) [ inl same ↦ same | inr later ↦ absurd (true≢false (sym later)) ]

module _ (laws : ColumnLaws) (small : SpannedOrMovedBySmall) (beside : StillOrMovedBySmall) (any : FewOrAny) (table : Table) (history : List Answered)
    (column : ℕ) (secrets : AreSecrets table.setting.shape table.secrets) (protected : AreProtected table.setting.shape table.setting.protected)
    (legal : IsLegal table history) (below : column < columns table.setting.shape) where
  abbrev known : Known
  known = known_of table.setting history column

  abbrev own : List ℤ
  own = list_of table.secrets column

  agrees : Agrees known own
  agrees = agree laws table secrets protected history legal column below

  well : IsWellFormed known
  well = well_formed laws table secrets protected history legal column

  module _ (maxima : known.kind ≡ Max) (hers : List ℕ) (row : ℕ) (low : ℕ → ℤ) (high x : ℤ) (are_hers : AreOwn known hers) (row_below : row < known.n)
      (apart : has_row hers row ≡ false) (few : AreFew known.people hers (row ∷ [])) (inside : AreInside low (λ r. high) 0 own (range_with_len 0 known.n))
      (above : low row ≤ℤ x) (under : x ≤ℤ high) (answers : AllByRecursion (λ a. has_row a.rows row ≡ true → x ≤ℤ a.value) known.answers) where
    abbrev InRange : ℤ → ℕ → Type 0
    InRange z r = ((low r +ℤ pos 0) ≤ℤ z) × ((z +ℤ pos 0) ≤ℤ high)

    own_within : (r : ℕ) → r < known.n → InRange (number_at own r) r
    own_within r l = each_row (λ q. InRange (number_at own q) q) known.n r inside l

    abbrev HasRaised : Type 0
    HasRaised = IsRaised known.n known.answers own hers (row ∷ []) high x

    has_raised : HasRaised
    has_raised = elim (any known.n known.answers known.people own hers (row ∷ []) high x (record { are_rows = well.are_rows; some = well.some })
        (record { one_each = agrees.one_each; same = by_kind known.kind Max maxima own known.answers agrees.same }) are_hers (omega arith, row_below, tt)
        (not_this hers row apart) few (record {
          under = λ r l. let top = (own_within r l).1 in omega (arith, ints);
          within = under;
          below = all-weaker (λ a. has_row a.rows row ≡ true → x ≤ℤ a.value)
              (λ a. (r : ℕ) → has_row (row ∷ []) r ≡ true → has_row a.rows r ≡ true → x ≤ℤ a.value)
              (λ a least r this there. least (ap (has_row a.rows) (this_one row r this) ∙ there)) known.answers answers;
        })) [
          | inl few ↦ absurd ((no_few_people laws table history column secrets protected legal below maxima).1 few)
          | inr found ↦ found
        ]

    in_range : (found : HasRaised) (r : ℕ) → r < known.n → (b : Bool) → has_row (row ∷ []) r ≡ b → InRange (number_at found.other r) r
    in_range found r l true there =
        subst (λ z. InRange z r) (sym (found.here r l there)) (subst (InRange x) (this_one row r there) (omega (arith, ints), omega (arith, ints)))
    in_range found r l false apart =
        let first = (own_within r l).0 in
        let least = (found.others r l apart).0 in
        let most = (found.others r l apart).1 in
        (omega (arith, ints), omega (arith, ints))

    anything : HasNumbers table history column (λ v. AreInside low (λ r. high) 0 v (range_with_len 0 known.n) × AreSameAt hers own v × (number_at v row ≡ x))
    anything =
        let found = has_raised in
        may_have laws small beside table history column secrets protected legal below _ found.other
        (record { one_each = found.agrees.one_each; same = by_kind Max known.kind (sym maxima) found.other known.answers found.agrees.same }) (
          all_rows (λ r. InRange (number_at found.other r) r) known.n (λ r l. in_range found r l (has_row (row ∷ []) r) refl),
          found.same,
          found.here row row_below (has_first row []),
        )

  open_here : StaysOpen (HasNumbers table history column) known own
  open_here = record {
    sums = λ hers value are_hers guarded sums.
        open_sums laws small beside table history column secrets protected legal below sums hers value are_hers guarded;
    maxima = λ hers row low high x are_hers row_below apart few maxima inside above under answers.
        anything maxima hers row low high x are_hers row_below apart few inside above under answers;
  }

pub legal_stays_open : ColumnLaws → SpannedOrMovedBySmall → StillOrMovedBySmall → FewOrAny → LegalStaysOpen
legal_stays_open laws small beside any table history column secrets protected legal below =
    open_here laws small beside any table history column secrets protected legal below
