-- The next record of a legal history, after what is kept of those before it.
use Rattle.std.proofs.Common.{◌≡◌, ℕ, ◌+◌, ◌<◌, ◌≤◌, List, [], ◌∷◌, ◌++◌, length, take, get_or, sym, ap, ◌∙◌, subst, arith}
use Rattle.std.proofs.lemmas.List.{take_more}
use Rattle.audit_types.specs.declared.shapes.Shape.{Shape}
use Rattle.audit_types.specs.declared.records.Answered.{Answered}
use Rattle.audit_types.specs.declared.records.Verdict.TheVariants.{Released}
use Rattle.audit_types.specs.Laws.{LegalIsPossible}
use Rattle.audit_types.specs.Limits.{most_rows}
use Rattle.audit_types.specs.History.{Setting, Table, FitsShape, IsLegal, IsLegalRecord, IsPossibleHistory, setting_of, known_of}
use Rattle.audit_types.specs.Judgement.{IsWithinWidth}
use Rattle.audit_core.specs.Laws.{LegalGrows}
use Rattle.audit_core.specs.LegalFronts.{legal_front}
use Rattle.implied_records.specs.Kept.{IsKeptOf, IsImpliedBy, no_groups}
use Rattle.implied_records.specs.Kept.IsKeptOf.{left_out, stays}
use Rattle.implied_records.specs.Laws.{SameDecisions, KeptIsLegal, IsLegalForSome}
use Rattle.implied_records.proofs.Pushes.{legal_before, legal_last, room_before}
use Rattle.implied_records.proofs.KeptRecords.{same_lists, no_more}
use Rattle.implied_records.proofs.GreatestBounds.{within_greatest, possible_still}

-- one record more was taken
pub taken : (h : List Answered) (k : ℕ) (r : Answered) → k < length h → r ≡ get_or h k r → take (k + 1) h ≡ take k h ++ r ∷ []
taken h k r inside is = take_more h k r inside ∙ ap (λ x. take k h ++ x ∷ []) (sym is)

-- what the records of a history imply, those that are kept of it do, and back
implied_alike : (shape : Shape) (before kept : List Answered) (r : Answered) → IsKeptOf shape before kept → IsImpliedBy shape kept r →
    IsImpliedBy shape before r
implied_alike shape before kept r is implied w agrees = implied w ((same_lists (setting_of shape no_groups) r.column w is).0 agrees)

implied_back : (shape : Shape) (before kept : List Answered) (r : Answered) → IsKeptOf shape before kept → IsImpliedBy shape before r → IsImpliedBy shape kept r
implied_back shape before kept r is implied w agrees = implied w ((same_lists (setting_of shape no_groups) r.column w is).1 agrees)

-- the laws that it wants
pub record NextLaws : Type 0 where
  pub decisions : SameDecisions
  pub legal : KeptIsLegal
  pub possible : LegalIsPossible
  pub grows : LegalGrows

module _ (laws : NextLaws) (shape : Shape) (h : List Answered) (some : IsLegalForSome shape h) (setting : Setting)
    (setting_is : setting ≡ setting_of shape no_groups)
    (k : ℕ) (r : Answered) (inside : k < length h) (is : r ≡ get_or h k r) (kept : List Answered) (keeps : IsKeptOf shape (take k h) kept) where
  abbrev table : Table
  table = some.table

  -- with no group protected, and one person behind each row, its setting is the core's
  same_setting : setting_of table.setting.shape no_groups ≡ setting
  same_setting = ap (λ s. setting_of s no_groups) some.same_shape ∙ sym setting_is

  with_it : IsLegal table (take k h ++ r ∷ [])
  with_it = subst (IsLegal table) (taken h k r inside is) (legal_front table h (k + 1) some.legal)

  kept_of_table : IsKeptOf table.setting.shape (take k h) kept
  kept_of_table = subst (λ s. IsKeptOf s (take k h) kept) (sym some.same_shape) keeps

  -- it may follow the kept ones
  may_follow : IsLegalRecord table kept r
  may_follow =
      let front = legal_before table (take k h) r with_it in
      let last = legal_last table (take k h) r with_it in
      record {
        fits = last.fits;
        true_answer = last.true_answer;
        released = (laws.decisions table (take k h) kept r.column r.rows.list Released some.are_secrets front kept_of_table last.fits.column_below).0
            last.released;
      }

  pub fits : FitsShape setting.shape r.column r.rows
  fits = subst (λ (s : Setting). FitsShape s.shape r.column r.rows) same_setting may_follow.fits

  pub narrow : IsWithinWidth (known_of setting kept r.column) r.rows.list
  narrow =
      let known = known_of table.setting kept r.column in
      let few : known.n ≤ most_rows = subst (λ (s : Shape). s.rows ≤ most_rows) (sym some.same_shape) some.valid.at_most in
      subst (λ (s : Setting). IsWithinWidth (known_of s kept r.column) r.rows.list) same_setting
      (within_greatest known.kind known r.rows.list few some.guard.4 may_follow.released.0)

  pub possible : IsPossibleHistory setting (kept ++ r ∷ [])
  possible =
      let front = legal_before table (take k h) r with_it in
      let kept_legal = laws.legal table (take k h) kept some.are_secrets front kept_of_table in
      let few : length kept < 65536 = omega (arith, no_more table.setting.shape kept_of_table, room_before table (take k h) r with_it) in
      subst (λ s. IsPossibleHistory s (kept ++ r ∷ [])) same_setting
      (possible_still table.setting (kept ++ r ∷ [])
      (laws.possible table (kept ++ r ∷ []) some.are_secrets (laws.grows table kept r kept_legal few may_follow)))

  -- and it stays if the kept ones don't imply it
  pub one_stays : ¬ (IsImpliedBy setting.shape kept r) → IsKeptOf shape (take (k + 1) h) (kept ++ r ∷ [])
  one_stays new =
      subst (λ l. IsKeptOf shape l (kept ++ r ∷ [])) (sym (taken h k r inside is))
      (stays r keeps (λ implied. new (subst (λ (s : Setting). IsImpliedBy s.shape kept r) (sym setting_is)
      (implied_back shape (take k h) kept r keeps implied))))

  -- and is left out if they do
  pub one_left_out : IsImpliedBy setting.shape kept r → IsKeptOf shape (take (k + 1) h) kept
  one_left_out implied =
      subst (λ l. IsKeptOf shape l kept) (sym (taken h k r inside is))
      (left_out r keeps (implied_alike shape (take k h) kept r keeps (subst (λ (s : Setting). IsImpliedBy s.shape kept r) setting_is implied)))
