-- The one proof of a denial that is printed.
--
-- For a sum: the kept sets are independent, so they come to a multiple of the target in one way, but for a common factor, and
-- the numbers without a common divisor are the proof's. For a maximum: the least answer that would leave extreme rows of few people, the first
-- such rows, and the first answer that has them.
use Rattle.std.specs.Prelude.{◌≡◌, ◌≢◌, ◌⊎◌, ℕ, suc, ◌<◌, ◌≤◌, ◌++◌, ℤ, pos, ◌<ℤ◌, ◌+ℤ◌, true, List, [], ◌∷◌, map, length, Option, None, Some}
use Rattle.std.specs.List.{AllByRecursion}
use Rattle.audit_types.specs.declared.shapes.Kind.TheVariants as kind
use Rattle.audit_types.specs.declared.records.Answered.{Answered}
use Rattle.audit_types.specs.declared.records.Asked.{Asked}
use Rattle.audit_types.specs.Rows.{AscendsFrom, has_row, IsLeast}
use Rattle.audit_types.specs.Headcount.{Headcount}
use Rattle.audit_types.specs.Shapes.{kind_at}
use Rattle.audit_types.specs.Column.{Known, known_max, guarding}
use Rattle.audit_types.specs.Form.{set_row, InSpan, IsContent}
use Rattle.audit_types.specs.Extremes.{extremes, IsCandidate}
use Rattle.audit_types.specs.History.{Setting, Protection, answers_of, answer_in}
use Rattle.max_audit.specs.Laws.{LeavesFewPeople}
use Rattle.max_audit.specs.Witnesses.{highest}
use Rattle.denial_proof.specs.declared.proof_parts.Target.{Target}
use Rattle.denial_proof.specs.declared.proof_parts.Target.TheVariants.{Row, Group}
use Rattle.denial_proof.specs.declared.proof_parts.Term.{Term}
use Rattle.denial_proof.specs.declared.proof_parts.Proof.{Proof}
use Rattle.denial_proof.specs.declared.proof_parts.Proof.TheVariants.{Sum, Max}
use Rattle.denial_proof.specs.declared.few_rows.FewRows.{FewRows}
use Rattle.denial_proof.specs.FewRows.{named_rows, IsLeastFew}
use Rattle.denial_proof.specs.declared.proof_parts.OwnShare.{OwnShare}
use Rattle.denial_proof.specs.Weights.{adds, sum_at, weights_of, own_in, own_rows, shares_in, share_adds, with_own}
use Rattle.denial_proof.specs.Certificates.{IsOwnRecord, IsSmall, IsAsker, IsTarget, rows_of, answers_after, ShowsTotal, ShowsRow}
use Rattle.denial_proof.specs.Kept.{AreKept, kept_sets, marks_for, HasWideMarks}

-- ---- sums

-- the column's sets, and after them the asked one
abbrev pub sets_with_asked : List Answered → Asked → List (List ℕ)
sets_with_asked history asked = map (λ a. a.rows) (answers_of asked.column history) ++ asked.rows.list ∷ []

-- rows tell a target to one who knows the number of a row, or of none
pub record Tells (n : ℕ) (protected : Protection) (column : ℕ) (rows : List (List ℤ)) (own : Option ℕ) (target : Target) : Type 0 where
  pub askers : AllByRecursion (IsAsker n protected.people) (own_rows own)
  pub is_target : IsTarget n protected column own target
  pub spanned : InSpan (with_own n rows own) (set_row n (rows_of protected target))

-- a place that all would know comes no later than one that an asker would, and a lesser one no later than a greater; of two askers at one place
-- the one of the lesser row is first
abbrev pub IsPlaceNoLater : ℕ → Option ℕ → ℕ → Option ℕ → Type 0
IsPlaceNoLater i None j None = i ≤ j
IsPlaceNoLater i None j (Some p) = Unit {0}
IsPlaceNoLater i (Some q) j None = ⊥
IsPlaceNoLater i (Some q) j (Some p) = (i < j) ⊎ ((i ≡ j) × (q ≤ p))

-- the first place of which this holds for an asker, and the first asker for whom
pub record IsFirstBeside (P : ℕ → ℕ → Type 0) (place own : ℕ) : Type 0 where
  pub here : P place own
  pub first : (other p : ℕ) → P other p → IsPlaceNoLater place (Some own) other (Some p)

-- rows come before groups
abbrev pub IsNoLater : Target → Option ℕ → Target → Option ℕ → Type 0
IsNoLater (Row i) own (Row j) other = IsPlaceNoLater i own j other
IsNoLater (Row i) own (Group h) other = Unit {0}
IsNoLater (Group g) own (Row j) other = ⊥
IsNoLater (Group g) own (Group h) other = IsPlaceNoLater g own h other

-- of all that the rows tell the first
pub record IsFirstTarget (n : ℕ) (protected : Protection) (column : ℕ) (rows : List (List ℤ)) (target : Target) (own : Option ℕ) : Type 0 where
  pub told : Tells n protected column rows own target
  pub first : (goal : Target) (other : Option ℕ) → Tells n protected column rows other goal → IsNoLater target own goal other

-- the kept sets come to the target `times` times and to the asker's own row, with numbers that have no common divisor; sets that count 0 times
-- aren't named
pub record IsCanonicalSum (n : ℕ) (history : List Answered) (protected : Protection) (asked : Asked)
    (target : Target) (share : Option OwnShare) (times : ℤ) (terms : List Term) (count : ℤ) : Type 0 where
  pub first : IsFirstTarget n protected asked.column (map (set_row n) (sets_with_asked history asked)) target (own_in share)
  pub places : List ℕ
  pub kept : AreKept n asked.column history places
  pub named : AllByRecursion (λ t. has_row places t.place ≡ true) terms
  pub ascending : AscendsFrom 0 (length history) (map (λ t. t.place) terms)
  pub counted : AllByRecursion (λ t. t.times ≢ pos 0) terms
  pub positive : pos 0 <ℤ times
  pub add_up : (row : ℕ) → row < n →
      sum_at (weights_of history asked.rows.list count terms) row ≡ adds (rows_of protected target) times row +ℤ share_adds share row
  pub divided : IsContent (times ∷ count ∷ shares_in share ++ map (λ t. t.times) terms) 1

-- ---- maxima

-- the least candidate that is possible and leaves some answer extreme rows of few people
pub record IsFirstAnswer (known : Known) (rows : List ℕ) (answer : ℤ) : Type 0 where
  pub candidate : IsCandidate known.answers answer
  pub leaves : LeavesFewPeople known rows answer
  pub least : (other : ℤ) → IsCandidate known.answers other → other <ℤ answer → ¬ (LeavesFewPeople known rows other)

-- the answer that this record is, of the column, has just these extreme rows
abbrev pub IsFewAt : List Answered → Asked → ℤ → List ℕ → ℕ → Type 0
IsFewAt history asked answer rows place = (r : Answered) × IsOwnRecord history asked.column place r × (extremes (answers_after history asked answer) (answer_in r) ≡ rows)

-- the first record that has them, and the asked set if there is none
abbrev pub IsFirstPair : List Answered → Asked → ℤ → FewRows → Option ℕ → Type 0
IsFirstPair history asked answer few place = IsLeast (IsFewAt history asked answer (named_rows few)) place

-- the least such answer, the first extreme rows of few people that it leaves, the first pair that has them, and each row at its bound
pub record IsCanonicalMax (n : ℕ) (people : Headcount) (history : List Answered) (asked : Asked) (answer : ℤ) (few : FewRows) (place : Option ℕ) (high : List ℤ) : Type 0 where
  pub first_answer : IsFirstAnswer (guarding (known_max n (answers_of asked.column history)) people []) asked.rows.list answer
  pub least_few : IsLeastFew n people (answers_after history asked answer) (answers_after history asked answer) few
  pub first_pair : IsFirstPair history asked answer few place
  pub highest_is : high ≡ highest n (answers_after history asked answer)

-- a proof for a column of sums that is the canonical one, and passes the check
abbrev pub IsSumProof : ℕ → List Answered → Protection → Asked → Proof → Type 0
IsSumProof n history protected asked (Sum target share times terms count) =
    IsCanonicalSum n history protected asked target share times terms count × ShowsTotal n history protected asked target share times terms count
IsSumProof n history protected asked (Max answer few place high) = ⊥

-- a proof for a column of maxima that is the canonical one, and passes the check
abbrev pub IsMaxProof : ℕ → Headcount → List Answered → Asked → Proof → Type 0
IsMaxProof n people history asked (Sum target share times terms count) = ⊥
IsMaxProof n people history asked (Max answer few place high) =
    IsCanonicalMax n people history asked answer few place high × ShowsRow n people history asked answer few place high

-- ---- both

-- the canonical proof of a question after a history
abbrev pub IsCanonical : Setting → List Answered → Asked → Proof → Type 0
IsCanonical setting history asked (Sum target share times terms count) =
    (kind_at setting.shape asked.column ≡ kind.Sum) × IsCanonicalSum setting.shape.rows history setting.protected asked target share times terms count
IsCanonical setting history asked (Max answer few place high) =
    (kind_at setting.shape asked.column ≡ kind.Max) × IsCanonicalMax setting.shape.rows setting.protected.people history asked answer few place high

-- the marks of the kept sets with the asked one, and with the row that the asker knows, aren't narrow
pub record AreMarksWide (n : ℕ) (history : List Answered) (more : ℕ) (asked : Asked) (own : Option ℕ) : Type 0 where
  pub places : List ℕ
  pub kept : AreKept n asked.column history places
  pub wide : HasWideMarks n (marks_for n more (length places)) (kept_sets history places asked.rows.list own)

-- a target for which a number may be too large: not a row that all would know
abbrev pub MayBeLarge : Target → Option OwnShare → Type 0
MayBeLarge (Row row) None = ⊥
MayBeLarge (Row row) (Some share) = Unit {0}
MayBeLarge (Group place) share = Unit {0}

-- canonical numbers, one of which is too large for a proof
pub record AreNumbersWide (n : ℕ) (history : List Answered) (protected : Protection) (asked : Asked) : Type 0 where
  pub target : Target
  pub share : Option OwnShare
  pub may : MayBeLarge target share
  pub times : ℤ
  pub terms : List Term
  pub count : ℤ
  pub canonical : IsCanonicalSum n history protected asked target share times terms count
  pub large : ¬ (AllByRecursion IsSmall (times ∷ count ∷ shares_in share ++ map (λ t. t.times) terms))

-- the marks for the first target aren't narrow
pub record AreTargetMarksWide (n : ℕ) (history : List Answered) (protected : Protection) (asked : Asked) : Type 0 where
  pub target : Target
  pub own : Option ℕ
  pub first : IsFirstTarget n protected asked.column (map (set_row n) (sets_with_asked history asked)) target own
  pub marks : AreMarksWide n history (suc protected.people.own) asked own

-- a sum whose marks aren't narrow, or for which a number is too large
abbrev pub IsSumTooWide : ℕ → List Answered → Protection → Asked → Type 0
IsSumTooWide n history protected asked = AreTargetMarksWide n history protected asked ⊎ AreNumbersWide n history protected asked

-- no proof is given: only sums can be too wide
abbrev pub IsTooWide : Setting → List Answered → Asked → Type 0
IsTooWide setting history asked = (kind_at setting.shape asked.column ≡ kind.Sum) × IsSumTooWide setting.shape.rows history setting.protected asked
