-- What is a proof that a question is dangerous. No table and no secret is an argument.
use Rattle.std.specs.Prelude.{◌≡◌, ℕ, ◌<◌, ◌≤◌, ◌^◌, ℤ, pos, ◌<ℤ◌, ◌+ℤ◌, true, false, List, [], ◌∷◌, ◌++◌, length, map, Option, Some, None, slice_get, slice_index_or, unsigned_abs}
use Rattle.std.specs.List.{AllByRecursion}
use Rattle.audit_types.specs.Limits.{most_rows}
use Rattle.audit_types.specs.declared.shapes.Kind.TheVariants as kind
use Rattle.audit_types.specs.declared.records.Answered.{Answered}
use Rattle.audit_types.specs.declared.records.Asked.{Asked}
use Rattle.audit_types.specs.Shapes.{kind_at}
use Rattle.audit_types.specs.Column.{Answer, known_max}
use Rattle.audit_types.specs.Rows.{has_row}
use Rattle.audit_types.specs.Headcount.{Headcount, count_at, AreFew}
use Rattle.audit_types.specs.History.{Setting, Protection, answers_of, answer_in}
use Rattle.audit_types.specs.declared.records.Protected.{Protected}
use Rattle.denial_proof.specs.declared.proof_parts.Target.{Target}
use Rattle.denial_proof.specs.declared.proof_parts.Target.TheVariants.{Row, Group}
use Rattle.denial_proof.specs.declared.proof_parts.Term.{Term}
use Rattle.denial_proof.specs.declared.proof_parts.Proof.{Proof}
use Rattle.denial_proof.specs.declared.proof_parts.Proof.TheVariants.{Sum, Max}
use Rattle.denial_proof.specs.declared.proof_parts.OwnShare.{OwnShare}
use Rattle.denial_proof.specs.Weights.{adds, sum_at, weights_of, own_in, own_rows, shares_in, share_adds}
use Rattle.denial_proof.specs.declared.few_rows.FewRows.{FewRows}
use Rattle.denial_proof.specs.FewRows.{named_rows, AreRowsNamed, IsBeside}
use Rattle.denial_proof.specs.Lone.{ShowsLone}

-- the record at this place is of the column
pub record IsOwnRecord (history : List Answered) (column place : ℕ) (r : Answered) : Type 0 where
  pub there : slice_get history place ≡ Some r
  pub own : r.column ≡ column

-- some record of the column is at this place
abbrev pub NamesRecord : List Answered → ℕ → ℕ → Type 0
NamesRecord history column place = (r : Answered) × IsOwnRecord history column place r

-- the number has a size of at most 2 ^ 112
abbrev pub IsSmall : ℤ → Type 0
IsSmall x = unsigned_abs x ≤ 2 ^ 112

-- ---- sums

-- a term that names a record of the column, and counts its set a small number of times
pub record IsTerm (history : List Answered) (column : ℕ) (term : Term) : Type 0 where
  pub named : NamesRecord history column term.place
  pub small : IsSmall term.times

-- a row of one person, who may ask
pub record IsAsker (n : ℕ) (people : Headcount) (row : ℕ) : Type 0 where
  pub below : row < n
  pub inside : 0 < people.own
  pub one : count_at people.counts row ≤ 1

-- a protected entry of the column, with a row that isn't an asker's own
pub record IsGuardedGroup (protected : Protection) (column : ℕ) (own : Option ℕ) (place : ℕ) : Type 0 where
  pub entry : Protected
  pub there : slice_get protected.groups place ≡ Some entry
  pub of_column : entry.column ≡ column
  pub row : ℕ
  pub holds : has_row entry.rows.list row ≡ true
  pub other : has_row (own_rows own) row ≡ false

-- what is guarded against one who knows this row's number, or none: the number of another row of few people, or a protected total
abbrev pub IsTarget : ℕ → Protection → ℕ → Option ℕ → Target → Type 0
IsTarget n protected column own (Row row) = (row < n) × (has_row (own_rows own) row ≡ false) × AreFew protected.people (own_rows own) (row ∷ [])
IsTarget n protected column own (Group place) = IsGuardedGroup protected column own place

-- the rows of a target
abbrev pub rows_of : Protection → Target → List ℕ
rows_of protected (Row row) = row ∷ []
rows_of protected (Group place) = slice_index_or (map (λ p. p.rows.list) protected.groups) place []

-- the records' sets and the asked one, each as often as it is counted, add up to the target, `times` times, and to the own row, as often as
-- it is a share of them
pub record ShowsTotal (n : ℕ) (history : List Answered) (protected : Protection) (asked : Asked)
    (target : Target) (share : Option OwnShare) (times : ℤ) (terms : List Term) (count : ℤ) : Type 0 where
  pub askers : AllByRecursion (IsAsker n protected.people) (own_rows (own_in share))
  pub target_is : IsTarget n protected asked.column (own_in share) target
  pub few : length terms ≤ most_rows
  pub are_terms : AllByRecursion (IsTerm history asked.column) terms
  pub small_count : IsSmall count
  pub small_share : AllByRecursion IsSmall (shares_in share)
  pub positive : pos 0 <ℤ times
  pub small_times : IsSmall times
  pub add_up : (row : ℕ) → row < n →
      sum_at (weights_of history asked.rows.list count terms) row ≡ adds (rows_of protected target) times row +ℤ share_adds share row

-- ---- maxima

-- the answer that a pair is: that of a record of the column, or the new one over the asked set
abbrev pub IsPair : List Answered → Asked → ℤ → Option ℕ → Answer → Type 0
IsPair history asked answer None pair = pair ≡ record { rows = asked.rows.list; value = answer }
IsPair history asked answer (Some place) pair = (r : Answered) × IsOwnRecord history asked.column place r × (pair ≡ answer_in r)

-- the answers of the column once the question has this answer
abbrev pub answers_after : List Answered → Asked → ℤ → List Answer
answers_after history asked answer = answers_of asked.column history ++ record { rows = asked.rows.list; value = answer } ∷ []

-- after this answer, which `high` shows to be possible, the named rows, of few people, are the only ones of the pair's set that can reach the
-- pair's answer
pub record ShowsRow (n : ℕ) (people : Headcount) (history : List Answered) (asked : Asked) (answer : ℤ) (few : FewRows) (place : Option ℕ) (high : List ℤ) : Type 0 where
  pub pair : Answer
  pub is : IsPair history asked answer place pair
  pub are_rows : AreRowsNamed n few
  pub are_few : AreFew people [] (named_rows few)
  pub beside : IsBeside people few
  pub lone : ShowsLone (known_max n (answers_after history asked answer)) pair (named_rows few) high

-- ---- both

-- a proof that the question is dangerous after this history
abbrev pub IsProof : Setting → List Answered → Asked → Proof → Type 0
IsProof setting history asked (Sum target share times terms count) =
    (kind_at setting.shape asked.column ≡ kind.Sum) × ShowsTotal setting.shape.rows history setting.protected asked target share times terms count
IsProof setting history asked (Max answer few pair high) =
    (kind_at setting.shape asked.column ≡ kind.Max) × ShowsRow setting.shape.rows setting.protected.people history asked answer few pair high
