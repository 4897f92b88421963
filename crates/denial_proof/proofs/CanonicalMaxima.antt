-- What was found is the canonical proof.
use Rattle.std.proofs.Common.{◌≡◌, ◌≢◌, ℕ, ℤ, List, [], Option, ap, ◌∙◌, subst}
use Rattle.audit_types.specs.declared.records.Answered.{Answered}
use Rattle.audit_types.specs.declared.records.Asked.{Asked}
use Rattle.audit_types.specs.Rows.{AreRows, IsLeast}
use Rattle.audit_types.specs.Headcount.{Headcount, CountPeople}
use Rattle.audit_types.specs.Column.{Answer, IsWellFormed, known_max, guarding}
use Rattle.audit_types.specs.History.{answers_of}
use Rattle.audit_types.specs.ListLaws.{all-push}
use Rattle.max_bounds.specs.Maxima.{and_answer}
use Rattle.max_audit.specs.Laws.{HighestAgrees}
use Rattle.max_audit.specs.Witnesses.{highest}
use Rattle.denial_proof.specs.declared.few_rows.FewRows.{FewRows}
use Rattle.denial_proof.specs.FewRows.{named_rows, IsLeastFew}
use Rattle.denial_proof.specs.Certificates.{ShowsRow}
use Rattle.denial_proof.specs.Canonical.{IsFewAt, IsFirstAnswer, IsCanonicalMax}
use Rattle.audit_types.specs.Extremes.{extremes}
use Rattle.denial_proof.proofs.FewNames.{IsNameOf}
use Rattle.denial_proof.proofs.LeastFew.{first_is_name}
use Rattle.denial_proof.proofs.HighestShows.{highest_shows}

-- with the asked set the answers are over sets of rows of the table
pub formed_after : (n : ℕ) (before : List Answer) (rows : List ℕ) (answer : ℤ) → IsWellFormed (known_max n before) → AreRows n rows → rows ≢ [] →
    IsWellFormed (known_max n (and_answer before rows answer))
formed_after n before rows answer formed are some = record {
  are_rows = all-push (λ a. AreRows n a.rows) before (record { rows = rows; value = answer }) formed.are_rows are;
  some = all-push (λ a. a.rows ≢ []) before (record { rows = rows; value = answer }) formed.some some;
}

-- the first name is one of extreme rows
pub name_after : (n : ℕ) (people : Headcount) → CountPeople n people → (before : List Answer) (rows : List ℕ) (answer : ℤ) (few : FewRows) →
    IsWellFormed (known_max n before) → AreRows n rows → rows ≢ [] → IsFirstAnswer (guarding (known_max n before) people []) rows answer →
    (least : IsLeastFew n people (and_answer before rows answer) (and_answer before rows answer) few) →
    IsNameOf n people (extremes (and_answer before rows answer) least.answer) few
name_after n people count before rows answer few formed are some first least =
    first_is_name n (and_answer before rows answer) (formed_after n before rows answer formed are some) first.leaves.possible people count few least

-- what was found is the canonical proof
pub canonical_from : HighestAgrees → (n : ℕ) (people : Headcount) → CountPeople n people → (history : List Answered) (asked : Asked) (before : List Answer)
    (answer : ℤ) (few : FewRows) (rows : List ℕ) (place : Option ℕ) (high : List ℤ) → before ≡ answers_of asked.column history →
    IsWellFormed (known_max n before) → AreRows n asked.rows.list → asked.rows.list ≢ [] →
    IsFirstAnswer (guarding (known_max n before) people []) asked.rows.list answer →
    IsLeastFew n people (and_answer before asked.rows.list answer) (and_answer before asked.rows.list answer) few →
    high ≡ highest n (and_answer before asked.rows.list answer) → rows ≡ named_rows few → IsLeast (IsFewAt history asked answer rows) place →
    IsCanonicalMax n people history asked answer few place high × ShowsRow n people history asked answer few place high
canonical_from agrees n people count history asked before answer few rows place high same formed are some first least highest_is named pairs =
    let own = subst (λ (b : List Answer). IsWellFormed (known_max n b)) same formed in
    let all = formed_after n (answers_of asked.column history) asked.rows.list answer own are some in
    let canonical : IsCanonicalMax n people history asked answer few place high = record {
      first_answer = subst (λ (b : List Answer). IsFirstAnswer (guarding (known_max n b) people []) asked.rows.list answer) same first;
      least_few = subst (λ (b : List Answer). IsLeastFew n people (and_answer b asked.rows.list answer) (and_answer b asked.rows.list answer) few) same least;
      first_pair = subst (λ (list : List ℕ). IsLeast (IsFewAt history asked answer list) place) named pairs;
      highest_is = highest_is ∙ ap (λ (b : List Answer). highest n (and_answer b asked.rows.list answer)) same;
    } in
    (canonical, highest_shows agrees n people count history asked answer few place high all canonical)
