-- Over more rows a question is as wide as before, and decided as before: the form is the old one with zeros after each row, and what reads a
-- new row is within reach by that row alone.
use Rattle.std.proofs.Common.{◌≡◌, ◌↔◌, ℕ, ◌+◌, ◌-◌, ◌<◌, ◌≤◌, ℤ, pos, List, [], ◌∷◌, map, replicate, refl, sym, ◌∙◌, subst, arith}
use Rattle.std.specs.Prelude.{Contains}
use Rattle.std.proofs.lemmas.Bool.{true≢false}
use Rattle.std.specs.List.{AllByRecursion}
use Rattle.audit_types.specs.declared.shapes.Kind.{Kind}
use Rattle.audit_types.specs.declared.shapes.Kind.TheVariants.{Sum, Max}
use Rattle.audit_types.specs.declared.records.Verdict.{Verdict}
use Rattle.audit_types.specs.declared.records.Verdict.TheVariants.{Released, DeniedUnsafe, DeniedWide}
use Rattle.audit_types.specs.Rows.{AreRows}
use Rattle.audit_types.specs.Headcount.{Headcount}
use Rattle.audit_types.specs.Column.{Answer, Known, IsGuarded}
use Rattle.audit_types.specs.Extents.{extent_within}
use Rattle.audit_types.specs.Form.{Reduced}
use Rattle.audit_types.specs.Judgement.{IsWideFor, IsWithinWidthFor, IsDecision, sets_with}
use Rattle.audit_types.specs.ListLaws.{all-append, all-map}
use Rattle.audit_types.specs.Reach.{Changes, IsWithinBounds}
use Rattle.audit_types.specs.WidthLaws.{changes_by_more}
use Rattle.sum_basis.specs.Laws.{SetsHaveOneForm}
use Rattle.audit_core.specs.WideningLaws.{over_rows, AreSetsOf, AreGroupsOf, WidthStays, DecisionStays}
use Rattle.audit_core.proofs.PaddedForms.{padded, zeros_at, HasPivots, has_pivots, narrow-padded, narrow-unpadded, reduced-padded}
use Rattle.audit_core.proofs.PaddedChanges.{changes_longer, changes_shorter, new_changes, zero_of_zeros}
use Rattle.audit_core.proofs.Parts.{no_part}
use Rattle.audit_core.proofs.MoreRows.{grown, CountAlike, IsGrown, WasGuarded, old, new, rest, guarded_goes_on, guarded_was, old_is_grown, danger_was, danger}

module _ (one : SetsHaveOneForm) (known : Known) (rows : List ℕ) (k : ℕ) (are : AreSetsOf known rows) (reach : 0 < known.reach) where
  abbrev n : ℕ
  n = known.n + k

  abbrev sets : List (List ℕ)
  sets = sets_with known rows

  le : known.n ≤ n
  le = omega arith

  all_sets : AllByRecursion (AreRows known.n) sets
  all_sets = all-append (AreRows known.n) (map (λ (a : Answer). a.rows) known.answers) (rows ∷ [])
      (all-map (λ (a : Answer). a.rows) (AreRows known.n) known.answers are.0) (are.1, tt)

  module _ (form : List (List ℤ)) (reduced : Reduced known.n sets form) where
    pivots : HasPivots form
    pivots = has_pivots known.n form reduced.primitive

    abbrev longer : List (List ℤ)
    longer = map (padded k) form

    reduced_longer : Reduced n sets longer
    reduced_longer = reduced-padded known.n k sets form all_sets reduced

    -- the longer form is the one over more rows
    is_longer : (other : List (List ℤ)) → Reduced n sets other → other ≡ longer
    is_longer other is = (one n sets).2 other is ∙ sym ((one n sets).2 longer reduced_longer)

    -- what is within the bounds is within them over more rows
    module _ (people : Headcount) (groups : List (List ℕ)) (alike : CountAlike known people)
        (each : (group : List ℕ) → Contains groups group → IsGrown known n group) (within : IsWithinBounds known sets form) where
      near_longer : {value : List ℤ → ℤ} → IsGuarded (grown n people groups known) [] value → WasGuarded known n le people groups alike each [] tt value →
          Changes n sets longer n value → Changes n sets longer known.reach value
      near_longer {value} guarded (old reads was) changes =
          changes_longer known.n k sets all_sets form pivots value reads known.reach (within.near value
          (subst (λ own. IsGuarded known own value) (no_part known.n 0 n tt) was)
          (changes_shorter known.n k sets all_sets form pivots value reads n known.n (λ d all near. let few = extent_within d in omega arith) changes))
      near_longer {value} guarded (new reads) changes =
          new_changes known.n n known.reach sets longer value all_sets reads
          (zero_of_zeros (grown n people groups known) guarded (replicate n (pos 0)) (zeros_at n)) reach
      near_longer guarded (rest part q known_q are_part was back) changes = absurd (true≢false (sym known_q))

      within_longer : IsWithinBounds (grown n people groups known) sets longer
      within_longer = record {
        narrow = narrow-padded known.width k form pivots within.narrow;
        near = λ value guarded changes. near_longer guarded (guarded_was known n le people groups alike each [] tt guarded) changes;
      }

    -- and was so, if no group has a new row
    within_shorter : AreGroupsOf known → IsWithinBounds (over_rows n known) sets longer → IsWithinBounds known sets form
    within_shorter groups_are within = record {
      narrow = narrow-unpadded known.width k form pivots within.narrow;
      near = λ value guarded changes.
          let there = guarded_goes_on known n le [] groups_are guarded in
          changes_shorter known.n k sets all_sets form pivots value there.0 known.reach known.reach (λ d all near. near) (within.near value there.1
          (changes_by_more n sets longer known.n n value le (changes_longer known.n k sets all_sets form pivots value there.0 known.n changes)));
    }

  within_for : (kind : Kind) (people : Headcount) (groups : List (List ℕ)) → CountAlike known people →
      ((group : List ℕ) → Contains groups group → IsGrown known n group) → IsWithinWidthFor kind known rows →
      IsWithinWidthFor kind (grown n people groups known) rows
  within_for Sum people groups alike each (form, reduced, within) =
      (longer form reduced, reduced_longer form reduced, within_longer form reduced people groups alike each within)
  within_for Max people groups alike each within = tt

  -- what was released is released over more rows, if each group with old rows alone was protected
  released_longer : (people : Headcount) (groups : List (List ℕ)) → CountAlike known people →
      ((group : List ℕ) → Contains groups group → IsGrown known n group) →
      IsDecision known rows Released → IsDecision (grown n people groups known) rows Released
  released_longer people groups alike each d =
      (within_for known.kind people groups alike each d.0, λ bad. d.1 (danger_was known rows n are le people groups alike each bad))

  module _ (groups_are : AreGroupsOf known) where
    alike : CountAlike known known.people
    alike = record { counts = λ row lt. refl; fewest = refl; own = refl }

    each_old : (group : List ℕ) → Contains known.groups group → IsGrown known n group
    each_old = old_is_grown known rows n are le groups_are

    within_back : (kind : Kind) → IsWithinWidthFor kind (over_rows n known) rows → IsWithinWidthFor kind known rows
    within_back Sum (other, is, within) =
        let old = one known.n sets in
        (old.0, old.1, within_shorter old.0 old.1 groups_are (subst (IsWithinBounds (over_rows n known) sets) (is_longer old.0 old.1 other is) within))
    within_back Max within = tt

    wide_on : (kind : Kind) → IsWideFor kind known rows → IsWideFor kind (over_rows n known) rows
    wide_on Sum (form, reduced, wide) = (longer form reduced, reduced_longer form reduced, λ within. wide (within_shorter form reduced groups_are within))
    wide_on Max wide = wide

    wide_back : (kind : Kind) → IsWideFor kind (over_rows n known) rows → IsWideFor kind known rows
    wide_back Sum (other, is, wide) =
        let old = one known.n sets in (
          old.0,
          old.1,
          λ within. wide (subst (IsWithinBounds (over_rows n known) sets) (sym (is_longer old.0 old.1 other is))
              (within_longer old.0 old.1 known.people known.groups alike each_old within)),
        )
    wide_back Max wide = wide

    within_on : (kind : Kind) → IsWithinWidthFor kind known rows → IsWithinWidthFor kind (over_rows n known) rows
    within_on kind within = within_for kind known.people known.groups alike each_old within

    decided : (verdict : Verdict) → IsDecision known rows verdict ↔ IsDecision (over_rows n known) rows verdict
    decided DeniedWide = (wide_on known.kind, wide_back known.kind)
    decided DeniedUnsafe = (
      λ d. (within_on known.kind d.0, (danger known rows n are le groups_are).0 d.1),
      λ d. (within_back known.kind d.0, (danger known rows n are le groups_are).1 d.1),
    )
    decided Released = (
      λ d. (within_on known.kind d.0, λ bad. d.1 ((danger known rows n are le groups_are).1 bad)),
      λ d. (within_back known.kind d.0, λ bad. d.1 ((danger known rows n are le groups_are).0 bad)),
    )

-- ---- any number of rows

more : (m n : ℕ) → m ≤ n → m + (n - m) ≡ n
more m n le = omega (arith, le)

pub released_stays : SetsHaveOneForm → (known : Known) (rows : List ℕ) (n : ℕ) → AreSetsOf known rows → known.n ≤ n → 0 < known.reach →
    (people : Headcount) (groups : List (List ℕ)) →
    CountAlike known people → ((group : List ℕ) → Contains groups group → IsGrown known n group) → IsDecision known rows Released →
    IsDecision (grown n people groups known) rows Released
released_stays one known rows n are le reach people groups alike each d =
    subst (λ j. IsDecision (grown j people groups known) rows Released) (more known.n n le)
    (released_longer one known rows (n - known.n) are reach people groups alike
    (λ group there. subst (λ j. IsGrown known j group) (sym (more known.n n le)) (each group there)) d)

pub width_stays : SetsHaveOneForm → WidthStays
width_stays one known rows n are groups_are reach le =
    subst (λ j. IsWideFor known.kind known rows ↔ IsWideFor known.kind (over_rows j known) rows) (more known.n n le)
    (wide_on one known rows (n - known.n) are reach groups_are known.kind, wide_back one known rows (n - known.n) are reach groups_are known.kind)

pub decision_stays : SetsHaveOneForm → DecisionStays
decision_stays one known rows n verdict are groups_are reach le =
    subst (λ j. IsDecision known rows verdict ↔ IsDecision (over_rows j known) rows verdict) (more known.n n le)
    (decided one known rows (n - known.n) are reach groups_are verdict)
