-- What has a proof is dangerous.
--
-- Sums: each list that gives the earlier answers and the same answer as another has the same sum as it over each counted set,
-- so the same total over the target. Maxima: `high` gives all answers, and every list that does has the pair's answer at the row.
use Rattle.std.proofs.Common.{◌≡◌, ◌≢◌, ℕ, zero, suc, ℤ, Bool, true, false, cond, List, [], ◌∷◌, map, refl, sym, ap, ◌∙◌, subst, arith}
use Rattle.std.specs.Prelude.{All, Contains, ◌<◌, ◌+ℤ◌, neg_ℤ, slice_get, slice_index_or, Option, None, Some, ◌==◌}
use Rattle.std.specs.List.{AllByRecursion, filter}
use Rattle.std.proofs.lemmas.Int.{ints}
use Rattle.std.proofs.lemmas.Bool.{eq-eqb}
use Rattle.std.proofs.lemmas.Option.{get_or_from_slice_get, slice_get_within}
use Rattle.audit_types.specs.declared.shapes.Shape.{Shape}
use Rattle.audit_types.specs.declared.shapes.Kind.TheVariants as kind
use Rattle.audit_types.specs.declared.records.Answered.{Answered}
use Rattle.audit_types.specs.declared.records.Asked.{Asked}
use Rattle.std.proofs.lemmas.List.Elements.{recursion_from_All}
use Rattle.audit_types.specs.declared.shapes.Kind.{Kind}
use Rattle.audit_types.specs.Rows.{Rows, AreRows, has_row}
use Rattle.audit_types.specs.Truth.{number_at, sum_over, greatest_over}
use Rattle.audit_types.specs.ListLaws.{all-push, all-front, all-map, all-filter, all-weaker}
use Rattle.audit_types.specs.HistoryLaws.{own_answer}
use Rattle.audit_types.specs.Column.{Answer, Known, Agrees, GivesSameAnswers, AreOwn, AreSameAt, IsGuarded, number, greatest, total, IsPossible, IsDangerous, known_max}
use Rattle.audit_types.specs.History.{FitsShape, Protection, known_of, answers_of, answer_in, groups_of}
use Rattle.audit_types.specs.declared.records.Protected.{Protected}
use Rattle.denial_proof.specs.declared.proof_parts.Target.{Target}
use Rattle.denial_proof.specs.declared.proof_parts.Target.TheVariants.{Row, Group}
use Rattle.denial_proof.specs.declared.proof_parts.Term.{Term}
use Rattle.denial_proof.specs.declared.proof_parts.Proof.TheVariants.{Sum, Max}
use Rattle.denial_proof.specs.declared.proof_parts.OwnShare.{OwnShare}
use Rattle.denial_proof.specs.Weights.{Weight, adds, sum_at, weight_of, weights_of, rows_at, own_in, own_rows, share_adds}
use Rattle.denial_proof.specs.Certificates.{IsAsker, IsTerm, IsTarget, rows_of, ShowsTotal, ShowsRow, answers_after}
use Rattle.denial_proof.specs.Laws.{ProofsShowDanger}
use Rattle.audit_types.specs.Headcount.{Headcount}
use Rattle.audit_types.specs.Products.{neg-times}
use Rattle.denial_proof.proofs.TotalsFollow.{same_total, chosen}
use Rattle.denial_proof.specs.declared.few_rows.FewRows.{FewRows}
use Rattle.denial_proof.specs.FewRows.{named_rows}
use Rattle.denial_proof.proofs.FewNames.{named_ascend}
use Rattle.denial_proof.proofs.LoneRowsAreKnown.{lone_rows_have_it}

-- ---- sets of records

-- the rows of a record that is there
rows_there : (history : List Answered) (place : ℕ) (r : Answered) → slice_get history place ≡ Some r → rows_at history place ≡ r.rows.list
rows_there [] place r there = absurd cc
rows_there (x ∷ history) zero r there = let same : x ≡ r = cc in ap (λ (y : Answered). y.rows.list) same
rows_there (x ∷ history) (suc place) r there = rows_there history place r there

-- the same of a protected entry
pub group_there : (protected : List Protected) (place : ℕ) (p : Protected) → slice_get protected place ≡ Some p →
    slice_index_or (map (λ q. q.rows.list) protected) place [] ≡ p.rows.list
group_there [] place p there = absurd cc
group_there (x ∷ protected) zero p there = let same : x ≡ p = cc in ap (λ (y : Protected). y.rows.list) same
group_there (x ∷ protected) (suc place) p there = group_there protected place p there

-- a record that is there fits
fits_there : (shape : Shape) (history : List Answered) (place : ℕ) (r : Answered) → All (λ q. FitsShape shape q.column q.rows) history → slice_get history place
    ≡ Some r →
    FitsShape shape r.column r.rows
fits_there shape history place r fits there =
    subst (λ (q : Answered). FitsShape shape q.column q.rows) (get_or_from_slice_get history place r r there)
    (fits place r (slice_get_within history place r there))

-- so does an entry
entry_fits : (shape : Shape) (protected : List Protected) (place : ℕ) (p : Protected) → All (λ q. FitsShape shape q.column q.rows) protected →
    slice_get protected place ≡ Some p →
    FitsShape shape p.column p.rows
entry_fits shape protected place p fits there =
    subst (λ (q : Protected). FitsShape shape q.column q.rows) (get_or_from_slice_get protected place p p there)
    (fits place p (slice_get_within protected place p there))

-- the rows of an entry of a column are one of its groups
group_of_column : (protected : List Protected) (place column : ℕ) (p : Protected) → slice_get protected place ≡ Some p → p.column ≡ column →
    Contains (groups_of column protected) p.rows.list
group_of_column [] place column p there own = absurd cc
group_of_column (x ∷ protected) zero column p there own =
    let same : x ≡ p = cc in
    let test : (x.column == column) ≡ true = eq-eqb x.column column (ap (λ (y : Protected). y.column) same ∙ own) in
    rw test (zero, omega arith, ap (λ (y : Protected). y.rows.list) same)
group_of_column (x ∷ protected) (suc place) column p there own =
    later (x.column == column) x.rows.list (group_of_column protected place column p there own)
  where
    later : (b : Bool) (rows : List ℕ) → Contains (groups_of column protected) p.rows.list →
        Contains (map (λ (q : Protected). q.rows.list)
        (cond b (x ∷ filter (λ (q : Protected). q.column == column) protected) (filter (λ (q : Protected). q.column == column) protected))) p.rows.list
    later true rows (k, below, is) = (suc k, omega arith, is)
    later false rows found = found

-- what fits is a set of rows of the table
rows_fit : (shape : Shape) (column : ℕ) (rows : Rows) → FitsShape shape column rows → AreRows shape.rows rows.list
rows_fit shape column rows fits = subst (λ n. AreRows n rows.list) fits.same_n fits.are_rows

-- what is known of a column of this kind
abbrev of_kind : Kind → ℕ → Headcount → List (List ℕ) → ℕ → ℕ → List Answer → Known
of_kind kind n people groups width reach answers =
    record { kind = kind; n = n; answers = answers; groups = groups; people = people; width = width; reach = reach }

-- ---- sums

-- the counted sets, and the own row's, whose share is taken away
abbrev with_share : Option OwnShare → List Weight → List Weight
with_share None weights = weights
with_share (Some s) weights = record { rows = s.own ∷ []; times = neg_ℤ s.share } ∷ weights

all_with_share : (P : List ℕ → Type 0) (share : Option OwnShare) (weights : List Weight) {Q : ℕ → Type 0} → ((q : ℕ) → Q q → P (q ∷ [])) →
    AllByRecursion Q (own_rows (own_in share)) → AllByRecursion (λ w. P w.rows) weights → AllByRecursion (λ w. P w.rows) (with_share share weights)
all_with_share P None weights single own all = all
all_with_share P (Some s) weights single own all = (single s.own own.0, all)

-- they add up to the target alone
share_taken : (share : Option OwnShare) (weights : List Weight) (target : List ℕ) (times : ℤ) (row : ℕ) →
    sum_at weights row ≡ adds target times row +ℤ share_adds share row → sum_at (with_share share weights) row ≡ adds target times row
share_taken None weights target times row is = omega (arith, ints)
share_taken (Some s) weights target times row is =
    let opposite = chosen (has_row (s.own ∷ []) row) (neg_ℤ s.share) ∙ neg-times s.share _ ∙ ap neg_ℤ (sym (chosen (has_row (s.own ∷ []) row) s.share)) in
    omega (arith, ints)

module _ (shape : Shape) (history : List Answered) (protected : Protection) (asked : Asked)
    (records : All (λ r. FitsShape shape r.column r.rows) history) (entries : All (λ p. FitsShape shape p.column p.rows) protected.groups)
    (question : FitsShape shape asked.column asked.rows) where
  -- what is known of the column before, were it of this kind
  abbrev known_as : Kind → Known
  known_as kind = of_kind kind shape.rows protected.people (groups_of asked.column protected.groups) protected.width protected.reach
      (answers_of asked.column history)

  -- were it one of sums
  abbrev known : Known
  known = known_as kind.Sum

  -- the counted sets are sets of rows of the table
  terms_are_rows : (terms : List Term) → AllByRecursion (IsTerm history asked.column) terms →
      AllByRecursion (λ w. AreRows shape.rows w.rows) (map (weight_of history) terms)
  terms_are_rows [] are = tt
  terms_are_rows (t ∷ terms) are =
      let r = are.0.named.0 in
      let there = are.0.named.1.there in (
        subst (AreRows shape.rows) (sym (rows_there history t.place r there))
            (rows_fit shape r.column r.rows (fits_there shape history t.place r records there)),
        terms_are_rows terms are.1,
      )

  -- lists that give the same answers have the same sums over them
  same_over_term : (v u : List ℤ) → Agrees known v → Agrees known u → (t : Term) → IsTerm history asked.column t → sum_over v (rows_at history t.place)
      ≡ sum_over u (rows_at history t.place)
  same_over_term v u first second t is =
      let r = is.named.0 in
      let there = is.named.1.there in
      let within = slice_get_within history t.place r there in
      let at = sym (get_or_from_slice_get history t.place r r there) in
      let rows = rows_there history t.place r there in
      ap (sum_over v) rows
      ∙ own_answer (λ a. sum_over v a.rows ≡ a.value) asked.column history t.place r within at is.named.1.own first.same
      ∙ sym (own_answer (λ a. sum_over u a.rows ≡ a.value) asked.column history t.place r within at is.named.1.own second.same)
      ∙ sym (ap (sum_over u) rows)

  same_over_terms : (v u : List ℤ) → Agrees known v → Agrees known u → (terms : List Term) → AllByRecursion (IsTerm history asked.column) terms →
      AllByRecursion (λ w. sum_over v w.rows ≡ sum_over u w.rows) (map (weight_of history) terms)
  same_over_terms v u first second [] are = tt
  same_over_terms v u first second (t ∷ terms) are = (same_over_term v u first second t are.0, same_over_terms v u first second terms are.1)

  -- a target is a set of rows of the table
  target_is_rows : (own : Option ℕ) (target : Target) → IsTarget shape.rows protected asked.column own target →
      AreRows shape.rows (rows_of protected target)
  target_is_rows own (Row row) is = (omega arith, is.0, tt)
  target_is_rows own (Group place) is =
      subst (AreRows shape.rows) (sym (group_there protected.groups place is.entry is.there))
      (rows_fit shape is.entry.column is.entry.rows (entry_fits shape protected.groups place is.entry entries is.there))

  -- so they have the same total over the target, if they have the same number at the own row
  same_over_target : (target : Target) (share : Option OwnShare) (times : ℤ) (terms : List Term) (count : ℤ) →
      ShowsTotal shape.rows history protected asked target share times terms count → (w v : List ℤ) → Agrees known w →
      GivesSameAnswers known asked.rows.list w v → AreSameAt (own_rows (own_in share)) w v →
      sum_over v (rows_of protected target) ≡ sum_over w (rows_of protected target)
  same_over_target target share times terms count shown w v agrees same also =
      let weights = weights_of history asked.rows.list count terms in
      same_total v w shape.rows (with_share share weights) (rows_of protected target) times
      (all_with_share (λ rows. AreRows shape.rows rows) share weights (λ q there. (omega arith, there, tt)) (own_below share shown.askers)
      (rows_fit shape asked.column asked.rows question, terms_are_rows terms shown.are_terms))
      (target_is_rows (own_in share) target shown.target_is) shown.positive
      (λ row l. share_taken share weights (rows_of protected target) times row (shown.add_up row l))
      (all_with_share (λ rows. sum_over v rows ≡ sum_over w rows) share weights (λ q is. omega (arith, ints)) (own_same share also)
      (same.same, same_over_terms v w same.agrees agrees terms shown.are_terms))
    where
      own_below : (s : Option OwnShare) → AllByRecursion (IsAsker shape.rows protected.people) (own_rows (own_in s)) →
          AllByRecursion (λ q. q < shape.rows) (own_rows (own_in s))
      own_below None askers = tt
      own_below (Some s) askers = (askers.0.below, tt)

      own_same : (s : Option OwnShare) → AreSameAt (own_rows (own_in s)) w v → AllByRecursion (λ q. number_at v q ≡ number_at w q) (own_rows (own_in s))
      own_same s same = same

  -- what a target discloses is guarded
  target_is_guarded : (own : Option ℕ) (target : Target) → IsTarget shape.rows protected asked.column own target →
      (value : List ℤ → ℤ) × IsGuarded known (own_rows own) value × ((v : List ℤ) → value v ≡ sum_over v (rows_of protected target))
  target_is_guarded own (Row row) is = ((λ v. number_at v row), number row is.0 is.1 is.2, λ v. omega (arith, ints))
  target_is_guarded own (Group place) is = (
    (λ v. sum_over v is.entry.rows.list),
    total is.entry.rows.list is.row (group_of_column protected.groups place asked.column is.entry is.there is.of_column) is.holds is.other,
    λ v. ap (sum_over v) (sym (group_there protected.groups place is.entry is.there)),
  )

  -- who may ask knows her own number
  asker_is_own : (own : Option ℕ) → AllByRecursion (IsAsker shape.rows protected.people) (own_rows own) → AreOwn known (own_rows own)
  asker_is_own None askers = (tt, omega arith, tt)
  asker_is_own (Some q) askers = ((omega arith, askers.0.below, tt), (let some = askers.0.inside in omega arith), (askers.0.one, tt))

  -- a number or a protected total could be given away
  sums_show_danger : (target : Target) (share : Option OwnShare) (times : ℤ) (terms : List Term) (count : ℤ) →
      ShowsTotal shape.rows history protected asked target share times terms count → IsPossible known → IsDangerous known asked.rows.list
  sums_show_danger target share times terms count shown (w, agrees) =
      let guarded = target_is_guarded (own_in share) target shown.target_is in record {
        w = w;
        agrees = agrees;
        own = own_rows (own_in share);
        are_own = asker_is_own (own_in share) shown.askers;
        value = guarded.0;
        guarded = guarded.1;
        disclosed = λ v same also.
            guarded.2 v ∙ same_over_target target share times terms count shown w v agrees same also ∙ sym (guarded.2 w);
      }

  -- ---- maxima

  -- what is known of the column after the answer, were it one of maxima
  abbrev answers_with : ℤ → List Answer
  answers_with answer = answers_after history asked answer

  -- sets of rows of the table, none empty
  abbrev IsSet : Answer → Type 0
  IsSet a = AreRows shape.rows a.rows × (a.rows ≢ [])

  sets_of_records : (more : List Answered) → AllByRecursion (λ r. FitsShape shape r.column r.rows) more →
      AllByRecursion (λ (r : Answered). IsSet (answer_in r)) more
  sets_of_records [] fit = tt
  sets_of_records (r ∷ more) fit = ((rows_fit shape r.column r.rows fit.0, fit.0.some), sets_of_records more fit.1)

  sets_after : (answer : ℤ) → AllByRecursion IsSet (answers_with answer)
  sets_after answer =
      all-push IsSet (answers_of asked.column history) (record { rows = asked.rows.list; value = answer })
      (all-map answer_in IsSet _ (all-filter (λ (r : Answered). IsSet (answer_in r)) (λ r. r.column == asked.column) history
      (sets_of_records history (recursion_from_All _ history records))))
      (rows_fit shape asked.column asked.rows question, question.some)

  maxima_show_danger : (answer : ℤ) (few : FewRows) (place : Option ℕ) (high : List ℤ) →
      ShowsRow shape.rows protected.people history asked answer few place high → IsDangerous (known_as kind.Max) asked.rows.list
  maxima_show_danger answer few place high shown =
      let last : Answer = record { rows = asked.rows.list; value = answer } in
      let sets = sets_after answer in
      let some = all-weaker IsSet (λ a. a.rows ≢ []) (λ a is. is.1) (answers_with answer) sets in
      let gives = all-front (λ a. greatest_over high a.rows ≡ a.value) (answers_of asked.column history) last shown.lone.agrees.same in
      let rows = named_ascend shape.rows few shown.are_rows in
      record {
        w = high;
        agrees = record { one_each = shown.lone.agrees.one_each; same = gives.0 };
        own = [];
        are_own = (tt, omega arith, tt);
        value = λ v. greatest_over v (named_rows few);
        guarded = greatest (named_rows few) refl rows.0 rows.1 tt shown.are_few;
        disclosed = λ v same also.
            let after : Agrees (known_max shape.rows (answers_with answer)) v = record {
              one_each = same.agrees.one_each;
              same = all-push (λ a. greatest_over v a.rows ≡ a.value) (answers_of asked.column history) last same.agrees.same (same.same ∙ gives.1);
            } in
            lone_rows_have_it shape.rows (answers_with answer) v after some shown.pair (named_rows few) high rows.1 shown.lone
            ∙ sym (lone_rows_have_it shape.rows (answers_with answer) high shown.lone.agrees some shown.pair (named_rows few) high rows.1 shown.lone);
      }

-- ---- both

pub proofs_show_danger : ProofsShowDanger
proofs_show_danger setting history asked (Sum target share times terms count) records entries question possible (sums, shown) =
    let known = known_as setting.shape history setting.protected asked records entries question in
    let same : known kind.Sum ≡ known_of setting history asked.column = ap known (sym sums) in
    subst (λ (k : Known). IsDangerous k asked.rows.list) same
    (sums_show_danger setting.shape history setting.protected asked records entries question target share times
    terms count shown (subst IsPossible (sym same) possible))
proofs_show_danger setting history asked (Max answer few place high) records entries question possible (maxima, shown) =
    let known = known_as setting.shape history setting.protected asked records entries question in
    let same : known kind.Max ≡ known_of setting history asked.column = ap known (sym maxima) in
    subst (λ (k : Known). IsDangerous k asked.rows.list) same
    (maxima_show_danger setting.shape history setting.protected asked records entries question answer few place high shown)
