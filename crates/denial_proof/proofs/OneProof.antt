-- A denial as unsafe has at most one canonical proof.
use Rattle.std.proofs.Common.{◌≡◌, ℕ, ℤ, List, [], map, get_or, Option, Some, None, refl, sym, ap, ◌∙◌, subst, arith}
use Rattle.std.specs.Prelude.{All}
use Rattle.std.proofs.lemmas.Int.{ints, by_lt_z}
use Rattle.std.proofs.lemmas.Option.{slice_get-get_or}
use Rattle.audit_types.specs.declared.records.Answered.{Answered}
use Rattle.audit_types.specs.declared.records.Asked.{Asked}
use Rattle.audit_types.specs.declared.records.Verdict.TheVariants.{DeniedUnsafe}
use Rattle.audit_types.specs.declared.shapes.Kind.TheVariants as kind
use Rattle.audit_types.specs.Rows.{AreRows, IsLeast}
use Rattle.audit_types.specs.Column.{Known, known_max, guarding}
use Rattle.audit_types.specs.History.{Setting, Protection, FitsShape, AreProtected, IsDecisionAfter, answers_of}
use Rattle.max_audit.specs.Witnesses.{highest}
use Rattle.denial_proof.specs.declared.proof_parts.Proof.{Proof}
use Rattle.denial_proof.specs.declared.proof_parts.Proof.TheVariants.{Sum, Max}
use Rattle.denial_proof.specs.declared.proof_parts.Target.{Target}
use Rattle.denial_proof.specs.declared.proof_parts.OwnShare.{OwnShare}
use Rattle.denial_proof.specs.declared.proof_parts.Term.{Term}
use Rattle.denial_proof.specs.Weights.{own_in}
use Rattle.sum_audit.specs.Laws.{SpannedOrMoved}
use Rattle.audit_types.specs.Form.{set_row}
use Rattle.std.specs.List.{AllByRecursion}
use Rattle.audit_types.specs.Headcount.{Headcount, CountPeople}
use Rattle.denial_proof.specs.declared.few_rows.FewRows.{FewRows}
use Rattle.denial_proof.specs.FewRows.{named_rows, IsLeastFew}
use Rattle.denial_proof.proofs.FewNames.{one_first}
use Rattle.denial_proof.specs.Certificates.{answers_after}
use Rattle.denial_proof.specs.Canonical.{IsFirstAnswer, IsFirstPair, IsFewAt, IsCanonical, IsCanonicalMax, IsCanonicalSum, sets_with_asked}
use Rattle.denial_proof.specs.Denied.{IsLegalIn, IsUnsafeSum, DeniedSumsAreUnsafe}
use Rattle.denial_proof.proofs.SumParts.{independent_for}
use Rattle.denial_proof.proofs.UnsafeSums.{records_are_rows}
use Rattle.denial_proof.proofs.OneCanonicalSum.{one_least, same_parts, same_target}

-- ---- sums

same_sums : (n width : ℕ) (history : List Answered) (protected : Protection) (asked : Asked) → CountPeople n protected.people →
    SpannedOrMoved → AllByRecursion (λ (r : Answered). AreRows n r.rows.list) history → IsUnsafeSum n width history protected asked →
    (target goal : Target) (share another : Option OwnShare) (times other : ℤ) (terms others : List Term) (count else : ℤ) →
    IsCanonicalSum n history protected asked target share times terms count → IsCanonicalSum n history protected asked goal another other others else →
    (let a : Proof = Sum target share times terms count in a) ≡ Sum goal another other others else
same_sums n width history protected asked people decided fit unsafe target goal share another times other terms others count else first second =
    let rows = map (set_row n) (sets_with_asked history asked) in
    let one = same_target n protected asked.column rows target goal (own_in share) (own_in another) first.first second.first in
    let moved = subst (λ (t : Target). IsCanonicalSum n history protected asked t another other others else) (sym one.0) second in
    let same = same_parts n history protected asked target share another times other terms others count else first moved (sym one.1)
    (independent_for decided n history asked fit first.places first.kept protected people unsafe.new target (own_in share) first.first) in
    let made : Target → Option OwnShare → ℤ → List Term → ℤ → Proof = λ t s x list y. Sum t s x list y in
    ap (λ (t : Target). made t share times terms count) one.0 ∙ ap (λ (s : Option OwnShare). made goal s times terms count) same.3
    ∙ ap (λ (x : ℤ). made goal another x terms count) same.0
    ∙ ap (λ (list : List Term). made goal another other list count) same.2 ∙ ap (λ (y : ℤ). made goal another other others y) same.1

-- ---- maxima

-- there is one least answer
one_answer : (known : Known) (rows : List ℕ) (x y : ℤ) → IsFirstAnswer known rows x → IsFirstAnswer known rows y → x ≡ y
one_answer known rows x y first second =
    by_lt_z x y (λ less. absurd (second.least x first.candidate less first.leaves))
    (λ rest. by_lt_z y x (λ more. absurd (first.least y second.candidate more second.leaves)) (λ not. omega (arith, ints)))

-- there is one first place, or there is none
one_place : (P : ℕ → Type 0) (p q : Option ℕ) → IsLeast P p → IsLeast P q → p ≡ q
one_place P None None first second = refl
one_place P None (Some q) first second = absurd (first q second.0)
one_place P (Some p) None first second = absurd (second p first.0)
one_place P (Some p) (Some q) first second = ap Some (one_least P p q first second)

same_maxima : (n : ℕ) (people : Headcount) (history : List Answered) (asked : Asked) (answer other : ℤ) (few else : FewRows) (place pair : Option ℕ)
    (high numbers : List ℤ) →
    IsCanonicalMax n people history asked answer few place high → IsCanonicalMax n people history asked other else pair numbers →
    (let a : Proof = Max answer few place high in a) ≡ Max other else pair numbers
same_maxima n people history asked answer other few else place pair high numbers first second =
    let known = guarding (known_max n (answers_of asked.column history)) people [] in
    let answers : other ≡ answer = one_answer known asked.rows.list other answer second.first_answer first.first_answer in
    let least = subst (λ (z : ℤ). IsLeastFew n people (answers_after history asked z) (answers_after history asked z) else) answers second.least_few in
    let after = answers_after history asked answer in
    let names : else ≡ few = one_first n people after after else few least first.least_few in
    let moved = subst (λ (f : FewRows). IsFirstPair history asked answer f pair) names
    (subst (λ (z : ℤ). IsFirstPair history asked z else pair) answers second.first_pair) in
    let pairs : place ≡ pair = one_place (IsFewAt history asked answer (named_rows few)) place pair first.first_pair moved in
    let heights : high ≡ numbers = first.highest_is ∙ ap (λ (z : ℤ). highest n (answers_after history asked z)) (sym answers) ∙ sym second.highest_is in
    let made : ℤ → FewRows → Option ℕ → List ℤ → Proof = λ z f p list. Max z f p list in
    ap (λ (z : ℤ). made z few place high) (sym answers) ∙ ap (λ (f : FewRows). made other f place high) (sym names)
    ∙ ap (λ (p : Option ℕ). made other else p high) pairs ∙ ap (λ (list : List ℤ). made other else pair list) heights

-- ---- both

module _ (unsafe : DeniedSumsAreUnsafe) (decided : SpannedOrMoved) (setting : Setting) (history : List Answered) (asked : Asked)
    (fit : AreProtected setting.shape setting.protected)
    (legal : IsLegalIn setting history) (question : FitsShape setting.shape asked.column asked.rows)
    (denied : IsDecisionAfter setting history asked.column asked.rows.list DeniedUnsafe) where
  records_fit : All (λ r. FitsShape setting.shape r.column r.rows) history
  records_fit i d within = (legal.legal.each i (get_or history i d) (slice_get-get_or history i d within)).fits

  pub same_proofs : (a b : Proof) → IsCanonical setting history asked a → IsCanonical setting history asked b → a ≡ b
  same_proofs (Sum target share times terms count) (Sum goal another other others else) (sums, first) (also, second) =
      same_sums setting.shape.rows setting.protected.width history setting.protected asked fit.2 decided (records_are_rows setting history records_fit)
      (unsafe setting history asked records_fit fit legal question sums denied) target goal share another times other terms
      others count else first second
  same_proofs (Sum target share times terms count) (Max answer few place high) (sums, first) (maxima, second) =
      absurd (let both : kind.Sum ≡ kind.Max = sym sums ∙ maxima in cc)
  same_proofs (Max answer few place high) (Sum target share times terms count) (maxima, first) (sums, second) =
      absurd (let both : kind.Sum ≡ kind.Max = sym sums ∙ maxima in cc)
  same_proofs (Max answer few place high) (Max other else pair numbers) (maxima, first) (also, second) =
      same_maxima setting.shape.rows setting.protected.people history asked answer other few else place pair high numbers first second
