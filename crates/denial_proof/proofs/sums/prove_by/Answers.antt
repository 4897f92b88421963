use Rattle.std.proofs.Common.{◌≡◌, ◌+◌, ◌-◌, ℕ, suc, ℤ, List, Option, ◌∷◌, length, take, drop, sym, ap, ◌∙◌, subst, arith, to_z, of_z}
use Rattle.std.specs.Int.{w128}
use Rattle.std.specs.List.{AllByRecursion}
use Rattle.std.proofs.lemmas.Bool.{true≢false}
use Rattle.std.proofs.lemmas.Int.{to_z-of_z, fits_signed_from_abs}
use Rattle.audit_types.specs.Form.{set_row}
use Rattle.audit_types.specs.Truth.{number_at}
use Rattle.denial_proof.specs.declared.proof_parts.OwnShare.{OwnShare}
use Rattle.denial_proof.specs.declared.proof_parts.Term.{Term}
use Rattle.denial_proof.specs.Canonical.{IsCanonicalSum}
use Rattle.denial_proof.specs.Certificates.{IsSmall, ShowsTotal, rows_of}
use Rattle.denial_proof.specs.Numbers.{AreMultipliers, terms_of}
use Rattle.denial_proof.specs.Weights.{own_rows, share_for}
use Rattle.denial_proof.proofs.CanonicalSums.{head_and_tail}
use Rattle.denial_proof.proofs.MultipliersRead.{length_multipliers}
use Rattle.denial_proof.proofs.TargetProofs.{few, shows, too_wide, the_rest, last_small}
use Rattle.denial_proof.proofs.sums.prove_by.Goals as goal

pub overflow_add-kept : goal.overflow_add-kept
overflow_add-kept c =
    let facts = c.args.facts.now in
    let numbers = c.requires.numbers in
    let fewer = few facts.n facts.protected.now.people.own facts.history.now facts.protected.now facts.asked.now c.args.told.own c.args.places.now
    numbers.form numbers.marks c.requires.few c.requires.independent in
    let most = c.requires.at_most in
    omega arith

pub returns-then-not-are_small-clause-wide : goal.returns-then-not-are_small-clause-wide
returns-then-not-are_small-clause-wide c = λ fault.
    let facts = c.args.facts.now in
    let n = facts.n in
    let own = c.args.told.own in
    let places = c.args.places.now in
    let given = c.requires.numbers in
    let group = rows_of facts.protected.now c.args.told.target in
    let items = c.args.numbers.now in
    let m = length places + suc (length (own_rows own)) in
    let split = head_and_tail given.form.rows (set_row n group) n m items given.are in
    too_wide n facts.protected.now.people.own facts.history.now facts.protected.now facts.asked.now own places given.form c.args.told.target given.marks
    c.requires.few c.requires.independent c.requires.first c.requires.spanned given.small
    (number_at items 0) split.0 (subst (AreMultipliers given.form.rows (set_row n group) n m) split.1 given.are)
    (λ all. true≢false (sym (c.are_small.ensures.1 (subst (AllByRecursion IsSmall) (sym split.1) all)) ∙ c.if-not-are_small.true))

pub returns-clause-is : goal.returns-clause-is
returns-clause-is c =
    let facts = c.args.facts.now in
    let n = facts.n in
    let o = c.args.told.own in
    let places = c.args.places.now in
    let given = c.requires.numbers in
    let form = given.form in
    let group = rows_of facts.protected.now c.args.told.target in
    let items = c.args.numbers.now in
    let m = length places + suc (length (own_rows o)) in
    let are : AreMultipliers form.rows (set_row n group) n m items = given.are in
    let split = head_and_tail form.rows (set_row n group) n m items are in
    let times = number_at items 0 in
    let rest = split.0 in
    let own = number_at rest (length places) in
    let small : AllByRecursion IsSmall (times ∷ rest) = subst (AllByRecursion IsSmall) split.1 (c.are_small.ensures.0 c.if-not-are_small.false) in
    let small_first : IsSmall times = small.0 in
    let small_own : IsSmall own = last_small rest (length places) small.1 in
    let size : length items ≡ m + 1 = length_multipliers form.rows (set_row n group) n m items are in
    let place : (length places) + 1 ≡ suc (length places) = omega arith in
    let next : (length places) + 2 ≡ suc (length places + 1) = omega arith in
    let own_is : number_at items (length places + 1) ≡ own
    = ap (number_at items) place ∙ ap (λ (list : List ℤ). number_at list (suc (length places))) split.1 in
    let times_is : to_z w128 (of_z w128 (number_at items 0)) ≡ times = to_z-of_z w128 times (fits_signed_from_abs w128 times (omega arith)) in
    let asked_is : to_z w128 (of_z w128 (number_at items (length places + 1))) ≡ own = ap (λ z. to_z w128 (of_z w128 z)) own_is
    ∙ to_z-of_z w128 own (fits_signed_from_abs w128 own (omega arith)) in
    let share_is : c.share_at.result ≡ share_for o (number_at rest (length places + 1))
    = c.share_at.ensures ∙ ap (λ (list : List ℤ). share_for o (number_at list (length places + 2))) split.1
    ∙ ap (λ (k : ℕ). share_for o (number_at (times ∷ rest) k)) next in
    let terms_is : c.in_ok-list.list.items ≡ terms_of places rest
    = c.in_ok-list.ensures
    ∙ ap (λ (list : List ℤ). terms_of places (take (length list - 1) (drop 1 list))) split.1
    ∙ ap (terms_of places) (the_rest times rest) in
    let Shown : Option OwnShare → ℤ → List Term → ℤ → Type 0
    = λ s t list x. IsCanonicalSum n facts.history.now facts.protected.now facts.asked.now c.args.told.target s t list x ×
    ShowsTotal n facts.history.now facts.protected.now facts.asked.now c.args.told.target s t list x in
    let shown : Shown (share_for o (number_at rest (length places + 1))) times (terms_of places rest) own
    = shows n facts.protected.now.people.own facts.history.now facts.protected.now facts.asked.now o places form given.marks c.requires.few
    c.requires.independent c.args.told.target c.requires.first c.requires.spanned times rest
    (subst (AreMultipliers form.rows (set_row n group) n m) split.1 are) c.requires.at_most small in
    subst (λ s. Shown s (to_z w128 (of_z w128 (number_at items 0))) c.in_ok-list.list.items (to_z w128 (of_z w128 (number_at items (length places + 1)))))
    (sym share_is)
    (subst (λ t. Shown (share_for o (number_at rest (length places + 1))) t c.in_ok-list.list.items
    (to_z w128 (of_z w128 (number_at items (length places + 1))))) (sym times_is)
    (subst (λ list. Shown (share_for o (number_at rest (length places + 1))) times list (to_z w128 (of_z w128 (number_at items (length places + 1)))))
    (sym terms_is)
    (subst (λ x. Shown (share_for o (number_at rest (length places + 1))) times (terms_of places rest) x) (sym asked_is) shown)))
