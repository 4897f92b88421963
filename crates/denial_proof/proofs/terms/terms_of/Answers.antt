use Rattle.std.proofs.Common.{◌≡◌, ◌<◌, pos, get_or, List, ◌++◌, ◌∷◌, [], length, ap, SFits, rules, arith, of_z}
use Rattle.std.specs.Int.{w128}
use Rattle.std.proofs.lemmas.Int.{to_z-of_z}
use Rattle.audit_types.specs.Truth.{is_zero}
use Rattle.denial_proof.specs.declared.proof_parts.Term.{Term}
use Rattle.audit_types.specs.Numbers.{test_of_not_zero}
use Rattle.int_rows.specs.PrimitiveLaws.{zero_from_bits}
use Rattle.denial_proof.proofs.TermsSoFar.{no_term, one_term}
use Rattle.denial_proof.proofs.terms.terms_of.Goals.{then-numbers-k-ne0+in_ok-push, else-numbers-k-ne0}
use Rattle.denial_proof.proofs.terms.terms_of.Goals as goal

pub loop-k-preserved : goal.loop-k-preserved
loop-k-preserved c =
    let places = c.args.places.now in
    let numbers = c.args.numbers.now in
    let k = c.loop-k.k in
    let x = get_or numbers k (pos 0) in
    let fits : SFits w128 x = search rules in
    let before : List Term = c.loop-k.terms.items in
    let within : k < length numbers = omega arith in
    elim c.if-numbers-k-ne0.branch [
      | then-numbers-k-ne0+in_ok-push w ↦
          let term : Term = record { place = get_or places k 0; times = x } in
          let value = to_z-of_z w128 x fits in
          let pushed = w.in_ok-push.ensures.items in
          let same = ap (λ v. v.items) w.terms-is in
          let items : c.if-numbers-k-ne0.terms.items ≡ before ++ term ∷ [] = cc in
          rw items (one_term places numbers k before c.loop-k-test.true within c.loop-k.invariant
          (test_of_not_zero x (λ e. w.if-numbers-k-ne0.true (ap (of_z w128) e))))
      | else-numbers-k-ne0 w ↦
          let items : c.if-numbers-k-ne0.terms.items ≡ before = ap (λ v. v.items) w.terms-is in
          rw items (no_term places numbers k before c.loop-k-test.true within c.loop-k.invariant (ap is_zero (zero_from_bits x fits w.if-numbers-k-ne0.false)))
    ]
