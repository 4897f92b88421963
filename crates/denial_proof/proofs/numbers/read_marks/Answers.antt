use Rattle.std.proofs.Common.{◌≡◌, ℕ, ℤ, ◌+◌, ◌++◌, ◌∷◌, [], ap, ◌∙◌, SFits, rules}
use Rattle.std.specs.Int.{w128}
use Rattle.std.proofs.lemmas.Int.{to_z-of_z}
use Rattle.audit_types.specs.Form.{combined}
use Rattle.denial_proof.proofs.MultipliersRead.{read_push}
use Rattle.denial_proof.proofs.numbers.read_marks.Goals as goal

pub loop-mark-preserved : goal.loop-mark-preserved
loop-mark-preserved c =
    let numbers = c.loop-mark.numbers.items in
    let x = c.number_at.result in
    let fits : SFits w128 x = search rules in
    let common = to_z-of_z w128 c.args.common c.ranges.common in
    let f : ℕ → ℤ = λ k. combined c.args.taken.now c.args.form.now.rows (c.args.n + k) in
    let items : c.push-in-loop-mark.new.self.items ≡ numbers ++ x ∷ [] = c.in_ok-push-2.ensures.items ∙ ap (λ z. numbers ++ z ∷ []) (to_z-of_z w128 x fits) in
    rw (items, common) (read_push c.args.common f c.loop-mark.mark numbers x
    (rw common at c.loop-mark.invariant) c.number_at.ensures.exact c.number_at.ensures.small)
