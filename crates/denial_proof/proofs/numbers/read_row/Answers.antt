use Rattle.std.proofs.Common.{◌≡◌, ◌≤◌, ◌^◌, ℕ, ℤ, ◌+◌, ◌*◌, ◌++◌, ◌∷◌, [], ap, ◌∙◌, SFits, rules, arith}
use Rattle.std.specs.Prelude.{unsigned_abs}
use Rattle.std.specs.Int.{w128}
use Rattle.std.proofs.lemmas.Int.{to_z-of_z}
use Rattle.sum_basis.specs.Limits.{most_columns}
use Rattle.audit_types.specs.Truth.{number_at}
use Rattle.denial_proof.proofs.MultipliersRead.{read_push}
use Rattle.denial_proof.proofs.numbers.read_row.Goals as goal

-- a number within 2 ^ 56 is within 2 ^ 112 * most_columns
within_more : (x y : ℤ) → y ≡ x → unsigned_abs x ≤ 2 ^ 56 → unsigned_abs y ≤ 2 ^ 112 * most_columns
within_more x y is small = let same = ap unsigned_abs is in omega arith

pub loop-mark-preserved : goal.loop-mark-preserved
loop-mark-preserved c =
    let row = c.args.row.now in
    let numbers = c.loop-mark.numbers.items in
    let x = c.entry-in-loop-mark.result in
    let fits : SFits w128 x = search rules in
    let f : ℕ → ℤ = λ k. number_at row (c.args.n + k) in
    let items : c.push-in-loop-mark.new.self.items ≡ numbers ++ x ∷ [] = c.in_ok-push-2.ensures.items ∙ ap (λ z. numbers ++ z ∷ []) (to_z-of_z w128 x fits) in
    rw items (read_push (number_at row c.args.pivot) f c.loop-mark.mark numbers x c.loop-mark.invariant c.entry-in-loop-mark.ensures
    (within_more (number_at row (c.args.n + c.loop-mark.mark)) x c.entry-in-loop-mark.ensures (c.requires.small (c.args.n + c.loop-mark.mark))))
