use Rattle.std.proofs.Common.{◌≡◌, Bool, true, false, not, length, refl, arith, inl, inr}
use Rattle.std.proofs.lemmas.Bool.{cases_lt}
use Rattle.audit_types.specs.Truth.{number_at}
use Rattle.sum_basis.specs.Reach.{without_new}
use Rattle.sum_basis.proofs.Reaching.{nothing_past}
use Rattle.sum_basis.proofs.reach.is_near_whole.Goals as goal

is_false : (b : Bool) → not b ≡ true → b ≡ false
is_false true e = absurd cc
is_false false e = refl

not_true : (b : Bool) → (b ≡ true → ⊥) → not b ≡ true
not_true true e = absurd (e refl)
not_true false e = refl

pub returns : goal.returns
returns c =
    let new = c.args.new.now in
    let row = c.args.row.now in
    let f = without_new new (number_at row) in (
      λ yes j some. absurd (elim (cases_lt j (length row)) [
        | inl l ↦ some (c.loop-j.invariant.none (is_false _ yes) j (let ends = c.loop-j-test.false in omega arith))
        | inr past ↦ some (nothing_past (length row) new row j c.requires.new.0 past past)
      ]),
      λ near. not_true _ (λ met.
          let some = c.loop-j.invariant.some met in
          let q = near some.0 some.1 in
          elim (cases_lt q.0 (length row)) [
            | inl l ↦
                let far = c.loop-j.invariant.far q.0 (let ends = c.loop-j-test.false in omega arith) q.1 in
                let small = q.2 in
                omega arith
            | inr past ↦ q.1 (nothing_past (length row) new row q.0 c.requires.new.0 past past)
          ]),
    )
