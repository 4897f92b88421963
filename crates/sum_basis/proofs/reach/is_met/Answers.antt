use Rattle.std.proofs.Common.{◌≡◌, ℕ, ◌<◌, Bool, true, false, not, pos, length, get_or, refl, sym, ◌∙◌, arith, rules}
use Rattle.std.specs.Prelude.{FitsSigned}
use Rattle.std.specs.Int.{w128}
use Rattle.std.proofs.lemmas.Int.{to_z-of_z}
use Rattle.std.proofs.lemmas.Bool.{false≢true, eq-eqb}
use Rattle.audit_types.specs.Truth.{number_at}
use Rattle.sum_basis.proofs.MergedNumbers.{passed}
use Rattle.sum_basis.proofs.ListContents.{none}
use Rattle.sum_basis.proofs.Reaching.{as_products}
use Rattle.sum_basis.proofs.SmallEntries.{entry_small}
use Rattle.sum_basis.proofs.SparseRows.{listed_to}
use Rattle.sum_basis.proofs.reach.is_met.Goals as goal

pub value_at-requires : goal.value_at-requires
value_at-requires c = listed_to 0 (length c.args.row.now) 65536 c.args.new.now (omega (arith, c.requires.at_most)) c.requires.new.0

pub are_equal_products-requires-clause-times : goal.are_equal_products-requires-clause-times
are_equal_products-requires-clause-times c =
    let fits : FitsSigned w128 c.value_at.result = search rules in
    rw (to_z-of_z w128 c.value_at.result fits, c.value_at.ensures) (entry_small (length c.args.row.now) c.args.new.now c.args.place c.requires.new)

both_ways : (b : Bool) → not b ≡ true → b ≡ true → ⊥
both_ways true e h = absurd cc
both_ways false e h = absurd cc

not_true : (b : Bool) → (b ≡ true → ⊥) → not b ≡ true
not_true true e = absurd (e refl)
not_true false e = refl

some_entry : (len : ℕ) → (len ≡ 0 → ⊥) → 0 < len
some_entry len some = omega arith

pub returns : goal.returns
returns c =
    let new = c.args.new.now in
    let row = c.args.row.now in
    let value : FitsSigned w128 c.number.result = search rules in
    let here : FitsSigned w128 (get_or row c.args.place (pos 0)) = search rules in
    let entry : FitsSigned w128 c.value_at.result = search rules in
    let there : FitsSigned w128 (get_or row (get_or new 0 (record { place = 0; value = pos 0 })).place (pos 0)) = search rules in
    let told =
    rw (
      passed c.number.result (get_or new 0 none).value value c.number.ensures,
      to_z-of_z w128 (get_or row c.args.place (pos 0)) here,
      to_z-of_z w128 c.value_at.result entry,
      to_z-of_z w128 (get_or row (get_or new 0 none).place (pos 0)) there,
      c.value_at.ensures,
    )
    at c.are_equal_products.ensures in
    let is = as_products new (number_at row) c.args.place none
    (some_entry (length new) (λ e. false≢true (sym c.if-is_empty.false ∙ c.is_empty.ensures ∙ eq-eqb (length new) 0 e))) in (
      λ yes zero. both_ways c.are_equal_products.result yes (told.1 (sym is ∙ zero)),
      λ some. not_true c.are_equal_products.result (λ e. some (is ∙ told.0 e)),
    )
