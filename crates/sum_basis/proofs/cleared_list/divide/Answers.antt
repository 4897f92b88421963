use Rattle.std.proofs.Common.{◌≡◌, ◌≤◌, ◌^◌, ℕ, ℤ, pos, sym, ap, ◌∙◌, subst, arith, rules, length-set}
use Rattle.std.specs.Prelude.{FitsSigned, unsigned_abs, ◌*ℤ◌}
use Rattle.std.specs.Int.{w128, ◌∣◌}
use mir.Val.{to_z, of_z}
use Rattle.std.proofs.lemmas.Int.{to_z-of_z}
use Rattle.std.proofs.lemmas.List.Elements.{All-from_recursion}
use Rattle.sum_basis.specs.declared.sparse.FreeEntry.{FreeEntry}
use Rattle.sum_basis.specs.Sparse.{scaled}
use Rattle.sum_basis.proofs.MergedNumbers.{passed}
use Rattle.sum_basis.proofs.ListContents.{one_more_scaled, all_scaled, entry_is, none}
use Rattle.sum_basis.proofs.cleared_list.divide.Goals.{In-loop-k}
use Rattle.sum_basis.proofs.cleared_list.divide.Goals as goal

pub quotient-value-requires-clause-divides : goal.quotient-value-requires-clause-divides
quotient-value-requires-clause-divides c =
    let here = entry_is c.loop-k.entries.items c.loop-k.k c.index.result.now (omega arith) c.index.ensures in
    let same = sym (c.loop-k.invariant.scaled.left c.loop-k.k (omega arith)) ∙ here in
    let value : FitsSigned w128 c.value.result = search rules in
    let all = All-from_recursion (λ (e : FreeEntry). c.args.by.now ∣ unsigned_abs e.value) c.args.entries.now.items c.requires.divides c.loop-k.k none
    (omega arith) in
    rw (passed c.value.result c.index.result.now.value value c.value.ensures) (subst (λ (e : FreeEntry). c.args.by.now ∣ unsigned_abs e.value) same all)

pub quotient-value-requires-clause-size : goal.quotient-value-requires-clause-size
quotient-value-requires-clause-size c =
    let here = entry_is c.loop-k.entries.items c.loop-k.k c.index.result.now (omega arith) c.index.ensures in
    let same = sym (c.loop-k.invariant.scaled.left c.loop-k.k (omega arith)) ∙ here in
    let value : FitsSigned w128 c.value.result = search rules in
    let all = All-from_recursion (λ (e : FreeEntry). unsigned_abs e.value ≤ 2 ^ 126) c.args.entries.now.items c.requires.size c.loop-k.k none (omega arith) in
    rw (passed c.value.result c.index.result.now.value value c.value.ensures) (subst (λ (e : FreeEntry). unsigned_abs e.value ≤ 2 ^ 126) same all)

multiple : (e : FreeEntry) (by q : ℤ) → e.value ≡ by *ℤ q → e ≡ scaled by (record { place = e.place; value = q })
multiple e by q is = ap (λ (x : ℤ). record { place = e.place; value = x }) is

pub loop-k-preserved : goal.loop-k-preserved
loop-k-preserved c =
    let here = entry_is c.loop-k.entries.items c.loop-k.k c.index.result.now (omega arith) c.index.ensures in
    let value : FitsSigned w128 c.value.result = search rules in
    let q : FitsSigned w128 c.quotient-value.result = search rules in
    let is = sym (passed c.value.result c.index.result.now.value value c.value.ensures) ∙ c.quotient-value.ensures
    ∙ ap (λ z. pos c.args.by.now *ℤ z) (sym (to_z-of_z w128 c.quotient-value.result q)) in
    let made = c.new.ensures ∙ ap (λ (p : ℕ). record { place = p; value = to_z w128 (of_z w128 c.quotient-value.result) }) c.place.ensures in
    record {
      scaled =
          one_more_scaled c.args.entries.now.items c.loop-k.entries.items _ c.loop-k.k _ (omega arith) c.loop-k.invariant.scaled
          (here ∙ multiple c.index.result.now (pos c.args.by.now) (to_z w128 (of_z w128 c.quotient-value.result)) is ∙ ap (scaled (pos c.args.by.now))
          (sym made));
      length = length-set c.loop-k.entries.items c.loop-k.k _ ∙ c.loop-k.invariant.length;
      capacity = c.loop-k.invariant.capacity;
    }

pub returns-clause-scaled : goal.returns-clause-scaled
returns-clause-scaled c =
    all_scaled c.args.entries.now.items c.loop-k.entries.items (pos c.args.by.now) c.loop-k.k c.loop-k.invariant.length (omega arith) c.loop-k.invariant.scaled
