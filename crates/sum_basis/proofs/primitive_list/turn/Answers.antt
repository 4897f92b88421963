use Rattle.std.proofs.Common.{◌≤◌, ◌^◌, ℕ, pos, sym, ap, ◌∙◌, subst, arith, rules, length-set}
use Rattle.std.specs.Prelude.{FitsSigned, unsigned_abs, neg_ℤ}
use Rattle.std.specs.Int.{w128}
use mir.Val.{to_z, of_z}
use Rattle.std.proofs.lemmas.Int.{to_z-of_z}
use Rattle.std.proofs.lemmas.List.Elements.{All-from_recursion}
use Rattle.sum_basis.specs.declared.sparse.FreeEntry.{FreeEntry}
use Rattle.sum_basis.proofs.MergedNumbers.{passed}
use Rattle.sum_basis.specs.Sparse.{scaled}
use Rattle.sum_basis.proofs.ListContents.{one_more_scaled, all_scaled, entry_is, none}
use Rattle.sum_basis.proofs.PrimitiveLists.{turned}
use Rattle.sum_basis.proofs.primitive_list.turn.Goals as goal

pub negative-value-requires : goal.negative-value-requires
negative-value-requires c =
    let here = entry_is c.loop-k.entries.items c.loop-k.k c.index.result.now (omega arith) c.index.ensures in
    let same = sym (c.loop-k.invariant.scaled.left c.loop-k.k (omega arith)) ∙ here in
    let value : FitsSigned w128 c.value.result = search rules in
    let all = All-from_recursion (λ (e : FreeEntry). unsigned_abs e.value ≤ 2 ^ 126) c.args.entries.now.items c.requires c.loop-k.k none (omega arith) in
    rw (passed c.value.result c.index.result.now.value value c.value.ensures) (subst (λ (e : FreeEntry). unsigned_abs e.value ≤ 2 ^ 126) same all)

pub loop-k-preserved : goal.loop-k-preserved
loop-k-preserved c =
    let here = entry_is c.loop-k.entries.items c.loop-k.k c.index.result.now (omega arith) c.index.ensures in
    let value : FitsSigned w128 c.value.result = search rules in
    let q : FitsSigned w128 c.negative-value.result = search rules in
    let is = to_z-of_z w128 c.negative-value.result q ∙ c.negative-value.ensures ∙ ap neg_ℤ
    (passed c.value.result c.index.result.now.value value c.value.ensures) in
    let made = c.new.ensures ∙ ap (λ (p : ℕ). record { place = p; value = to_z w128 (of_z w128 c.negative-value.result) }) c.place.ensures in
    record {
      scaled =
          one_more_scaled c.args.entries.now.items c.loop-k.entries.items _ c.loop-k.k _ (omega arith) c.loop-k.invariant.scaled
          (here ∙ turned c.index.result.now (to_z w128 (of_z w128 c.negative-value.result)) is ∙ ap (scaled (neg_ℤ (pos 1))) (sym made));
      length = length-set c.loop-k.entries.items c.loop-k.k _ ∙ c.loop-k.invariant.length;
      capacity = c.loop-k.invariant.capacity;
    }

pub returns-clause-scaled : goal.returns-clause-scaled
returns-clause-scaled c =
    all_scaled c.args.entries.now.items c.loop-k.entries.items (neg_ℤ (pos 1)) c.loop-k.k c.loop-k.invariant.length (omega arith) c.loop-k.invariant.scaled
