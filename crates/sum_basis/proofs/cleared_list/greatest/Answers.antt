use Rattle.std.proofs.Common.{◌≡◌, ◌≤◌, length, take, get_or, sym, ap, ◌∙◌, subst, arith, rules}
use Rattle.std.specs.Prelude.{FitsSigned, unsigned_abs}
use Rattle.std.specs.Int.{w128}
use Rattle.std.specs.List.{AllByRecursion}
use Rattle.std.proofs.lemmas.List.{take_more}
use Rattle.std.proofs.Math.Seq.{take-length}
use Rattle.sum_basis.specs.declared.sparse.FreeEntry.{FreeEntry}
use Rattle.sum_basis.proofs.MergedNumbers.{passed}
use Rattle.sum_basis.proofs.ListContents.{none}
use Rattle.sum_basis.proofs.cleared_list.greatest.Goals as goal
use Rattle.audit_types.specs.ListLaws.{all-push, all-front, all-weaker}

pub loop-e-preserved : goal.loop-e-preserved
loop-e-preserved c =
    let e = get_or c.args.entries.now c.loop-e.e-index none in
    let fits : FitsSigned w128 c.number.result = search rules in
    let size = c.unsigned_abs.ensures.value ∙ ap unsigned_abs (passed c.number.result e.value fits c.number.ensures) in
    let old = c.greater-most.ensures.first in
    let now = c.greater-most.ensures.second in
    let before = take c.loop-e.e-index c.args.entries.now in
    let more = take_more c.args.entries.now c.loop-e.e-index none c.loop-e-test.true in
    record {
      values = rw more
          (all-push (λ (x : FreeEntry). unsigned_abs x.value ≤ c.greater-most.result) before e
          (all-weaker (λ (x : FreeEntry). unsigned_abs x.value ≤ c.loop-e.most) (λ (x : FreeEntry). unsigned_abs x.value ≤ c.greater-most.result)
          (λ x h. omega arith) before c.loop-e.invariant.values) (omega arith));
      least = λ m all.
          let parts = all-front (λ (x : FreeEntry). unsigned_abs x.value ≤ m) before e
          (subst (AllByRecursion (λ (x : FreeEntry). unsigned_abs x.value ≤ m)) more all) in
          let here = parts.1 in
          c.greater-most.ensures.least m (c.loop-e.invariant.least m parts.0) (omega arith);
    }

pub returns-clause-least : goal.returns-clause-least
returns-clause-least c =
    let entries = c.args.entries.now in
    let end : length entries ≡ c.loop-e.e-index = omega arith in
    λ m all. c.loop-e.invariant.least m
    (subst (λ k. AllByRecursion (λ (x : FreeEntry). unsigned_abs x.value ≤ m) (take k entries)) end
    (subst (AllByRecursion (λ (x : FreeEntry). unsigned_abs x.value ≤ m)) (sym (take-length entries)) all))
