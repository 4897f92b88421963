use Rattle.std.proofs.Common.{ap, ◌∙◌}
use Rattle.std.proofs.Math.Seq.{map-set_same}
use Rattle.audit_types.specs.ListLaws.{all-set}
use Rattle.sum_basis.specs.Holding.{IsKeptOf}
use Rattle.sum_basis.specs.declared.keeping.KeptSet.{KeptSet}
use Rattle.sum_basis.proofs.keeping.settle_all.Goals as goal

pub returns-in_err-settle-clause-are : goal.returns-in_err-settle-clause-are
returns-in_err-settle-clause-are c =
    map-set_same (λ (s : KeptSet). s.rows) c.loop-k.kept.items c.loop-k.k c.settle.new.kept c.index_mut.result.now
    (c.settle.ensures.rows ∙ ap (λ (s : KeptSet). s.rows) c.index_mut.ensures.value)
    ∙ c.loop-k.invariant.are

pub loop-k-preserved : goal.loop-k-preserved
loop-k-preserved c = record {
  kept = all-set (IsKeptOf c.args.form.now) c.loop-k.kept.items c.loop-k.k c.settle.new.kept c.loop-k.invariant.kept c.settle.ensures.kept;
  are =
      map-set_same (λ (s : KeptSet). s.rows) c.loop-k.kept.items c.loop-k.k c.settle.new.kept c.index_mut.result.now
      (c.settle.ensures.rows ∙ ap (λ (s : KeptSet). s.rows) c.index_mut.ensures.value)
      ∙ c.loop-k.invariant.are;
}
