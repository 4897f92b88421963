use Rattle.std.proofs.Common.{sym, ◌∙◌, arith, rules}
use Rattle.set_index.proofs.Sets.{met_none, met_more}
use Rattle.set_index.proofs.asking.fill_rows_within.Goals as goal

pub loop-literal-init : goal.loop-literal-init
loop-literal-init c =
    record {
      n = c.requires.n;
      met = c.requires.empty ∙ sym (met_none c.args.index.now.public c.args.column);
    }

pub loop-literal-preserved : goal.loop-literal-preserved
loop-literal-preserved c = record {
  n = c.or_with.ensures.n ∙ c.loop-literal.invariant.n;
  met =
      met_more c.args.index.now.public c.args.column _ c.loop-literal.literal-index c.args.literals.now _ _ _ _ (omega arith)
      (search rules) c.loop-literal.invariant.n c.loop-literal.invariant.met c.fill_rows_where.ensures.rows c.or_with.ensures.either;
}
