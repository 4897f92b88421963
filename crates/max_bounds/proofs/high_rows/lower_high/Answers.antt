use Rattle.std.proofs.Common.{◌≡◌, ◌<◌, arith, ap, sym, ◌∙◌, subst, length, get_or}
use Rattle.audit_types.specs.Rows.{complement}
use Rattle.max_bounds.specs.Kept.{IsHigh}
use Rattle.audit_types.specs.ListLaws.{all-set, all-get_or}
use Rattle.max_bounds.proofs.high_rows.lower_high.Goals as goal

pub loop-kept-preserved : goal.loop-kept-preserved
loop-kept-preserved c =
    let i = c.loop-kept.kept-index in
    let n = c.args.rows.now.n in
    let within : c.loop-kept.kept-index < length c.loop-kept.high = omega (arith, c.loop-kept.auto.high) in
    let same = all-get_or (λ h. h.rows.n ≡ c.args.rows.now.n) c.loop-kept.high i c.kept-item.result c.loop-kept.invariant.same_n within in
    let others : c.flip.new.self.list ≡ complement c.flip.new.self.n c.args.rows.now.list = c.flip.ensures.others
    ∙ ap (λ m. complement m c.args.rows.now.list) (sym c.flip.ensures.n) in
    record {
      same_n = all-set (λ h. h.rows.n ≡ c.args.rows.now.n) c.loop-kept.high i c.lower_one.new.high c.loop-kept.invariant.same_n (c.lower_one.ensures.n ∙ same);
      stay = λ bound low all.
          let before = c.loop-kept.invariant.stay bound low all in
          let here = all-get_or (IsHigh n bound) c.loop-kept.high i c.kept-item.result before within in
          all-set (IsHigh n bound) c.loop-kept.high i c.lower_one.new.high before
          (subst (λ m. IsHigh m bound c.lower_one.new.high) c.flip.ensures.n
          (c.lower_one.ensures.high bound c.args.rows.now.list others low
          (subst (λ m. IsHigh m bound (get_or c.loop-kept.high i c.kept-item.result)) (sym c.flip.ensures.n) here)));
    }
