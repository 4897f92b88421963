use Rattle.std.proofs.Common.{sym, ap, ◌∙◌, subst, to_z, of_z}
use Rattle.std.specs.Int.{w64}
use Rattle.std.specs.List.{AllByRecursion}
use Rattle.audit_types.specs.Rows.{has_row}
use Rattle.max_bounds.specs.Reaching.{bound_at}
use Rattle.max_bounds.specs.Kept.{is_at_least, IsHigh}
use Rattle.max_bounds.specs.RowListLaws.{has-filter}
use Rattle.max_bounds.proofs.HighRows.{all_inserted, of_either}
use Rattle.max_bounds.proofs.high_rows.insert_high.Goals as goal

pub returns-in-Some : goal.returns-in-Some
returns-in-Some c =
    let P = IsHigh c.args.n (bound_at c.args.upper.now) in
    subst (AllByRecursion P) (sym c.insert.ensures.items) (of_either P _ _ _
    (all_inserted P c.args.high.now.items c.in-Some.place _ c.requires.high (record {
      same_n = c.reach_high-rows.ensures.extremes_n ∙ c.all_rows.ensures.same_n;
      covers = λ r below passes. ap (λ l. has_row l r) c.reach_high-rows.ensures.extremes
          ∙ has-filter (λ q. is_at_least (to_z w64 (of_z w64 c.args.cut)) (bound_at c.args.upper.now q)) c.all_rows.result.list r
          (c.all_rows.ensures.all r below) passes;
    }))
    c.requires.high)
