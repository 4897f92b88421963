use Rattle.std.proofs.Common.{ap, subst}
use Rattle.audit_core.specs.Columns.{IsColumnAt}
use Rattle.max_bounds.specs.Maxima.{Maxima}
use Rattle.implied_records.proofs.OwnColumn.{sum_follows, maximum_follows}
use Rattle.implied_records.proofs.following.follows.Goals as goal

pub returns-in-Sum : goal.returns-in-Sum
returns-in-Sum c =
    let part = subst (IsColumnAt c.args.core.now c.args.asked.now.column) c.in-Sum.is c.column.ensures in
    let both = sum_follows c.args.core.now c.args.asked.now.column c.args.asked.now.rows.list c.in-Sum.sums.now part
    c.basis.result.now.rows c.basis.result.now.n c.basis.ensures.n c.basis.ensures.form in
    (λ yes. both.0 (c.contains.ensures.0 yes), λ follows. c.contains.ensures.1 (both.1 follows))

pub returns-in-Max : goal.returns-in-Max
returns-in-Max c =
    let part = subst (IsColumnAt c.args.core.now c.args.asked.now.column) c.in-Max.is c.column.ensures in
    let both = maximum_follows c.args.core.now c.args.asked.now.column c.args.asked.now.rows.list c.in-Max.maxima.now part
    c.bounds.result.now.answers (ap (λ (m : Maxima). m.answers) c.bounds.ensures.exact) in
    (λ yes. both.0 (c.is_forced_to_one.ensures.0 yes), λ follows. c.is_forced_to_one.ensures.1 (both.1 follows))
