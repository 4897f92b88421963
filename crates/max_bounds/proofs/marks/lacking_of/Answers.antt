use Rattle.std.proofs.Common.{ap, ◌∙◌, subst}
use Rattle.audit_types.specs.Rows.{complement, AreRows}
use Rattle.max_bounds.specs.Groups.{IsSample, AreGroups}
use Rattle.max_bounds.proofs.MarkedSets.{lacks_none, lacks_samples, lacks_touched, lacks_filled}
use Rattle.max_bounds.proofs.marks.lacking_of.Goals as goal

pub returns-then-sets-lt-MANY : goal.returns-then-sets-lt-MANY
returns-then-sets-lt-MANY c = lacks_none c.args.rows.now.n c.args.rows.now.list

pub returns-then-len-part : goal.returns-then-len-part
returns-then-len-part c = lacks_touched c.args.rows.now.n c.args.rows.now.list c.groups_of.result c.groups_of.type_inv c.groups_of.ensures

pub returns-then-len-part-2 : goal.returns-then-len-part-2
returns-then-len-part-2 c =
    let flipped = c.requires.others ∙ ap (λ n. complement n c.args.rows.now.list) c.requires.same_n in
    lacks_filled c.args.rows.now.n c.args.rows.now.list c.args.others.now.list c.groups_of-then-len-part-2.result
    (subst (λ n. AreRows n c.args.others.now.list) c.requires.same_n c.n-part.ensures.are_rows) flipped c.groups_of-then-len-part-2.ensures

pub returns : goal.returns
returns c =
    let flipped = c.requires.others ∙ ap (λ n. complement n c.args.rows.now.list) c.requires.same_n in
    lacks_samples c.args.rows.now.n c.args.rows.now.list c.args.others.now.list c.samples_of.result
    (subst (λ n. AreRows n c.args.others.now.list) c.requires.same_n c.n-part.ensures.are_rows) flipped
    (subst (λ n. AreGroups (IsSample n) c.args.others.now.list c.samples_of.result) c.requires.same_n c.samples_of.ensures)
