use Rattle.std.proofs.Common.{◌<◌, ◌∙◌, ap, subst, ℤ, List}
use Rattle.max_audit.specs.Witnesses.{highest}
use Rattle.journal_audit.specs.Texts.{bound_line}
use Rattle.journal_audit.proofs.RowLines.{guarded}
use Rattle.journal_audit.proofs.checking.write_column.Goals as goal

pub returns : goal.returns
returns c =
    let high = c.deref.ensures.value ∙ c.in_ok-numbers.ensures.exact ∙ ap (λ b. highest b.n b.answers) c.bounds-bounds.ensures.exact in
    c.in_ok-write_bounds.ensures ∙ ap (λ (l : List ℤ). bound_line c.args.least c.args.name.now l) high

pub check_row-requires-clause-row : goal.check_row-requires-clause-row
check_row-requires-clause-row c = subst (λ n. c.loop-row.row < n) (c.n-row-end.ensures.exact ∙ ap (λ b. b.n) c.bounds-bounds.ensures.exact) c.loop-row-test.true

pub check_row-requires-clause-free : goal.check_row-requires-clause-free
check_row-requires-clause-free c =
    let few = guarded c.args.people.now.n c.args.people.now.people c.n.ensures.counted c.loop-row.row c.shared.result.now.list c.has.result
    c.shared.ensures.rows c.has.ensures in
    c.requires.free c.loop-row.row (subst (λ n. c.loop-row.row < n) (c.n-row-end.ensures.exact ∙ ap (λ b. b.n) c.bounds-bounds.ensures.exact)
    c.loop-row-test.true) (few.1 c.if-not-has.true)
