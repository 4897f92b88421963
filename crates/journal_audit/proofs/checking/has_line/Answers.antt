use Rattle.std.proofs.Common.{◌≡◌, not, ◌∙◌, ap, sym, arith, inl}
use Rattle.audit_types.specs.Headcount.{own_of}
use Rattle.sum_audit.specs.Sets.{sets_of}
use Rattle.journal_audit.proofs.RowLines.{guarded, outside_line, inside_line}
use Rattle.journal_audit.proofs.checking.has_line.Goals as goal

pub returns-in-Outside : goal.returns-in-Outside
returns-in-Outside c =
    let people = c.args.people.now.people in
    let few = guarded c.args.people.now.n people c.n.ensures.counted c.args.row c.shared.result.now.list c.has-shared.result c.shared.ensures.rows
    c.has-shared.ensures in
    outside_line people c.args.sums.now.n (sets_of c.args.sums.now.answers) c.args.row c.has-shared.result few
    (sym c.askers.ensures ∙ ap own_of c.in-Outside.is)

pub returns-then-not-shared : goal.returns-then-not-shared
returns-then-not-shared c =
    let people = c.args.people.now.people in
    let few = guarded c.args.people.now.n people c.n.ensures.counted c.args.row c.shared.result.now.list c.has-shared.result c.shared.ensures.rows
    c.has-shared.ensures in
    (λ yes. inl (few.1 c.if-not-shared.true), λ has. ap not c.if-not-shared.true)

pub returns-else-not-shared : goal.returns-else-not-shared
returns-else-not-shared c =
    let people = c.args.people.now.people in
    let few = guarded c.args.people.now.n people c.n.ensures.counted c.args.row c.shared.result.now.list c.has-shared.result c.shared.ensures.rows
    c.has-shared.ensures in
    let inside : people.own ≡ 1 = sym c.askers.ensures ∙ ap own_of c.in-Inside.is in
    inside_line people c.args.sums.now.n (sets_of c.args.sums.now.answers) c.args.row c.has-shared.result few
    c.if-not-shared.false (omega (arith, inside)) c.is_pinned.result c.is_pinned.ensures
