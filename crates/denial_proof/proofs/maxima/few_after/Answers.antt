use Rattle.std.proofs.Common.{[], sym, ◌∙◌, arith}
use Rattle.std.specs.Int.{w128}
use Rattle.std.proofs.lemmas.Bool.{true≢false}
use Rattle.std.proofs.lemmas.Int.{to_z-of_z}
use Rattle.audit_types.specs.Headcount.{AreFew}
use Rattle.denial_proof.proofs.FewOutlook.{may_leave_few}
use Rattle.denial_proof.proofs.LeastFew.{some_after, none_after}
use Rattle.denial_proof.proofs.PossibleAnswers.{possible}
use Rattle.denial_proof.proofs.maxima.few_after.Goals as goal

pub returns-then-not-may_leave_few-clause-none : goal.returns-then-not-may_leave_few-clause-none
returns-then-not-may_leave_few-clause-none c = λ leaves.
    let told = rw (to_z-of_z w128 c.args.answer c.ranges.answer) at c.may_leave_few.ensures in
    true≢false
    (sym (told.1 (may_leave_few c.args.bounds.now.n c.args.bounds.now.answers c.args.people.now.people c.args.rows.now.list c.args.outlook.now
    c.args.answer c.requires.near c.requires.none_few c.requires.outlook leaves))
    ∙ c.if-not-may_leave_few.true)

pub returns-clause-some : goal.returns-clause-some
returns-clause-some c =
    let answer = to_z-of_z w128 c.args.answer c.ranges.answer in
    let people = c.args.people.now.people in
    let fewest = c.n.ensures.counted.fewest in
    let few_none : AreFew people [] [] = omega (arith, fewest) in
    let passes = (rw answer at c.may_leave_few.ensures).0 c.if-not-may_leave_few.false in
    some_after c.args.bounds.now.n people c.args.bounds.now.answers c.args.rows.now.list c.args.answer c.least_few.result
    (possible c.args.bounds.now.answers people c.args.rows.now.list c.args.outlook.now c.args.answer c.requires.near few_none c.requires.none_few
    c.requires.outlook passes)
    (rw answer at c.least_few.ensures)

pub returns-clause-none : goal.returns-clause-none
returns-clause-none c =
    none_after c.args.bounds.now.n c.args.people.now.people c.args.bounds.now.answers c.args.rows.now.list c.args.answer c.least_few.result
    (rw (to_z-of_z w128 c.args.answer c.ranges.answer) at c.least_few.ensures)
