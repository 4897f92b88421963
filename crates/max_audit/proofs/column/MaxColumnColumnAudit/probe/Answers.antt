use Rattle.std.proofs.Common.{sym, ◌∙◌}
use Rattle.std.proofs.lemmas.Bool.{true≢false}
use Rattle.max_audit.proofs.Verdicts.{unsafe_is_right, released_is_right}
use Rattle.max_audit.proofs.column.MaxColumnColumnAudit.probe.Goals as goal

pub returns-then-leaves_few : goal.returns-then-leaves_few
returns-then-leaves_few c =
    let inside = c.self.inside in
    let right = unsafe_is_right inside.people inside.bounds c.self.invariant inside.width inside.reach c.args.self.now c.self.view_is c.args.rows.now.list
    c.args.rows.now.n c.n.ensures.are_rows c.requires.same_n c.requires.some (c.leaves_few.ensures.0 c.if-leaves_few.true) in
    record { judged = right.judged; decided = λ possible. right.decided; never_wide = λ wide. absurd cc }

pub returns-else-leaves_few : goal.returns-else-leaves_few
returns-else-leaves_few c =
    let inside = c.self.inside in
    let right = released_is_right inside.people inside.bounds c.self.invariant inside.width inside.reach c.args.self.now c.self.view_is c.args.rows.now.list
    c.args.rows.now.n c.n.ensures.are_rows c.requires.same_n c.requires.some
    (λ few. true≢false (sym (c.leaves_few.ensures.1 few) ∙ c.if-leaves_few.false)) in
    record { judged = right.judged; decided = λ possible. right.decided; never_wide = λ wide. absurd cc }
