use Rattle.std.proofs.Common.{◌≡◌, ◌≤◌, get_or, set, arith, sym, ap, subst, ◌∙◌}
use Rattle.std.proofs.lemmas.List.Elements.{All-get_or}
use Rattle.audit_types.specs.declared.records.Answered.{Answered}
use Rattle.audit_types.specs.RowLaws.{AscendsFrom-wider}
use Rattle.audit_types.specs.Rows.{Rows}
use Rattle.answer_journal.proofs.Widened.{next_is, one_more}
use Rattle.answer_journal.proofs.reading.widen_all.Goals as goal

-- the set of the next record is over at most n rows
pub over-answered-requires-clause-rows : goal.over-answered-requires-clause-rows
over-answered-requires-clause-rows c =
    let i = c.loop-answered.answered-index in
    let old = c.args.list.now in
    let r = c.answered-item.result in
    let same : get_or c.loop-answered.list i r ≡ get_or old i r =
    ap (λ l. get_or l i r) c.loop-answered.invariant ∙ next_is c.args.n i old r (omega (arith, c.loop-answered-test.true)) in
    let below : (get_or old i r).rows.n ≤ c.args.n =
    All-get_or (λ (a : Answered). a.rows.n ≤ c.args.n) old i r (omega (arith, c.loop-answered-test.true)) c.requires.within in
    AscendsFrom-wider 0 _ c.args.n _ (subst (λ (a : Answered). a.rows.n ≤ c.args.n) (sym same) below) c.n.ensures.are_rows

pub loop-answered-preserved : goal.loop-answered-preserved
loop-answered-preserved c =
    let i = c.loop-answered.answered-index in
    let now = c.loop-answered.list in
    let old = c.args.list.now in
    let r = c.answered-item.result in
    let more = one_more c.args.n i old now r (omega (arith, c.loop-answered-test.true)) c.loop-answered.invariant in
    ap (λ (rows : Rows). set now i (record { column = (get_or now i r).column; rows = rows; answer = (get_or now i r).answer })) c.over-answered.ensures ∙ more
