use Rattle.std.proofs.Common.{List, sym, subst, ◌∙◌}
use Rattle.audit_types.specs.declared.records.Answered.{Answered}
use Rattle.audit_types.specs.History.{FitsShape, Setting, known_of}
use Rattle.audit_types.specs.Judgement.{IsWithinWidth}
use Rattle.audit_store.proofs.LegalHistories.{legal_record_after}
use Rattle.audit_store.proofs.bringing.take_all.Goals as goal

pub take-requires-clause-fits : goal.take-requires-clause-fits
take-requires-clause-fits g c =
    let r = c.answered-item.result in
    let i = c.loop-answered.invariant in
    let table = c.requires.0 in
    let legal = legal_record_after table c.args.sealed.now.core.history c.args.list.now c.loop-answered.answered-index r c.requires.2 c.loop-answered-test.true
    c.answered-item.is in
    subst (λ (s : Setting). FitsShape s.shape r.column r.rows) (c.requires.1 ∙ sym i.setting) legal.fits

pub take-requires-clause-narrow : goal.take-requires-clause-narrow
take-requires-clause-narrow g c =
    let r = c.answered-item.result in
    let i = c.loop-answered.invariant in
    let table = c.requires.0 in
    let legal = legal_record_after table c.args.sealed.now.core.history c.args.list.now c.loop-answered.answered-index r c.requires.2 c.loop-answered-test.true
    c.answered-item.is in
    subst (λ (s : Setting). IsWithinWidth (known_of s c.loop-answered.sealed.core.history r.column) r.rows.list) (c.requires.1 ∙ sym i.setting)
    (subst (λ (h : List Answered). IsWithinWidth (known_of table.setting h r.column) r.rows.list) (sym i.so_far) legal.released.0)
