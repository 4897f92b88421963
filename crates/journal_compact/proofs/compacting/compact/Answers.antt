use Rattle.std.proofs.Common.{rules, ◌≡◌, length}
use Rattle.journal_compact.specs.Compactions.{compact_line}
use Rattle.journal_compact.proofs.CompactSteps.{sent_whole, sent_front, writes_kept, sends_line}
use Rattle.journal_compact.proofs.compacting.compact.Goals as goal

-- ---- the line was sent

pub returns-in-Ok-clause-done : goal.returns-in-Ok-clause-done
returns-in-Ok-clause-done g c = λ told.
    let shape = c.shape-shape.ensures.shape in
    let line : c.as_bytes.result.now ≡ compact_line (length c.args.store.now.history) (length c.in_ok-list.list.items) = search rules in
    sent_whole _ _ _ _ _ _ shape c.history-history.ensures.history c.deref.ensures.value c.in_ok-list.ensures.kept _ line _ _ _ _
    (c.in-Ok.ensures.done told) (c.in-Ok.ensures.written told) (c.in_ok-send-in-Ok.ensures.all told)

pub returns-in-Ok-clause-any_moment : goal.returns-in-Ok-clause-any_moment
returns-in-Ok-clause-any_moment g c = λ told unmade quiet.
    let shape = c.shape-shape.ensures.shape in
    writes_kept _ _ _ _ _ _ shape c.history-history.ensures.history c.deref.ensures.value c.in_ok-list.ensures.kept g.B.Bench _ _ _
    (c.write_whole.ensures.any_moment told unmade quiet)

pub returns-in-Ok-clause-sending : goal.returns-in-Ok-clause-sending
returns-in-Ok-clause-sending g c = λ told quiet.
    let shape = c.shape-shape.ensures.shape in
    let line : c.as_bytes.result.now ≡ compact_line (length c.args.store.now.history) (length c.in_ok-list.list.items) = search rules in
    sends_line _ _ _ _ _ _ shape c.history-history.ensures.history c.deref.ensures.value c.in_ok-list.ensures.kept g.B.Bench _ line _ _
    (λ image sent was. g.met.B.Bench.only_now c.args.bench.now image sent was) quiet c.send.ensures.crash
    c.send.ensures.time

-- ---- the send failed

pub returns-in_err-send-in-Ok-clause-part : goal.returns-in_err-send-in-Ok-clause-part
returns-in_err-send-in-Ok-clause-part g c = λ told is.
    let shape = c.shape-shape.ensures.shape in
    let line : c.as_bytes.result.now ≡ compact_line (length c.args.store.now.history) (length c.in_ok-list.list.items) = search rules in
    sent_front _ _ _ _ _ _ shape c.history-history.ensures.history c.deref.ensures.value c.in_ok-list.ensures.kept _ line _ _ _ _
    (c.in-Ok.ensures.done told) (c.in-Ok.ensures.written told) (c.in_err-send-in-Ok.ensures.part told)

pub returns-in_err-send-in-Ok-clause-any_moment : goal.returns-in_err-send-in-Ok-clause-any_moment
returns-in_err-send-in-Ok-clause-any_moment g c = λ told unmade quiet.
    let shape = c.shape-shape.ensures.shape in
    writes_kept _ _ _ _ _ _ shape c.history-history.ensures.history c.deref.ensures.value c.in_ok-list.ensures.kept g.B.Bench _ _ _
    (c.write_whole.ensures.any_moment told unmade quiet)

pub returns-in_err-send-in-Ok-clause-sending : goal.returns-in_err-send-in-Ok-clause-sending
returns-in_err-send-in-Ok-clause-sending g c = λ told quiet.
    let shape = c.shape-shape.ensures.shape in
    let line : c.as_bytes.result.now ≡ compact_line (length c.args.store.now.history) (length c.in_ok-list.list.items) = search rules in
    sends_line _ _ _ _ _ _ shape c.history-history.ensures.history c.deref.ensures.value c.in_ok-list.ensures.kept g.B.Bench _ line _ _
    (λ image sent was. g.met.B.Bench.only_now c.args.bench.now image sent was) quiet c.send.ensures.crash
    c.send.ensures.time

-- ---- the journal wasn't written

pub returns-clause-any_moment : goal.returns-clause-any_moment
returns-clause-any_moment g c = λ told unmade quiet.
    let shape = c.shape-shape.ensures.shape in
    writes_kept _ _ _ _ _ _ shape c.history-history.ensures.history c.deref.ensures.value c.in_ok-list.ensures.kept g.B.Bench _ _ _
    (c.write_whole.ensures.any_moment told unmade quiet)
