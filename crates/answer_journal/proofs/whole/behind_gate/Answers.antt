use Rattle.std.proofs.Common.{List, ℕ, ◌++◌, ◌-◌, ap, ◌∙◌, take, drop, refl}
use Rattle.answer_journal.proofs.Gathering.{nothing_yet, one_group_more, all_gathered, header_front}
use Rattle.answer_journal.proofs.whole.behind_gate.Goals as goal

pub loop-at-init : goal.loop-at-init
loop-at-init c =
    nothing_yet c.args.shape.now c.args.list.now c.extend_from_slice.new.self.items
    (c.in_ok-extend_from_slice.ensures.items ∙ ap (λ (l : List ℕ). l ++ take 19 (drop 1 c.write_header.new.out)) c.new-bytes.ensures.items
    ∙ header_front c.args.shape.now c.write_header.new.out c.write_header.ensures.whole.eight c.write_header.ensures.bytes)

pub loop-at-preserved : goal.loop-at-preserved
loop-at-preserved c =
    one_group_more c.args.shape.now c.args.list.now c.loop-at.at c.min-end.result c.loop-at.bytes.items c.put_group.new.bytes.items c.in_ok-put_group.ensures.0
    (take (c.min-end.result - c.loop-at.at) (drop c.loop-at.at c.args.list.now)) c.loop-at.invariant c.loop-at-test.true c.min-end.ensures refl
    c.in_ok-put_group.ensures.1 c.in_ok-put_group.ensures.2

pub returns : goal.returns
returns c =
    all_gathered c.args.shape.now c.args.list.now c.loop-at.at c.loop-at.bytes.items c.push.new.self.items c.write_header.ensures.whole c.loop-at.invariant
    c.loop-at-test.false c.in_ok-push.ensures.items
