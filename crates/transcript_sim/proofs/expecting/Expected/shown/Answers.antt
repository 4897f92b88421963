use Rattle.std.proofs.Common.{rules, tests, ◌≡◌, true, None, refl, sym, ◌∙◌, subst}
use Rattle.line_wire.specs.Lines.{text}
use Rattle.line_wire.specs.Reply.{IsReply}
use Rattle.line_wire.specs.declared.reply.Reply.{Reply}
use Rattle.line_wire.specs.contracts.reply.ReplyPartialEq.TheImpl.{ghosts}
use Rattle.transcript_sim.specs.declared.expecting.Expected.{Expected}
use Rattle.transcript_sim.specs.Verdicts.{AgreesWith}
use Rattle.transcript_sim.proofs.expecting.Expected.shown.Goals as goal

-- replies that compare equal are the same
same_reply : (a b : Reply) → ghosts.eq a b ≡ true → a ≡ b
same_reply a b is = search (rules, tests)

pub returns-in-Only : goal.returns-in-Only
returns-in-Only c =
    let same = same_reply c.in-Some.told c.in-Only.reply (sym c.eq.ensures ∙ c.if-eq.true) in
    subst (λ (expected : Expected). AgreesWith (text c.args.line.now) expected None) (sym c.in-Only.is)
    (subst (λ (reply : Reply). IsReply c.args.line.now reply) same c.in-Some.ensures.found, refl)

pub returns-in-Only-2 : goal.returns-in-Only-2
returns-in-Only-2 c = search (rules, tests)
