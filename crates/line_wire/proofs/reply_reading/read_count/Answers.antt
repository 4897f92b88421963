use Rattle.std.proofs.Common.{ℕ, arith, codes, decimal, subst, sym, ◌∙◌}
use Rattle.std.proofs.lemmas.Option.{same_Some}
use Rattle.line_wire.specs.Reply.{IsReply}
use Rattle.line_wire.specs.declared.reply.Reply.TheVariants.{Count}
use Rattle.line_wire.proofs.ReplyParts.{confirmed_is, numbered_line, missed, if_none, unconfirmed}
use Rattle.line_wire.proofs.reply_reading.read_count.Goals as goal

pub returns-in_err-count-clause-none : goal.returns-in_err-count-clause-none
returns-in_err-count-clause-none c = if_none c.from_residual.result (λ count reply.
    missed c.size_between.result count c.in_err-count.was
    (c.size_between.ensures count (omega (arith, reply.range)) (numbered_line c.args.line.now (codes "{\"count\":") (decimal count) reply.bytes)))

pub returns-clause-none : goal.returns-clause-none
returns-clause-none c = unconfirmed c.confirmed.result c.args.line.now _ c.confirmed.ensures (λ wrong count reply.
    wrong (subst (λ (n : ℕ). IsReply c.args.line.now (Count n))
    (same_Some count c.in_ok-count.count (sym (c.size_between.ensures count (omega (arith, reply.range))
    (numbered_line c.args.line.now (codes "{\"count\":") (decimal count) reply.bytes)) ∙ c.in_ok-count.was)) reply))

pub returns-clause-found : goal.returns-clause-found
returns-clause-found c = confirmed_is c.confirmed.result c.args.line.now _ c.confirmed.ensures
