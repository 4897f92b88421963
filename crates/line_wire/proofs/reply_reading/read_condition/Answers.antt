use Rattle.std.proofs.Common.{ℕ, arith, codes, decimal, subst, sym, ◌∙◌}
use Rattle.std.proofs.lemmas.Option.{same_Some}
use Rattle.line_wire.specs.Reply.{IsReply}
use Rattle.line_wire.specs.declared.reply.Reply.TheVariants.{Condition}
use Rattle.line_wire.proofs.ReplyParts.{confirmed_is, numbered_line, missed, if_none, unconfirmed}
use Rattle.line_wire.proofs.reply_reading.read_condition.Goals as goal

pub returns-in_err-at-clause-none : goal.returns-in_err-at-clause-none
returns-in_err-at-clause-none c = if_none c.from_residual.result (λ at reply.
    missed c.place_between.result at c.in_err-at.was
    (c.place_between.ensures at (omega (arith, reply.range)) (numbered_line c.args.line.now (codes "{\"refused\":\"where\",\"at\":") (decimal at) reply.bytes)))

pub returns-clause-none : goal.returns-clause-none
returns-clause-none c = unconfirmed c.confirmed.result c.args.line.now _ c.confirmed.ensures (λ wrong at reply.
    wrong (subst (λ (n : ℕ). IsReply c.args.line.now (Condition n))
    (same_Some at c.in_ok-at.at (sym (c.place_between.ensures at (omega (arith, reply.range))
    (numbered_line c.args.line.now (codes "{\"refused\":\"where\",\"at\":") (decimal at) reply.bytes)) ∙ c.in_ok-at.was)) reply))

pub returns-clause-found : goal.returns-clause-found
returns-clause-found c = confirmed_is c.confirmed.result c.args.line.now _ c.confirmed.ensures
