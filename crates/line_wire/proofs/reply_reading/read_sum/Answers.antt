use Rattle.std.proofs.Common.{ℤ, arith, rules, w64, codes, subst, sym, ◌∙◌}
use Rattle.std.specs.Fmt.{signed_decimal}
use Rattle.std.proofs.lemmas.Int.{to_z-of_z}
use Rattle.std.proofs.lemmas.Option.{same_Some}
use mir.Val.{SFits}
use Rattle.line_wire.specs.Reply.{IsReply}
use Rattle.line_wire.specs.declared.reply.Reply.TheVariants.{Sum}
use Rattle.line_wire.proofs.ReplyParts.{confirmed_is, numbered_line, missed, if_none, unconfirmed}
use Rattle.line_wire.proofs.reply_reading.read_sum.Goals as goal

pub returns-in_err-sum-clause-none : goal.returns-in_err-sum-clause-none
returns-in_err-sum-clause-none c = if_none c.from_residual.result (λ sum reply.
    missed c.number_between.result sum c.in_err-sum.was
    (c.number_between.ensures sum (omega (arith, reply.range)) (numbered_line c.args.line.now (codes "{\"sum\":") (signed_decimal sum) reply.bytes)))

pub returns-clause-none : goal.returns-clause-none
returns-clause-none c = unconfirmed c.confirmed.result c.args.line.now _ c.confirmed.ensures (λ wrong sum reply.
    let fits : SFits w64 c.in_ok-sum.sum = search rules in
    wrong (simp to_z-of_z (subst (λ (z : ℤ). IsReply c.args.line.now (Sum z))
    (same_Some sum c.in_ok-sum.sum (sym (c.number_between.ensures sum (omega (arith, reply.range))
    (numbered_line c.args.line.now (codes "{\"sum\":") (signed_decimal sum) reply.bytes)) ∙ c.in_ok-sum.was)) reply)))

pub returns-clause-found : goal.returns-clause-found
returns-clause-found c = confirmed_is c.confirmed.result c.args.line.now _ c.confirmed.ensures
