use Rattle.std.proofs.Common.{ℤ, arith, rules, w64, codes, subst, sym, ◌∙◌}
use Rattle.std.specs.Fmt.{signed_decimal}
use Rattle.std.proofs.lemmas.Int.{to_z-of_z}
use Rattle.std.proofs.lemmas.Option.{same_Some}
use mir.Val.{SFits}
use Rattle.line_wire.specs.Reply.{IsReply}
use Rattle.line_wire.specs.declared.reply.Reply.TheVariants.{Max}
use Rattle.line_wire.proofs.ReplyParts.{confirmed_is, numbered_line, missed, if_none, unconfirmed}
use Rattle.line_wire.proofs.reply_reading.read_max.Goals as goal

pub returns-in_err-max-clause-none : goal.returns-in_err-max-clause-none
returns-in_err-max-clause-none c = if_none c.from_residual.result (λ max reply.
    missed c.number_between.result max c.in_err-max.was
    (c.number_between.ensures max (omega (arith, reply.range)) (numbered_line c.args.line.now (codes "{\"max\":") (signed_decimal max) reply.bytes)))

pub returns-clause-none : goal.returns-clause-none
returns-clause-none c = unconfirmed c.confirmed.result c.args.line.now _ c.confirmed.ensures (λ wrong max reply.
    let fits : SFits w64 c.in_ok-max.max = search rules in
    wrong (simp to_z-of_z (subst (λ (z : ℤ). IsReply c.args.line.now (Max z))
    (same_Some max c.in_ok-max.max (sym (c.number_between.ensures max (omega (arith, reply.range))
    (numbered_line c.args.line.now (codes "{\"max\":") (signed_decimal max) reply.bytes)) ∙ c.in_ok-max.was)) reply)))

pub returns-clause-found : goal.returns-clause-found
returns-clause-found c = confirmed_is c.confirmed.result c.args.line.now _ c.confirmed.ensures
