use Rattle.std.proofs.Common.{ℤ, arith, rules, w64, codes, subst, sym, ◌∙◌}
use Rattle.std.specs.Fmt.{signed_decimal}
use Rattle.std.proofs.lemmas.Int.{to_z-of_z}
use Rattle.std.proofs.lemmas.Option.{same_Some}
use mir.Val.{SFits}
use Rattle.line_wire.specs.Reply.{IsReply}
use Rattle.line_wire.specs.declared.reply.Reply.TheVariants.{Min}
use Rattle.line_wire.proofs.ReplyParts.{confirmed_is, numbered_line, missed, if_none, unconfirmed}
use Rattle.line_wire.proofs.reply_reading.read_min.Goals as goal

pub returns-in_err-min-clause-none : goal.returns-in_err-min-clause-none
returns-in_err-min-clause-none c = if_none c.from_residual.result (λ min reply.
    missed c.number_between.result min c.in_err-min.was
    (c.number_between.ensures min (omega (arith, reply.range)) (numbered_line c.args.line.now (codes "{\"min\":") (signed_decimal min) reply.bytes)))

pub returns-clause-none : goal.returns-clause-none
returns-clause-none c = unconfirmed c.confirmed.result c.args.line.now _ c.confirmed.ensures (λ wrong min reply.
    let fits : SFits w64 c.in_ok-min.min = search rules in
    wrong (simp to_z-of_z (subst (λ (z : ℤ). IsReply c.args.line.now (Min z))
    (same_Some min c.in_ok-min.min (sym (c.number_between.ensures min (omega (arith, reply.range))
    (numbered_line c.args.line.now (codes "{\"min\":") (signed_decimal min) reply.bytes)) ∙ c.in_ok-min.was)) reply)))

pub returns-clause-found : goal.returns-clause-found
returns-clause-found c = confirmed_is c.confirmed.result c.args.line.now _ c.confirmed.ensures
