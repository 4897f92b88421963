use Rattle.std.proofs.Common.{◌≡◌, ◌==◌, ℕ, ℤ, Some, arith, rules, w64, subst, sym, ◌∙◌}
use Rattle.std.specs.List.{position}
use Rattle.std.proofs.lemmas.Int.{to_z-of_z}
use Rattle.std.proofs.lemmas.List.{take_rest}
use Rattle.std.proofs.lemmas.Option.{same_Some}
use mir.Val.{SFits}
use Rattle.line_wire.specs.Reply.{IsReply}
use Rattle.line_wire.specs.declared.reply.Reply.TheVariants.{Avg}
use Rattle.line_wire.proofs.ReplyParts.{confirmed_is, missed, if_none, unconfirmed}
use Rattle.line_wire.proofs.Commas.{average_comma, average_front, average_rest}
use Rattle.line_wire.proofs.reply_reading.read_average.Goals as goal

pub returns-in_err-comma-clause-none : goal.returns-in_err-comma-clause-none
returns-in_err-comma-clause-none c = if_none c.from_residual.result (λ num den reply.
    missed c.first_comma.result _ c.in_err-comma.was
    (c.first_comma.ensures ∙ average_comma c.args.line.now num den (omega (arith, reply.range.within)) reply.bytes))

pub returns-in_err-num-clause-none : goal.returns-in_err-num-clause-none
returns-in_err-num-clause-none c = if_none c.from_residual-in_err-num.result (λ num den reply.
    missed c.number_between.result num c.in_err-num.was (c.number_between.ensures num (omega (arith, reply.range.within))
    (average_front c.args.line.now num den c.in_ok-comma.comma (omega (arith, reply.range.within)) reply.bytes
    (sym c.first_comma.ensures ∙ c.in_ok-comma.was))))

pub returns-in_err-den-clause-none : goal.returns-in_err-den-clause-none
returns-in_err-den-clause-none c = if_none c.from_residual-in_err-den.result (λ num den reply.
    missed c.size_between.result den c.in_err-den.was (c.size_between.ensures den (omega (arith, reply.range.people))
    (take_rest c.args.line.now c.in_ok-comma.comma ∙ average_rest c.args.line.now num den c.in_ok-comma.comma (omega (arith, reply.range.within)) reply.bytes
    (sym c.first_comma.ensures ∙ c.in_ok-comma.was))))

pub returns-clause-none : goal.returns-clause-none
returns-clause-none c = unconfirmed c.confirmed.result c.args.line.now _ c.confirmed.ensures (λ wrong num den reply.
    let fits : SFits w64 c.in_ok-num.num = search rules in
    let at : position (λ b. b == 44) c.args.line.now ≡ Some c.in_ok-comma.comma = sym c.first_comma.ensures ∙ c.in_ok-comma.was in
    let same_num : num ≡ c.in_ok-num.num = same_Some num c.in_ok-num.num
    (sym (c.number_between.ensures num (omega (arith, reply.range.within))
    (average_front c.args.line.now num den c.in_ok-comma.comma (omega (arith, reply.range.within)) reply.bytes at)) ∙ c.in_ok-num.was) in
    let same_den : den ≡ c.in_ok-den.den = same_Some den c.in_ok-den.den
    (sym (c.size_between.ensures den (omega (arith, reply.range.people))
    (take_rest c.args.line.now c.in_ok-comma.comma ∙ average_rest c.args.line.now num den c.in_ok-comma.comma
    (omega (arith, reply.range.within)) reply.bytes at)) ∙ c.in_ok-den.was) in
    wrong
    (simp to_z-of_z (subst (λ (n : ℕ). IsReply c.args.line.now (Avg c.in_ok-num.num n)) same_den
    (subst (λ (z : ℤ). IsReply c.args.line.now (Avg z den)) same_num reply))))

pub returns-clause-found : goal.returns-clause-found
returns-clause-found c = confirmed_is c.confirmed.result c.args.line.now _ c.confirmed.ensures
