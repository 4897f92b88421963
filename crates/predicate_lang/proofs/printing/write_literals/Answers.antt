use Rattle.std.proofs.Common.{◌∷◌, []}
use Rattle.std.specs.Prelude.{string_bytes}
use Rattle.std.proofs.lemmas.List.{take_rest}
use lib.Utf8.{encode}
use Rattle.predicate_lang.proofs.Pushes.{pushed, where_refused}
use Rattle.predicate_lang.proofs.Spaced.{last_literal, next_literal}
use Rattle.predicate_lang.proofs.printing.write_literals.Goals as goal

pub returns-after-loop-literal : goal.returns-after-loop-literal
unfolding encode
returns-after-loop-literal c =
    pushed c.push.result (string_bytes c.push.new.self) (string_bytes c.loop-literal.out) (41 ∷ []) _ c.push.ensures.bytes
    (last_literal (string_bytes c.args.out.now) (string_bytes c.write_literal.new.out)
    (string_bytes c.loop-literal.out) c.args.literals.now _ c.first-item.result c.loop-literal.literal-index
    c.in-len1-up.len_at_least c.first-item.is
    (take_rest c.args.literals.now 1) c.loop-literal-test.false c.in_ok-write_literal-in-len1-up.ensures c.loop-literal.invariant)

pub loop-literal-preserved : goal.loop-literal-preserved
loop-literal-preserved c =
    next_literal _ (string_bytes c.loop-literal.out) (string_bytes c.write_next.new.out) _ c.loop-literal.literal-index
    c.literal-item.result c.loop-literal-test.true c.literal-item.is c.in_ok-write_next-in-len1-up.ensures c.loop-literal.invariant

pub returns-in_err-write_literal-in-len1-up : goal.returns-in_err-write_literal-in-len1-up
returns-in_err-write_literal-in-len1-up c = where_refused c.from_residual.result _ c.from_residual.ensures.0

pub returns-in_err-write_next-in-len1-up : goal.returns-in_err-write_next-in-len1-up
returns-in_err-write_next-in-len1-up c = where_refused c.from_residual-in_err-write_next-in-len1-up.result _
    c.from_residual-in_err-write_next-in-len1-up.ensures.0
