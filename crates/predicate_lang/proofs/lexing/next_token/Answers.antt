use Rattle.std.proofs.Common.{rules, ◌≡◌, Err, sym, ◌∙◌, arith}
use Rattle.predicate_lang.proofs.Lexed.{lexed_from_end}
use Rattle.predicate_lang.proofs.NextToken.{IsFirst, next_is, refused_token_is}
use Rattle.predicate_lang.proofs.lexing.next_token.Goals as goal

pub returns-then-at-text : goal.returns-then-at-text
returns-then-at-text c =
    let same = rw c.as_bytes.ensures.value at c.skip_blanks-at.ensures.same in
    sym same ∙ lexed_from_end c.args.text.now c.skip_blanks-at.result (omega arith)

pub returns : goal.returns
returns c =
    let same = rw c.as_bytes.ensures.value at c.skip_blanks-at.ensures.same in
    let stopped = rw c.as_bytes.ensures.value at c.skip_blanks-at.ensures.stopped in
    let within = rw c.as_bytes.ensures.value at c.skip_blanks-at.ensures.within in
    let first : IsFirst c.args.text.now c.args.from c.skip_blanks-at.result = record {
      behind = c.skip_blanks-at.ensures.behind;
      inside = omega arith;
      solid = stopped (omega arith);
      same = same;
    } in
    next_is c.args.schema.now.columns c.args.text.now c.args.from c.skip_blanks-at.result c.in_ok-token_at.field-0 first
    c.in_ok-token_at.ensures.exact c.in_ok-token_at.ensures.within

pub returns-in_err-token_at : goal.returns-in_err-token_at
returns-in_err-token_at c =
    let same = rw c.as_bytes.ensures.value at c.skip_blanks-at.ensures.same in
    let stopped = rw c.as_bytes.ensures.value at c.skip_blanks-at.ensures.stopped in
    let within = rw c.as_bytes.ensures.value at c.skip_blanks-at.ensures.within in
    let first : IsFirst c.args.text.now c.args.from c.skip_blanks-at.result = record {
      behind = c.skip_blanks-at.ensures.behind;
      inside = omega arith;
      solid = stopped (omega arith);
      same = same;
    } in
    let fault : c.from_residual.result ≡ Err c.in_err-token_at.field-0.0 = search rules in
    rw fault
    (refused_token_is c.args.schema.now.columns c.args.text.now c.args.from c.skip_blanks-at.result c.in_err-token_at.field-0.0 first
    c.in_err-token_at.ensures.exact)
