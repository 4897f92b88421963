use Rattle.std.proofs.Common.{rules, ◌≡◌, ◌<◌, ◌≤◌, ◌+◌, length, None, Err, arith, sym, subst}
use Rattle.predicate_lang.specs.Tokens.{lexed_from, no_tokens}
use Rattle.predicate_lang.specs.Lexing.{IsNext}
use Rattle.predicate_lang.specs.Machine.{built, put}
use Rattle.predicate_lang.specs.Building.{build_of}
use Rattle.predicate_lang.specs.Reads.{HasRead}
use Rattle.predicate_lang.proofs.LeastPlace.{more_read, unfit_there, too_many_there, no_token_there, unfinished_there, finished_there}
use Rattle.predicate_lang.proofs.Refusals.{refused_put, refused_finish, refused_token}
use Rattle.predicate_lang.proofs.reading.take_token.Goals as goal

pub returns-in_err-token : goal.returns-in_err-token
returns-in_err-token c =
    let fault : c.from_residual.result ≡ Err c.in_err-token.field-0.0 = search rules in
    rw fault
    (refused_token c.args.schema.now.columns c.args.text.now c.args.from c.in_err-token.field-0.0 c.in_err-token.ensures
    (λ n. no_token_there c.args.schema.now.columns c.args.text.now c.args.from c.args.count n (build_of c.args.state.now) c.requires.read c.requires.few))

pub returns-then-count-eq-MOST_TOKENS : goal.returns-then-count-eq-MOST_TOKENS
returns-then-count-eq-MOST_TOKENS c =
    let next : IsNext c.args.schema.now.columns c.args.text.now c.args.from c.in-Some.field-0 = rw c.in-Some.is at c.in_ok-token.ensures in
    too_many_there c.args.schema.now.columns c.args.text.now c.args.from c.args.count
    (build_of c.args.state.now) c.in-Some.field-0 c.requires.read c.if-count-eq-MOST_TOKENS.true next

pub returns-in_err-put-in-Some : goal.returns-in_err-put-in-Some
returns-in_err-put-in-Some c =
    let next : IsNext c.args.schema.now.columns c.args.text.now c.args.from c.in-Some.field-0 = rw c.in-Some.is at c.in_ok-token.ensures in
    let fault : c.from_residual-in_err-put-in-Some.result ≡ Err c.in_err-put-in-Some.field-0.0 = search rules in
    rw fault
    (refused_put c.args.schema.now.columns c.args.text.now _
    (put (build_of c.args.state.now) c.in-Some.field-0.token) c.in-Some.field-0.at c.in_err-put-in-Some.field-0.0 _ c.in_err-put-in-Some.ensures
    (unfit_there c.args.schema.now.columns c.args.text.now c.args.from c.args.count
    (build_of c.args.state.now) c.in-Some.field-0 c.requires.read c.requires.few next))

pub returns-in_ok-put-in-Some : goal.returns-in_ok-put-in-Some
returns-in_ok-put-in-Some c =
    let next : IsNext c.args.schema.now.columns c.args.text.now c.args.from c.in-Some.field-0 = rw c.in-Some.is at c.in_ok-token.ensures in
    let longer : c.in-Some.field-0.at < c.in-Some.field-0.end = next.longer in
    let behind : c.args.from ≤ c.in-Some.field-0.at = next.behind in
    let goes = more_read c.args.schema.now.columns c.args.text.now c.args.from c.args.count
    (build_of c.args.state.now) c.in-Some.field-0 c.requires.read next c.in_ok-put-in-Some.ensures.0 in
    record {
      read = subst (HasRead c.args.schema.now.columns c.args.text.now c.in-Some.field-0.end (c.args.count + 1)) (sym c.in_ok-put-in-Some.ensures.1) goes;
      longer = omega (arith, longer, behind);
      within = next.within;
      few = omega arith;
    }

pub returns-in_err-finish-in-None : goal.returns-in_err-finish-in-None
returns-in_err-finish-in-None c =
    let end : lexed_from c.args.text.now c.args.from ≡ no_tokens None = rw c.in-None.is at c.in_ok-token.ensures in
    let fault : c.from_residual-in_err-finish-in-None.result ≡ Err c.in_err-finish-in-None.field-0.0 = search rules in
    rw fault
    (refused_finish c.args.schema.now.columns c.args.text.now (built (build_of c.args.state.now))
    (length c.args.text.now) c.in_err-finish-in-None.field-0.0 c.in_err-finish-in-None.ensures
    (unfinished_there c.args.schema.now.columns c.args.text.now c.args.from c.args.count (build_of c.args.state.now) c.requires.read c.requires.few end))

pub returns-in_ok-finish-in-None : goal.returns-in_ok-finish-in-None
returns-in_ok-finish-in-None c =
    let end : lexed_from c.args.text.now c.args.from ≡ no_tokens None = rw c.in-None.is at c.in_ok-token.ensures in
    finished_there c.args.schema.now.columns c.args.text.now c.args.from c.args.count
    (build_of c.args.state.now) _ c.requires.read c.requires.few end c.in_ok-finish-in-None.ensures
