use Rattle.std.proofs.Common.{false, arith}
use Rattle.predicate_lang.proofs.Quotes.{with_front-nothing, plain_byte, doubled_quote, closed_last, closed_before, not_closed}
use Rattle.predicate_lang.specs.Tokens.{quoted}
use Rattle.predicate_lang.proofs.lexing.quoted.Goals.{else-at-rest-via-then-at-rest+else-rest-at-eq39, else-at-rest-via-else-at-rest}
use Rattle.predicate_lang.proofs.lexing.quoted.Goals as goal

pub bytes-init : goal.bytes-init
bytes-init c = record { within = omega arith; same = rw c.new-list.ensures.items (with_front-nothing (quoted false c.args.rest.now)) }

pub bytes-preserved-then-byte-ne39 : goal.bytes-preserved-then-byte-ne39
bytes-preserved-then-byte-ne39 c = record {
  within = omega arith;
  same = plain_byte c.args.rest.now c.bytes.list.items _ c.bytes.at (omega arith) c.if-byte-ne39.true c.in_ok-push.ensures.items c.bytes.invariant.same;
}

pub bytes-preserved : goal.bytes-preserved
bytes-preserved c = record {
  within = omega arith;
  same =
      doubled_quote c.args.rest.now c.bytes.list.items _ c.bytes.at (omega arith)
      (omega arith) c.if-rest-at-eq39.true c.in_ok-push-2.ensures.items c.bytes.invariant.same;
}

pub returns-else-at-rest-clause-exact : goal.returns-else-at-rest-clause-exact
returns-else-at-rest-clause-exact c =
    let rest = c.args.rest.now in
    elim c.else-at-rest.branch [
      | else-at-rest-via-then-at-rest+else-rest-at-eq39 w ↦
          closed_before rest c.bytes.list.items c.bytes.at w.if-at-rest.true c.if-byte-ne39.false w.if-rest-at-eq39.false c.bytes.invariant.same
      | else-at-rest-via-else-at-rest w ↦ closed_last rest c.bytes.list.items c.bytes.at c.bytes-test.true w.if-at-rest.false c.if-byte-ne39.false
          c.bytes.invariant.same
    ]

pub returns-else-at-rest-clause-within : goal.returns-else-at-rest-clause-within
returns-else-at-rest-clause-within c = let inside = c.bytes-test.true in omega arith

pub returns-clause-exact : goal.returns-clause-exact
returns-clause-exact c = not_closed c.args.rest.now c.bytes.list.items c.bytes.at c.bytes-test.false c.bytes.invariant.same
