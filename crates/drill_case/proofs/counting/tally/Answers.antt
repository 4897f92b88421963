use Rattle.std.proofs.Common.{rules, tests, ℕ, Bool, cond, not, length, take, [], ◌∷◌, ◌++◌, sym, ap, ◌∙◌, subst, arith}
use Rattle.std.proofs.lemmas.Iterator.Consumers.{YieldsList-turn, YieldsList-end}
use Rattle.std.proofs.lemmas.Iterator.Splits.{YieldsList-from_slice_split}
use Rattle.std.proofs.lemmas.List.{length_push}
use Rattle.std.specs.List.{slice_split}
use Rattle.line_wire.specs.Lines.{is_feed}
use Rattle.drill_case.specs.Tallies.{HaveKinds}
use Rattle.drill_case.proofs.KindsInOrder.{lines_of, one_more_kind, no_more_kind, fewer_kinds, all_kinds}
use Rattle.drill_case.proofs.counting.tally.Goals as goal

pub count-requires : goal.count-requires
count-requires c =
    let next =
    YieldsList-turn (YieldsList-from_slice_split _ is_feed {f = tt {0}} c.args.sent.now (cc) (cc) (cc) (λ x r q k. search (rules, tests)))
    c.loop-line.yielded _ c.loop-line.yielded_by _ _ c.in-Some.line c.in-Some.is c.next.ensures.steps in
    let line = c.in-Some.line.now in
    let is = ap (λ (empty : Bool). cond (not empty) (line ∷ []) []) (sym c.is_empty.ensures ∙ c.if-not-is_empty.true) in
    let had = c.loop-line.invariant in
    let fewer = fewer_kinds (slice_split is_feed c.args.sent.now) (length c.loop-line.yielded) line had.kinds next is had.are in
    record { room = (had.kinds, had.counts, omega (arith, fewer, c.requires)) }

pub loop-line-preserved : goal.loop-line-preserved
loop-line-preserved c =
    let next =
    YieldsList-turn (YieldsList-from_slice_split _ is_feed {f = tt {0}} c.args.sent.now (cc) (cc) (cc) (λ x r q k. search (rules, tests)))
    c.loop-line.yielded _ c.loop-line.yielded_by _ _ c.in-Some.line c.in-Some.is c.next.ensures.steps in
    let line = c.in-Some.line.now in
    let is = ap (λ (empty : Bool). cond (not empty) (line ∷ []) []) (sym c.is_empty.ensures ∙ c.if-not-is_empty.false) in
    let parts = slice_split is_feed c.args.sent.now in
    let had = c.loop-line.invariant in
    record {
      kinds = had.kinds;
      are =
          subst (λ (n : ℕ). HaveKinds (lines_of (take n parts)) had.kinds) (sym (length_push c.loop-line.yielded c.in-Some.line))
          (no_more_kind parts (length c.loop-line.yielded) line had.kinds next is had.are);
      counts = had.counts;
    }

pub loop-line-preserved-then-not-is_empty : goal.loop-line-preserved-then-not-is_empty
loop-line-preserved-then-not-is_empty c =
    let next =
    YieldsList-turn (YieldsList-from_slice_split _ is_feed {f = tt {0}} c.args.sent.now (cc) (cc) (cc) (λ x r q k. search (rules, tests)))
    c.loop-line.yielded _ c.loop-line.yielded_by _ _ c.in-Some.line c.in-Some.is c.next.ensures.steps in
    let line = c.in-Some.line.now in
    let is = ap (λ (empty : Bool). cond (not empty) (line ∷ []) []) (sym c.is_empty.ensures ∙ c.if-not-is_empty.true) in
    let parts = slice_split is_feed c.args.sent.now in
    let kind = c.kind_of.result in
    let had = c.loop-line.invariant in
    record {
      kinds = had.kinds ++ kind ∷ [];
      are =
          subst (λ (n : ℕ). HaveKinds (lines_of (take n parts)) (had.kinds ++ kind ∷ [])) (sym (length_push c.loop-line.yielded c.in-Some.line))
          (one_more_kind parts (length c.loop-line.yielded) line had.kinds kind next is had.are c.kind_of.ensures);
      counts = c.count.ensures.counted had.kinds had.counts;
    }

pub returns : goal.returns
returns c =
    let end =
    YieldsList-end (YieldsList-from_slice_split _ is_feed {f = tt {0}} c.args.sent.now (cc) (cc) (cc) (λ x r q k. search (rules, tests)))
    c.loop-line.yielded _ c.loop-line.yielded_by _ _ c.in-None.is c.next.ensures.steps in
    let had = c.loop-line.invariant in
    record {
      kinds = had.kinds;
      are = all_kinds (slice_split is_feed c.args.sent.now) (length c.loop-line.yielded) had.kinds (sym end.1) had.are;
      counts = had.counts;
    }
