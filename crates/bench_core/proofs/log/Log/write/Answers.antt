use Rattle.std.proofs.Common.{rules, arith, ap, ◌∙◌, ◌≡◌, ◌+◌, ◌++◌, ◌∷◌, [], length, map, length-append}
use Rattle.std.specs.List.{AllByRecursion}
use Rattle.bench_core.specs.Machine.{wrote}
use Rattle.bench_core.specs.LogContents.{LogContents, call_of, IsKept}
use Rattle.bench_core.specs.declared.log.Past.TheVariants.{Wrote}
use Rattle.bench_core.proofs.KeptCalls.{written_grows, all_kept}
use Rattle.bench_core.proofs.log.Log.write.Goals as goal

pub returns : goal.returns
returns c =
    let inside = c.self.inside in
    let piece = c.args.piece.now in
    let kept : AllByRecursion (IsKept (length inside.pieces.items) (length inside.sent.items)) inside.past.items = search rules in
    let extended : c.extend_from_slice.new.self.items ≡ inside.pieces.items ++ piece = search rules in
    let from_is : c.len-from.result ≡ length inside.pieces.items = search rules in
    let pushed : c.keep.new.past.items ≡ inside.past.items ++ Wrote c.args.at c.len-from.result (length piece) ∷ [] = c.keep.ensures.items in
    let calls : map (call_of c.extend_from_slice.new.self.items inside.sent.items) c.keep.new.past.items ≡ c.args.self.now.calls ++ wrote c.args.at piece ∷ [] =
    rw (pushed, from_is, extended) (written_grows inside.pieces.items inside.sent.items piece c.args.at inside.past.items kept
    ∙ ap (λ log. log.calls ++ wrote c.args.at piece ∷ []) c.self.view_is) in
    let longer : length c.extend_from_slice.new.self.items ≡ length inside.pieces.items + length piece = ap length extended
    ∙ length-append inside.pieces.items piece in
    ap
    (λ k. record {
      calls = k;
      written = length c.extend_from_slice.new.self.items;
      sent = inside.sent.items;
      most_calls = inside.most_calls;
      most_written = inside.most_written;
      most_sent = inside.most_sent;
    }) calls
    ∙ ap
    (λ n. record {
      calls = c.args.self.now.calls ++ wrote c.args.at piece ∷ [];
      written = n;
      sent = inside.sent.items;
      most_calls = inside.most_calls;
      most_written = inside.most_written;
      most_sent = inside.most_sent;
    }) longer
    ∙ ap
    (λ (log : LogContents). record {
      calls = c.args.self.now.calls ++ wrote c.args.at piece ∷ [];
      written = log.written + length piece;
      sent = log.sent;
      most_calls = log.most_calls;
      most_written = log.most_written;
      most_sent = log.most_sent;
    }) c.self.view_is

pub invariant_of-self : goal.invariant_of-self
invariant_of-self c =
    let inside = c.self.inside in
    let kept = c.self.invariant in
    let piece = c.args.piece.now in
    let extended : c.extend_from_slice.new.self.items ≡ inside.pieces.items ++ piece = search rules in
    let from_is : c.len-from.result ≡ length inside.pieces.items = search rules in
    let longer : length c.extend_from_slice.new.self.items ≡ length inside.pieces.items + length piece = ap length extended
    ∙ length-append inside.pieces.items piece in (
      omega (arith, kept.0, c.keep.ensures.capacity),
      search rules,
      kept.2,
      rw c.keep.ensures.items (all_kept _ _ _ _ _ (Wrote c.args.at c.len-from.result (length c.args.piece.now)) (omega (arith, longer)) (omega arith) kept.3
          (omega (arith, longer, from_is))),
    )
