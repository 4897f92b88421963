use Rattle.std.proofs.Common.{rules, arith, ap, ◌∙◌, ◌≡◌, ◌++◌, ◌∷◌, [], length, map, ◌+◌, length-append}
use Rattle.std.specs.List.{AllByRecursion}
use Rattle.bench_core.specs.Machine.{sending}
use Rattle.bench_core.specs.LogContents.{LogContents, call_of, IsKept}
use Rattle.bench_core.specs.declared.log.Past.TheVariants.{Sent}
use Rattle.bench_core.proofs.KeptCalls.{sent_grows, all_kept}
use Rattle.bench_core.proofs.log.Log.send.Goals as goal

pub returns : goal.returns
returns c =
    let inside = c.self.inside in
    let piece = c.args.piece.now in
    let kept : AllByRecursion (IsKept (length inside.pieces.items) (length inside.sent.items)) inside.past.items = search rules in
    let extended : c.extend_from_slice.new.self.items ≡ inside.sent.items ++ piece = search rules in
    let from_is : c.len-from.result ≡ length inside.sent.items = search rules in
    let pushed : c.keep.new.past.items ≡ inside.past.items ++ Sent c.len-from.result (length piece) ∷ [] = c.keep.ensures.items in
    let calls : map (call_of inside.pieces.items c.extend_from_slice.new.self.items) c.keep.new.past.items ≡ c.args.self.now.calls ++ sending piece ∷ [] =
    rw (pushed, from_is, extended) (sent_grows inside.pieces.items inside.sent.items piece inside.past.items kept
    ∙ ap (λ log. log.calls ++ sending piece ∷ []) c.self.view_is) in
    ap
    (λ k. record {
      calls = k;
      written = length inside.pieces.items;
      sent = c.extend_from_slice.new.self.items;
      most_calls = inside.most_calls;
      most_written = inside.most_written;
      most_sent = inside.most_sent;
    }) calls
    ∙ ap
    (λ s. record {
      calls = c.args.self.now.calls ++ sending piece ∷ [];
      written = length inside.pieces.items;
      sent = s;
      most_calls = inside.most_calls;
      most_written = inside.most_written;
      most_sent = inside.most_sent;
    }) extended
    ∙ ap
    (λ (log : LogContents). record {
      calls = c.args.self.now.calls ++ sending piece ∷ [];
      written = log.written;
      sent = log.sent ++ piece;
      most_calls = log.most_calls;
      most_written = log.most_written;
      most_sent = log.most_sent;
    }) c.self.view_is

pub invariant_of-self : goal.invariant_of-self
invariant_of-self c =
    let inside = c.self.inside in
    let kept = c.self.invariant in
    let piece = c.args.piece.now in
    let extended : c.extend_from_slice.new.self.items ≡ inside.sent.items ++ piece = search rules in
    let from_is : c.len-from.result ≡ length inside.sent.items = search rules in
    let longer : length c.extend_from_slice.new.self.items ≡ length inside.sent.items + length piece = ap length extended
    ∙ length-append inside.sent.items piece in (
      omega (arith, kept.0, c.keep.ensures.capacity),
      kept.1,
      search rules,
      rw c.keep.ensures.items (all_kept _ _ _ _ _ (Sent c.len-from.result (length c.args.piece.now)) (omega arith) (omega (arith, longer)) kept.3
          (omega (arith, longer, from_is))),
    )
