-- A call that is kept means the same when more pieces join.
use Rattle.std.proofs.Common.{◌≡◌, ℕ, ◌+◌, ◌≤◌, List, [], ◌∷◌, ◌++◌, length, take, drop, map, refl, ap, ◌∙◌, arith, length-drop}
use Rattle.std.specs.List.{AllByRecursion}
use Rattle.std.proofs.Math.Seq.{take-length}
use Rattle.std.proofs.lemmas.List.{take-append-le, drop-append-le, drop_at, map_push, append-nil}
use Rattle.bench_core.specs.Machine.{wrote, sending}
use Rattle.bench_core.specs.declared.log.Past.{Past}
use Rattle.bench_core.specs.declared.log.Past.TheVariants as past
use Rattle.bench_core.specs.LogContents.{LogContents, call_of, IsKept}
use Rattle.audit_types.specs.ListLaws.{all-push, all-weaker}

piece_stays : (from count : ℕ) (bytes more : List ℕ) → from + count ≤ length bytes → take count (drop from (bytes ++ more)) ≡ take count (drop from bytes)
piece_stays from count bytes more le =
    ap (take count) (drop-append-le from bytes more (omega arith)) ∙ take-append-le count (drop from bytes) more (omega (arith, length-drop from bytes))

call_stays : (pieces sent more rest : List ℕ) (p : Past) → IsKept (length pieces) (length sent) p →
    call_of (pieces ++ more) (sent ++ rest) p ≡ call_of pieces sent p
call_stays pieces sent more rest (past.Wrote at from count) le = ap (wrote at) (piece_stays from count pieces more le)
call_stays pieces sent more rest (past.Unwritten at count) le = refl
call_stays pieces sent more rest past.Synced le = refl
call_stays pieces sent more rest (past.Sent from count) le = ap sending (piece_stays from count sent rest le)
call_stays pieces sent more rest past.Other le = refl

pub calls_stay : (pieces sent more rest : List ℕ) (all : List Past) → AllByRecursion (IsKept (length pieces) (length sent)) all →
    map (call_of (pieces ++ more) (sent ++ rest)) all ≡ map (call_of pieces sent) all
calls_stay pieces sent more rest [] kept = refl
calls_stay pieces sent more rest (p ∷ all) kept =
    let first = call_stays pieces sent more rest p kept.0 in
    let others = calls_stay pieces sent more rest all kept.1 in
    ap (λ c. c ∷ map (call_of (pieces ++ more) (sent ++ rest)) all) first ∙ ap (λ t. call_of pieces sent p ∷ t) others

kept_more : (pieces sent more rest : ℕ) (p : Past) → pieces ≤ more → sent ≤ rest → IsKept pieces sent p → IsKept more rest p
kept_more pieces sent more rest (past.Wrote at from count) a b le = omega arith
kept_more pieces sent more rest (past.Unwritten at count) a b le = tt
kept_more pieces sent more rest past.Synced a b le = tt
kept_more pieces sent more rest (past.Sent from count) a b le = omega arith
kept_more pieces sent more rest past.Other a b le = tt

pub all_kept : (pieces sent more rest : ℕ) (all : List Past) (p : Past) → pieces ≤ more → sent ≤ rest → AllByRecursion (IsKept pieces sent) all →
    IsKept more rest p → AllByRecursion (IsKept more rest) (all ++ p ∷ [])
all_kept pieces sent more rest all p a b kept is =
    all-push (IsKept more rest) all p (all-weaker (IsKept pieces sent) (IsKept more rest) (λ q. kept_more pieces sent more rest q a b) all kept) is

-- the piece that joined last
pub piece_at_end : (bytes piece : List ℕ) → take (length piece) (drop (length bytes) (bytes ++ piece)) ≡ piece
piece_at_end bytes piece = ap (take (length piece)) (drop_at bytes piece (length bytes) refl) ∙ take-length piece

-- a piece joins those that were sent
pub sent_grows : (pieces sent piece : List ℕ) (all : List Past) → AllByRecursion (IsKept (length pieces) (length sent)) all
    → map (call_of pieces (sent ++ piece)) (all ++ past.Sent (length sent) (length piece) ∷ []) ≡ map (call_of pieces sent) all ++ sending piece ∷ []
sent_grows pieces sent piece all kept =
    let stay : map (call_of pieces (sent ++ piece)) all ≡ map (call_of pieces sent) all = rw append-nil at (calls_stay pieces sent [] piece all kept) in
    map_push (call_of pieces (sent ++ piece)) all (past.Sent (length sent) (length piece))
    ∙ ap (λ t. t ++ call_of pieces (sent ++ piece) (past.Sent (length sent) (length piece)) ∷ []) stay
    ∙ ap (λ p. map (call_of pieces sent) all ++ sending p ∷ []) (piece_at_end sent piece)

-- a piece joins those that were written
pub written_grows : (pieces sent piece : List ℕ) (at : ℕ) (all : List Past) → AllByRecursion (IsKept (length pieces) (length sent)) all
    → map (call_of (pieces ++ piece) sent) (all ++ past.Wrote at (length pieces) (length piece) ∷ []) ≡ map (call_of pieces sent) all ++ wrote at piece ∷ []
written_grows pieces sent piece at all kept =
    let stay : map (call_of (pieces ++ piece) sent) all ≡ map (call_of pieces sent) all = rw append-nil at (calls_stay pieces sent piece [] all kept) in
    map_push (call_of (pieces ++ piece) sent) all (past.Wrote at (length pieces) (length piece))
    ∙ ap (λ t. t ++ call_of (pieces ++ piece) sent (past.Wrote at (length pieces) (length piece)) ∷ []) stay
    ∙ ap (λ p. map (call_of pieces sent) all ++ wrote at p ∷ []) (piece_at_end pieces piece)

-- a call without a piece joins the record
pub record_grows : (pieces sent : List ℕ) (all now : List Past) (p : Past) (most_calls most_written most_sent : ℕ) (log : LogContents)
    → now ≡ all ++ p ∷ []
    → record {
      calls = map (call_of pieces sent) all;
      written = length pieces;
      sent = sent;
      most_calls = most_calls;
      most_written = most_written;
      most_sent = most_sent;
    } ≡ log
    → record {
      calls = map (call_of pieces sent) now;
      written = length pieces;
      sent = sent;
      most_calls = most_calls;
      most_written = most_written;
      most_sent = most_sent;
    }
    ≡ record log { calls = log.calls ++ call_of pieces sent p ∷ [] }
record_grows pieces sent all now p most_calls most_written most_sent log joined is =
    ap (λ calls. record { calls = calls; written = length pieces; sent = sent; most_calls = most_calls; most_written = most_written; most_sent = most_sent })
    (ap (map (call_of pieces sent)) joined ∙ map_push (call_of pieces sent) all p)
    ∙ ap (λ (log : LogContents). record log { calls = log.calls ++ call_of pieces sent p ∷ [] }) is
