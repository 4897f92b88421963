-- Buffers of the size of their room, of which a front is in use.
use Rattle.std.proofs.Common.{◌≡◌, ℕ, ◌+◌, ◌-◌, ◌≤◌, inl, inr, max, List, [], ◌++◌, length, take, drop, sym, ap, ◌∙◌, arith, append-nil, length-append, length-take}
use Rattle.std.proofs.Math.Seq.{take-append-add}
use Rattle.std.proofs.lemmas.Bool.{cases_lt}
use Rattle.std.proofs.lemmas.List.{take_at, take-take, drop-take, drop_all}
use Rattle.bench_core.specs.Machine.{written}

-- the items that a call which was lent them all has left
pub stored : {A : Type 0} (new lent old : List A) (n : ℕ) → length new ≡ length lent → length lent ≡ n
    → take n (new ++ drop (length new) old) ≡ new
stored new lent old n same long = take_at new (drop (length new) old) n (omega (arith, same, long))

-- a piece over the front of a buffer is one over the bytes in use
pub front_written : (buffer : List ℕ) (len at top : ℕ) (piece : List ℕ) → at ≤ len → len ≤ length buffer → top ≡ max len (at + length piece)
    → take top (written buffer at piece) ≡ written (take len buffer) at piece
front_written buffer len at top piece inside within top_is =
    let end : ℕ = at + length piece in
    let front = take at buffer ++ piece in
    let long : length front ≡ end = omega (arith, length-append (take at buffer) piece, length-take at buffer, inside, within) in
    let before : take at buffer ≡ take at (take len buffer) = sym (take-take at len buffer inside) in
    elim (cases_lt len end) [
      | inl lt ↦
          let past : drop end (take len buffer) ≡ [] = drop_all end (take len buffer) (omega (arith, lt, length-take len buffer)) in
          ap (λ n. take n (front ++ drop end buffer)) (omega (arith, top_is, lt)) ∙ take_at front (drop end buffer) end long
          ∙ ap (λ l. l ++ piece) before ∙ sym (append-nil (take at (take len buffer) ++ piece))
          ∙ ap (λ l. take at (take len buffer) ++ piece ++ l) (sym past)
      | inr le ↦
          let more : ℕ = len - end in
          let len_is : len ≡ end + more = omega (arith, le) in
          let rest : drop end (take len buffer) ≡ take more (drop end buffer) = ap (λ n. drop end (take n buffer)) len_is ∙ drop-take end more buffer in
          ap (λ n. take n (front ++ drop end buffer)) (omega (arith, top_is, le, long)) ∙ take-append-add front (drop end buffer) more
          ∙ ap (λ l. l ++ piece ++ take more (drop end buffer)) before ∙ ap (λ l. take at (take len buffer) ++ piece ++ l) (sym rest)
    ]

-- a piece over the front of a buffer stands there
pub piece_at_front : (buffer piece : List ℕ) (n : ℕ) → length piece ≡ n → take n (written buffer 0 piece) ≡ piece
piece_at_front buffer piece n long = take_at piece (drop (0 + length piece) buffer) n long
