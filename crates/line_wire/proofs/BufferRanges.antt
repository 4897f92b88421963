-- Ranges of a buffer: what is left of one, and one that grows by what stands after it.
use Rattle.std.proofs.Common.{◌≡◌, ℕ, ◌+◌, ◌-◌, ◌≤◌, min, List, ◌++◌, length, take, drop, slice_range, sym, ◌∙◌, ap, arith, length-drop}
use Rattle.std.proofs.lemmas.List.{take_min, take_all, drop_all, append-nil, take-take, take_at, drop-take, drop-drop, length-take, length-take-le}
use Rattle.std.proofs.Math.Seq.{take-add, take-append-add}
use Rattle.line_wire.specs.Lines.{kept}

-- what an edit of a whole vector leaves in it
pub written_back : (n : ℕ) (new old : List ℕ) → length new ≡ length old → n ≡ length old → take n (new ++ drop (length new) old) ≡ new
written_back n new old same is =
    ap (λ (l : List ℕ). take n (new ++ l)) (drop_all (length new) old (omega arith))
    ∙ ap (λ (l : List ℕ). take n l) (append-nil new)
    ∙ take_all n new (omega arith)

-- the front of a range of so many bytes
pub taken_there : (buffer bytes : List ℕ) (at count : ℕ) → buffer ≡ bytes → take count (slice_range buffer at (at + count)) ≡ take count (drop at bytes)
taken_there buffer bytes at count same = take-take count (at + count - at) (drop at buffer) (omega arith) ∙ ap (λ (l : List ℕ). take count (drop at l)) same

-- a line that was moved to the front is still there after a read behind it
pub still_in_front : (after read before moved line : List ℕ) (n : ℕ) → after ≡ read → take n read ≡ take n before → before ≡ moved →
    slice_range moved 0 (0 + n) ≡ line →
    slice_range after 0 n ≡ line
still_in_front after read before moved line n was kept is there =
    let size : n - 0 ≡ n = omega arith in
    let whole : 0 + n - 0 ≡ n = omega arith in
    ap (λ (k : ℕ). take k after) size ∙ ap (λ (l : List ℕ). take n l) was ∙ kept ∙ ap (λ (l : List ℕ). take n l) is ∙ ap (λ (k : ℕ). take k moved) (sym whole)
    ∙ there

-- a range that begins later
pub range-later : (bytes : List ℕ) (from end count : ℕ) → from + count ≤ end → slice_range bytes (from + count) end ≡ drop count (slice_range bytes from end)
range-later bytes from end count fits =
    let rest : count + (end - (from + count)) ≡ end - from = omega arith in
    ap (λ (l : List ℕ). take (end - (from + count)) l) (sym (drop-drop count from bytes))
    ∙ sym (drop-take count (end - (from + count)) (drop from bytes))
    ∙ ap (λ (n : ℕ). drop count (take n (drop from bytes))) rest

-- a range that holds so many bytes is at least so long
pub range-long : (bytes : List ℕ) (from end count : ℕ) → from ≤ end → count ≤ length (slice_range bytes from end) → from + count ≤ end
range-long bytes from end count ordered long = omega (arith, ordered, long, length-take (end - from) (drop from bytes))

-- a range that ends later
range-longer : (bytes : List ℕ) (start from count : ℕ) → start ≤ from →
    slice_range bytes start (from + count) ≡ slice_range bytes start from ++ take count (drop from bytes)
range-longer bytes start from count ordered =
    let size : from + count - start ≡ (from - start) + count = omega arith in
    let here : start + (from - start) ≡ from = omega arith in
    ap (λ (n : ℕ). take n (drop start bytes)) size
    ∙ take-add (from - start) count (drop start bytes)
    ∙ ap (λ (l : List ℕ). take (from - start) (drop start bytes) ++ take count l) (drop-drop (from - start) start bytes ∙ ap (λ (n : ℕ). drop n bytes) here)

-- the front of a range is the front of all that stands there
front-range : (bytes : List ℕ) (from end count few : ℕ) → from + count ≤ end → few ≤ count →
    take few (take count (slice_range bytes from end)) ≡ take few (drop from bytes)
front-range bytes from end count few fits less =
    take-take few count (slice_range bytes from end) less ∙ take-take few (end - from) (drop from bytes) (omega arith)

-- what there is room for
pub take_room : (line piece : List ℕ) (most : ℕ) → length line ≤ most → line ++ take (min (length piece) (most - length line)) piece ≡ take most (line ++ piece)
take_room line piece most fits =
    let same : min (length piece) (most - length line) ≡ min (most - length line) (length piece) = omega arith in
    let whole : length line + (most - length line) ≡ most = omega arith in
    ap (λ (k : ℕ). line ++ take k piece) same
    ∙ ap (λ (l : List ℕ). line ++ l) (take_min (most - length line) piece)
    ∙ sym (take-append-add line piece (most - length line))
    ∙ ap (λ (k : ℕ). take k (line ++ piece)) whole

-- a line that is kept up to its most bytes takes no more
full-line : (most : ℕ) (line piece : List ℕ) → length line ≡ most → line ≡ take most (line ++ piece)
full-line most line piece full = sym (take_at line piece most full)

pub kept-full : (line piece : List ℕ) → length line ≡ 8193 → line ≡ kept (line ++ piece)
unfolding kept
kept-full = full-line 8193

-- A line was moved up to what stands after it, and takes a piece of that.
module _ (most : ℕ) (bytes moved : List ℕ) (start stop from end count : ℕ) (ordered : start ≤ stop) (before : stop ≤ from) (short : stop ≤ start + most)
    (fits : from + count ≤ end) (inside : end ≤ length bytes)
    (here : slice_range moved (from - (stop - start)) (from - (stop - start) + (stop - start)) ≡ slice_range bytes start stop)
    (behind : drop (from - (stop - start) + (stop - start)) moved ≡ drop (from - (stop - start) + (stop - start)) bytes) where
  place : from - (stop - start) + (stop - start) ≡ from
  place = omega arith

  same_behind : drop from moved ≡ drop from bytes
  same_behind = rw place at behind

  same_line : slice_range moved (from - (stop - start)) from ≡ slice_range bytes start stop
  same_line = ap (λ (n : ℕ). slice_range moved (from - (stop - start)) n) (sym place) ∙ here

  line_size : length (slice_range bytes start stop) ≡ stop - start
  line_size = length-take-le (stop - start) (drop start bytes) (omega (arith, length-drop start bytes))

  piece_size : length (take count (slice_range bytes from end)) ≡ count
  piece_size = length-take-le count (slice_range bytes from end) (omega (arith, length-take (end - from) (drop from bytes), length-drop from bytes))

  grown : slice_range moved (from - (stop - start)) (from + min count (most - (stop - start))) ≡ take most
      (slice_range bytes start stop ++ take count (slice_range bytes from end))
  grown =
      let line : List ℕ = slice_range bytes start stop in
      let piece : List ℕ = take count (slice_range bytes from end) in
      let few : ℕ = min count (most - (stop - start)) in
      let same : few ≡ min (length piece) (most - length line) = omega (arith, line_size, piece_size) in
      range-longer moved (from - (stop - start)) from few (omega arith)
      ∙ ap (λ (l : List ℕ). l ++ take few (drop from moved)) same_line
      ∙ ap (λ (l : List ℕ). line ++ take few l) same_behind
      ∙ ap (λ (l : List ℕ). line ++ l) (sym (front-range bytes from end count few fits (omega arith)))
      ∙ ap (λ (n : ℕ). line ++ take n piece) same
      ∙ take_room line piece most (omega (arith, line_size))

  pub rest-same : slice_range moved (from + count) end ≡ drop count (slice_range bytes from end)
  rest-same = range-later moved from end count fits ∙ ap (λ (l : List ℕ). drop count (take (end - from) l)) same_behind

pub kept-grown : (bytes moved : List ℕ) (start stop from end count : ℕ) → start ≤ stop → stop ≤ from → stop ≤ start + 8193 → from + count ≤ end
    → end ≤ length bytes
    → slice_range moved (from - (stop - start)) (from - (stop - start) + (stop - start)) ≡ slice_range bytes start stop
    → drop (from - (stop - start) + (stop - start)) moved ≡ drop (from - (stop - start) + (stop - start)) bytes
    → slice_range moved (from - (stop - start)) (from + min count (8193 - (stop - start))) ≡ kept
    (slice_range bytes start stop ++ take count (slice_range bytes from end))
unfolding kept
kept-grown = grown 8193
