-- Many sets in one list of words: where the words of each lie, and what becomes of the sets as words join or change.
use Rattle.std.proofs.Common.{◌≡◌, ◌≢◌, ◌↔◌, ℕ, zero, suc, ◌+◌, ◌-◌, ◌*◌, ◌/◌, ◌%◌, ◌^◌, ◌<◌, ◌≤◌, true, false, List, [], ◌++◌, ◌==◌, ◌&&◌, length, take, drop, map, get_or, set, refl, sym, ap, ◌∙◌, subst, arith, inl, inr, bit_and}
use Rattle.std.specs.Prelude.{vec_capacity}
use Rattle.std.specs.Int.{bit_at}
use Rattle.std.specs.List.{AllByRecursion, range_with_len, insert}
use Rattle.std.proofs.Math.Nat.{le-div_iff_mul-le}
use Rattle.std.proofs.lemmas.Bool.{cases_lt, cases_eq}
use Rattle.std.proofs.lemmas.Nat.{mul-le, mul-add-lt, and_le_r}
use Rattle.std.proofs.lemmas.Nat.Bits.{bit_at-lt, bit_at_and, bit_at-zero, bit_at_above}
use Rattle.std.proofs.lemmas.List.{length-take-le, length-drop, length-append, get_or-take, get_or-drop, get_or_past, take_at, drop_at, take-append-le, drop-append-le, drop-drop, get_or-set_same, get_or-set_other, length-set, ext_get_or, take-append-drop}
use Rattle.std.proofs.lemmas.List.FromFn.{length-map-range_with_len, get_or-map-range_with_len, fill_by_all}
use Rattle.std.proofs.lemmas.List.Edits.{length-insert, get_or-insert_below, get_or-insert_at, get_or-insert_above}
use Rattle.audit_types.specs.Limits.{most_words}
use Rattle.audit_types.specs.Rows.{AreRows, Rows, rows_that, has_row, intersection}
use Rattle.audit_types.specs.RowLaws.{AreRows-rows_that, has-rows_that, rows_that_agree, rows_that_none}
use Rattle.audit_types.specs.Words.{has_bit, AreWords, words_over}
use Rattle.audit_types.specs.WordLaws.{min_test, below_by_bits, same_place, no_one}
use Rattle.audit_types.specs.RowSets.{ListOfRows, no_rows, rows_at, HasRoom}
use Rattle.audit_types.specs.PackedWords.{words_at, set_at, sets_at, sets_of, ArePackedWords}
use Rattle.audit_types.specs.declared.row_sets.RowSets.TheInside.{Inside}

-- the words of a set lie among those of all
pub within : (k len w : ℕ) → 0 < w → k < len → k * w + w ≤ len * w
within k len w some l = omega (arith, mul-add-lt k w (w - 1) len l (omega arith))

-- the words of the next set begin where those of one end
pub next : (k w : ℕ) → (k + 1) * w ≡ k * w + w
next k w = omega arith

-- there are as many words as sets, or more
pub few_sets : (len w : ℕ) → 0 < w → len ≤ len * w
few_sets len w some = omega (arith, mul-le len 1 len w (omega arith) some)

-- a word of a set
pub get-words_at : (w : ℕ) (words : List ℕ) (k j : ℕ) → j < w → get_or (words_at w words k) j 0 ≡ get_or words (k * w + j) 0
get-words_at w words k j l = get_or-take w (drop (k * w) words) j 0 l ∙ get_or-drop (k * w) words j 0

-- how many it has
pub length-words_at : (w : ℕ) (words : List ℕ) (k : ℕ) → k * w + w ≤ length words → length (words_at w words k) ≡ w
length-words_at w words k l = length-take-le w (drop (k * w) words) (omega (arith, length-drop (k * w) words))

-- the word of a row of the table is one of them
pub row_within : (n r : ℕ) → r < n → r / 64 < words_over n
row_within n r l = omega arith

-- what holds of each value holds of all
all_range : {X : Type 0} (P : X → Type 0) (f : ℕ → X) → ((k : ℕ) → P (f k)) → (a len : ℕ) → AllByRecursion P (map f (range_with_len a len))
all_range P f each a zero = tt
all_range P f each a (suc len) = (each a, all_range P f each (a + 1) len)

module _ (a : Inside) (now : ListOfRows) (is : sets_of a ≡ now) where
  -- how many sets there are
  pub count : length now.list ≡ a.len
  count = ap (λ (s : ListOfRows). length s.list) (sym is) ∙ length-map-range_with_len (set_at a.n a.words.items) 0 a.len

  -- each is over the rows of the table
  pub same_n : AllByRecursion (λ (s : Rows). s.n ≡ now.n) now.list
  same_n = subst (λ (l : ListOfRows). AllByRecursion (λ (s : Rows). s.n ≡ l.n) l.list) is
      (all_range (λ (s : Rows). s.n ≡ a.n) (set_at a.n a.words.items) (λ k. refl) 0 a.len)

  -- and has rows of the table
  pub are_rows : AllByRecursion (λ (s : Rows). AreRows now.n s.list) now.list
  are_rows = subst (λ (l : ListOfRows). AllByRecursion (λ (s : Rows). AreRows l.n s.list) l.list) is
      (all_range (λ (s : Rows). AreRows a.n s.list) (set_at a.n a.words.items)
      (λ k. AreRows-rows_that (has_bit (words_at (words_over a.n) a.words.items k)) a.n) 0 a.len)

  -- the set at a place is that of its words
  pub get-set : (k : ℕ) → k < a.len → get_or now.list k no_rows ≡ set_at a.n a.words.items k
  get-set k l = ap (λ (s : ListOfRows). get_or s.list k no_rows) (sym is)
      ∙ get_or-map-range_with_len (set_at a.n a.words.items) 0 a.len k k no_rows l (omega arith)

  -- where there is room, it is for the words of one set more
  pub room : 0 < words_over a.n → HasRoom now → (a.len + 1) * words_over a.n ≤ vec_capacity a.words
  room some has =
      let capacity : vec_capacity a.words / words_over a.n ≡ now.capacity = ap (λ (s : ListOfRows). s.capacity) is in
      let sets = count in
      (le-div_iff_mul-le {k = words_over a.n} {x = a.len + 1} {y = vec_capacity a.words} some).0 (omega arith)

-- nothing is true along with what is false
no_and : (x : _) → (x && false) ≡ false
no_and true = refl
no_and false = refl

-- a row's bit in both words
both_bits : (x y i : ℕ) → (bit_at (bit_and x y) i == 1) ≡ ((bit_at x i == 1) && (bit_at y i == 1))
both_bits x y i = ap (λ b. b == 1) (bit_at_and x y i) ∙ min_test _ _ (bit_at-lt x i) (bit_at-lt y i)

-- the rows that have a bit in each of two lists of words
pub rows-both : (n : ℕ) (a b both : List ℕ) → ((k : ℕ) → k < words_over n → get_or both k 0 ≡ bit_and (get_or a k 0) (get_or b k 0)) →
    rows_that (has_bit both) n ≡ intersection n (rows_that (has_bit a) n) (rows_that (has_bit b) n)
rows-both n a b both each = rows_that_agree (has_bit both) (λ r. has_row (rows_that (has_bit a) n) r && has_row (rows_that (has_bit b) n) r) n (λ r l.
    ap (λ x. bit_at x (r % 64) == 1) (each (r / 64) (row_within n r l)) ∙ both_bits (get_or a (r / 64) 0) (get_or b (r / 64) 0) (r % 64)
    ∙ sym (ap (λ x. x && has_row (rows_that (has_bit b) n) r) (has-rows_that (has_bit a) n r l) ∙ ap (λ x. has_bit a r && x) (has-rows_that (has_bit b) n r l)))

module _ (n : ℕ) (words others old new : List ℕ) (are : AreWords n others) (was : AreWords n old) (long : length words ≡ words_over n)
    (both : (k : ℕ) → k < length words → get_or new k 0 ≡ bit_and (get_or words k 0) (get_or others k 0))
    (after : (k : ℕ) → length words ≤ k → get_or new k 0 ≡ get_or old k 0) where
  -- no number past the last row has a bit in both, or had one before
  none_shared : (r : ℕ) → n ≤ r → has_bit new r ≡ false
  none_shared r above = elim (cases_lt (r / 64) (length words)) [
    | inl l ↦ ap (λ x. bit_at x (r % 64) == 1) (both (r / 64) l) ∙ both_bits (get_or words (r / 64) 0) (get_or others (r / 64) 0) (r % 64)
        ∙ ap (λ x. has_bit words r && x) (are.none_above r above) ∙ no_and (has_bit words r)
    | inr l ↦ ap (λ x. bit_at x (r % 64) == 1) (after (r / 64) l) ∙ was.none_above r above
  ]

  -- so what both share are words of a set
  pub are_shared : length new ≡ most_words → ((k : ℕ) → get_or new k 0 < 2 ^ 64) → AreWords n new
  are_shared is_long ranges = record { some = was.some; at_most = was.at_most; words_are = is_long; ranges = ranges; none_above = none_shared }

  -- of the rows of both
  pub rows_shared : rows_that (has_bit new) n ≡ intersection n (rows_that (has_bit words) n) (rows_that (has_bit others) n)
  rows_shared = rows-both n words others new (λ k l. both k (omega (arith, long)))

module _ (n : ℕ) (a b : List ℕ) where
  abbrev shared : List ℕ
  shared = intersection n (rows_that (has_bit a) n) (rows_that (has_bit b) n)

  -- no row has a bit in both if no word does
  pub apart : ((k : ℕ) → k < words_over n → bit_and (get_or a k 0) (get_or b k 0) ≡ 0) → shared ≡ []
  apart none = rows_that_none _ n (λ r l.
      ap (λ x. x && has_row (rows_that (has_bit b) n) r) (has-rows_that (has_bit a) n r l) ∙ ap (λ x. has_bit a r && x) (has-rows_that (has_bit b) n r l)
      ∙ sym (both_bits (get_or a (r / 64) 0) (get_or b (r / 64) 0) (r % 64))
      ∙ ap (λ x. bit_at x (r % 64) == 1) (none (r / 64) (row_within n r l)) ∙ ap (λ x. x == 1) (bit_at-zero (r % 64)))

  -- and back
  pub not_apart : AreWords n b → shared ≡ [] → (k : ℕ) → bit_and (get_or a k 0) (get_or b k 0) ≡ 0
  not_apart are empty k =
      let fits : bit_and (get_or a k 0) (get_or b k 0) < 2 ^ 64 = omega (arith, are.ranges k, and_le_r (get_or a k 0) (get_or b k 0)) in
      let small = below_by_bits (bit_and (get_or a k 0) (get_or b k 0)) 0 (λ i _. elim (cases_lt i 64) [
        | inr above ↦ bit_at_above (bit_and (get_or a k 0) (get_or b k 0)) 64 i fits above
        | inl below ↦ no_one _ i (both_bits (get_or a k 0) (get_or b k 0) i ∙ elim (cases_lt (64 * k + i) n) [
          | inl l ↦
              ap (λ x. x && (bit_at (get_or b k 0) i == 1)) (sym (same_place a k i below))
              ∙ ap (λ x. has_bit a (64 * k + i) && x) (sym (same_place b k i below))
              ∙ sym (ap (λ x. x && has_row (rows_that (has_bit b) n) (64 * k + i)) (has-rows_that (has_bit a) n (64 * k + i) l)
              ∙ ap (λ x. has_bit a (64 * k + i) && x) (has-rows_that (has_bit b) n (64 * k + i) l))
              ∙ sym (has-rows_that (λ r. has_row (rows_that (has_bit a) n) r && has_row (rows_that (has_bit b) n) r) n (64 * k + i) l)
              ∙ ap (λ rows. has_row rows (64 * k + i)) empty
          | inr past ↦
              ap (λ x. (bit_at (get_or a k 0) i == 1) && x) (sym (same_place b k i below) ∙ are.none_above (64 * k + i) past)
              ∙ no_and (bit_at (get_or a k 0) i == 1)
        ])
      ]) in
      omega (arith, small)

module _ (w place : ℕ) (front : List ℕ) (some : 0 < w) (at : length front ≡ place * w) where
  -- the sets that stand in front keep their words
  pub words-front : (rest : List ℕ) (k : ℕ) → k < place → words_at w (front ++ rest) k ≡ words_at w front k
  words-front rest k l =
      let end = within k place w some l in
      ap (take w) (drop-append-le (k * w) front rest (omega arith))
      ∙ take-append-le w (drop (k * w) front) rest (omega (arith, length-drop (k * w) front))

  module _ (new back : List ℕ) (long : length new ≡ w) where
    abbrev all : List ℕ
    all = front ++ (new ++ back)

    -- the set at the place has the new ones
    pub words-here : words_at w all place ≡ new
    words-here = ap (take w) (drop_at front (new ++ back) (place * w) at) ∙ take_at new back w long

    -- and those after it have what follows
    pub words-after : (k : ℕ) → words_at w all (place + k + 1) ≡ words_at w back k
    words-after k =
        let parts : (place + k) * w ≡ place * w + k * w = omega arith in
        let start : (place + k + 1) * w ≡ (place * w + w) + k * w = omega (arith, next (place + k) w, parts) in
        ap (λ i. take w (drop i all)) start
        ∙ ap (take w) (sym (drop-drop (k * w) (place * w + w) all))
        ∙ ap (λ xs. take w (drop (k * w) xs))
        (sym (drop-drop w (place * w) all) ∙ ap (drop w) (drop_at front (new ++ back) (place * w) at) ∙ drop_at new back w long)

-- a width of some rows
pub some_width : (n : ℕ) → 0 < n → 0 < words_over n
some_width n some = omega arith

-- room for the words of one set more is room for the set
pub room_for : (n len : ℕ) (words : List ℕ) (used capacity : ℕ) → 0 < n → used ≡ len * words_over n → used + words_over n ≤ capacity →
    length (sets_at n words len) < capacity / words_over n
room_for n len words used capacity some is enough =
    let fits = (le-div_iff_mul-le {k = words_over n} {x = len + 1} {y = capacity} (some_width n some)).1 (omega (arith, next len (words_over n))) in
    omega (arith, length-map-range_with_len (set_at n words) 0 len, fits)

-- a word past the last has no bit
past_words : (words : List ℕ) (r : ℕ) → length words ≤ r / 64 → has_bit words r ≡ false
past_words words r l = ap (λ x. bit_at x (r % 64) == 1) (get_or_past words (r / 64) 0 l) ∙ ap (λ x. x == 1) (bit_at-zero (r % 64))

-- the last words go to a place before the others from there on
pub turned : (words new : List ℕ) (start w : ℕ) → start ≤ length words → length new ≡ w →
    take start (words ++ new) ++ (drop (length (words ++ new) - w) (words ++ new) ++ take (length (words ++ new) - w - start) (drop start (words ++ new)))
    ≡ take start words ++ (new ++ drop start words)
turned words new start w l long =
    let rest : length (words ++ new) - w ≡ length words = omega (arith, length-append words new) in
    ap (λ xs. xs ++ (drop (length (words ++ new) - w) (words ++ new) ++ take (length (words ++ new) - w - start) (drop start (words ++ new))))
    (take-append-le start words new l)
    ∙ ap (λ xs. take start words ++ (xs ++ take (length (words ++ new) - w - start) (drop start (words ++ new))))
    (ap (λ i. drop i (words ++ new)) rest ∙ drop_at words new (length words) refl)
    ∙ ap (λ xs. take start words ++ (new ++ xs)) (ap (λ i. take (i - start) (drop start (words ++ new))) rest
    ∙ ap (take (length words - start)) (drop-append-le start words new l) ∙ take_at (drop start words) new (length words - start) (length-drop start words))

module _ (n : ℕ) (words : List ℕ) (are : AreWords n words) where
  -- the words that the rows of a set take
  pub front_long : length (take (words_over n) words) ≡ words_over n
  front_long = length-take-le (words_over n) words (omega (arith, are.words_are, are.at_most))

  -- have its bits
  front_bit : (r : ℕ) → r / 64 < words_over n → has_bit (take (words_over n) words) r ≡ has_bit words r
  front_bit r l = ap (λ x. bit_at x (r % 64) == 1) (get_or-take (words_over n) words (r / 64) 0 l)

  -- and its rows
  pub front_rows : rows_that (has_bit (take (words_over n) words)) n ≡ rows_that (has_bit words) n
  front_rows = rows_that_agree (has_bit (take (words_over n) words)) (has_bit words) n (λ r l. front_bit r (row_within n r l))

  -- and no others
  pub front_none : (r : ℕ) → n ≤ r → has_bit (take (words_over n) words) r ≡ false
  front_none r above = elim (cases_lt (r / 64) (words_over n)) [
    | inl l ↦ front_bit r l ∙ are.none_above r above
    | inr l ↦ past_words (take (words_over n) words) r (omega (arith, front_long))
  ]

module _ (a : Inside) (now : ListOfRows) (is : sets_of a ≡ now) (inv : ArePackedWords a.n a.len a.words.items) where
  abbrev w : ℕ
  w = words_over a.n

  abbrev items : List ℕ
  items = a.words.items

  -- lists are over the rows that they were over
  pub same_table : a.n ≡ now.n
  same_table = ap (λ (s : ListOfRows). s.n) is

  -- a place among the sets is one among those of the words
  pub place : (k : ℕ) → k < length now.list → k < a.len
  place k l = let sets = count a now is in omega arith

  -- the words of each lie among all
  pub fits : (k : ℕ) → k < length now.list → k * w + w ≤ length items
  fits k l = let end = within k a.len w (some_width a.n inv.some) (place k l) in omega (arith, end, inv.long)

  -- words that are those of a set are words of a set alone
  pub unpacked : (k : ℕ) (words : List ℕ) → k < length now.list → length words ≡ most_words → ((j : ℕ) → get_or words j 0 < 2 ^ 64) →
      ((j : ℕ) → get_or words j 0 ≡ get_or (words_at w items k) j 0) → AreWords a.n words
  unpacked k words l long ranges same = record {
    some = inv.some;
    at_most = inv.at_most;
    words_are = long;
    ranges = ranges;
    none_above = λ r above. ap (λ x. bit_at x (r % 64) == 1) (same (r / 64)) ∙ inv.none_above k r (place k l) above;
  }

  -- and have its rows
  pub rows_are : (k : ℕ) (words : List ℕ) → k < length now.list → ((j : ℕ) → get_or words j 0 ≡ get_or (words_at w items k) j 0) →
      rows_that (has_bit words) a.n ≡ rows_at now.list k
  rows_are k words l same =
      rows_that_agree (has_bit words) (has_bit (words_at w items k)) a.n (λ r _. ap (λ x. bit_at x (r % 64) == 1) (same (r / 64)))
      ∙ ap (λ (s : Rows). s.list) (sym (get-set a now is k (place k l)))

  -- a row is in a set if its bit is set
  pub has-set : (k r : ℕ) → k < length now.list → r < now.n → has_row (rows_at now.list k) r ≡ has_bit (words_at w items k) r
  has-set k r l below =
      ap (λ (s : Rows). has_row s.list r) (get-set a now is k (place k l))
      ∙ has-rows_that (has_bit (words_at w items k)) a.n r (let table = same_table in omega arith)

  module _ (k : ℕ) (within_sets : k < length now.list) (other : Rows) (b : List ℕ) (same : other.n ≡ now.n) (are : AreWords other.n b)
      (rows : rows_that (has_bit b) other.n ≡ other.list) where
    -- the rows of a set and of another
    shared_is : intersection a.n (rows_that (has_bit (words_at w items k)) a.n) (rows_that (has_bit b) a.n) ≡ intersection now.n (rows_at now.list k) other.list
    shared_is =
        ap (λ m. intersection m (rows_that (has_bit (words_at w items k)) a.n) (rows_that (has_bit b) a.n)) same_table
        ∙ ap (λ (s : Rows). intersection now.n s.list (rows_that (has_bit b) a.n)) (sym (get-set a now is k (place k within_sets)))
        ∙ ap (intersection now.n (rows_at now.list k)) (ap (rows_that (has_bit b)) (same_table ∙ sym same) ∙ rows)

    -- a set is apart from another if each of its words is
    pub apart_is : ((j : ℕ) → j < w → bit_and (get_or (words_at w items k) j 0) (get_or b j 0) ≡ 0) ↔ (intersection now.n (rows_at now.list k) other.list ≡ [])
    apart_is = (
      λ none. sym shared_is ∙ apart a.n (words_at w items k) b none,
      λ empty j l. not_apart a.n (words_at w items k) b (subst (λ m. AreWords m b) (same ∙ sym same_table) are) (shared_is ∙ empty) j,
    )

    module _ (words : List ℕ) (long : length words ≡ length items)
        (both : (j : ℕ) → j < w → get_or words (k * w + j) 0 ≡ bit_and (get_or items (k * w + j) 0) (get_or b j 0))
        (before : (i : ℕ) → i < k * w → get_or words i 0 ≡ get_or items i 0)
        (after : (i : ℕ) → k * w + w ≤ i → get_or words i 0 ≡ get_or items i 0) where
      -- another set keeps its words
      words-other : (m : ℕ) → m < a.len → m ≢ k → words_at w words m ≡ words_at w items m
      words-other m l other_set =
          let end = within m a.len w (some_width a.n inv.some) l in
          let is_long = length-words_at w words m (omega (arith, long, inv.long)) in
          ext_get_or 0 (words_at w words m) (words_at w items m) (is_long ∙ sym (length-words_at w items m (omega (arith, inv.long)))) (λ j j_within.
          get-words_at w words m j (omega arith)
          ∙ elim (cases_lt m k) [
            | inl lower ↦ let up = within m k w (some_width a.n inv.some) lower in before (m * w + j) (omega arith)
            | inr upper ↦ let up = within k m w (some_width a.n inv.some) (omega arith) in after (m * w + j) (omega arith)
          ]
          ∙ sym (get-words_at w items m j (omega arith)))

      -- the set at the place has the bits of both
      word-both : (j : ℕ) → j < w → get_or (words_at w words k) j 0 ≡ bit_and (get_or (words_at w items k) j 0) (get_or b j 0)
      word-both j l = get-words_at w words k j l ∙ both j l ∙ ap (λ x. bit_and x (get_or b j 0)) (sym (get-words_at w items k j l))

      -- and no bit past the last row
      none_here : (r : ℕ) → a.n ≤ r → has_bit (words_at w words k) r ≡ false
      none_here r above = elim (cases_lt (r / 64) w) [
        | inl l ↦ ap (λ x. bit_at x (r % 64) == 1) (word-both (r / 64) l) ∙ both_bits (get_or (words_at w items k) (r / 64) 0) (get_or b (r / 64) 0) (r % 64)
            ∙ rw (inv.none_above k r (place k within_sets) above) refl
        | inr l ↦ past_words (words_at w words k) r (omega (arith, length-words_at w words k (omega (arith, long, fits k within_sets))))
      ]

      -- so the words are those of sets
      pub packed-and : ArePackedWords a.n a.len words
      packed-and = record {
        some = inv.some;
        at_most = inv.at_most;
        long = long ∙ inv.long;
        none_above = λ m r l above. elim (cases_eq m k) [
          | inl e ↦ subst (λ i. has_bit (words_at w words i) r ≡ false) (sym e) (none_here r above)
          | inr ne ↦ ap (λ ws. has_bit ws r) (words-other m l ne) ∙ inv.none_above m r l above
        ];
      }

      -- and the set at the place is the intersection
      pub sets-and : sets_at a.n words a.len ≡ set now.list k (record { n = now.n; list = intersection now.n (rows_at now.list k) other.list })
      sets-and =
          let new : Rows = record { n = now.n; list = intersection now.n (rows_at now.list k) other.list } in
          let here : set_at a.n words k ≡ new = ap (λ rs. record { n = a.n; list = rs })
          (rows-both a.n (words_at w items k) b (words_at w words k) word-both ∙ shared_is)
          ∙ ap (λ m. record { n = m; list = intersection now.n (rows_at now.list k) other.list }) same_table in
          sym (fill_by_all (set_at a.n words) (set now.list k new) a.len no_rows (length-set now.list k new ∙ count a now is) (λ m l. elim (cases_eq m k) [
            | inl e ↦ subst (λ i. get_or (set now.list k new) i no_rows ≡ set_at a.n words i) (sym e)
                (get_or-set_same now.list k new no_rows within_sets ∙ sym here)
            | inr ne ↦ get_or-set_other now.list k m new no_rows ne ∙ get-set a now is m l
                ∙ ap (λ ws. record { n = a.n; list = rows_that (has_bit ws) a.n }) (sym (words-other m l ne))
          ]))

  module _ (at : ℕ) (among : at ≤ length now.list) (rows : Rows) (new : List ℕ) (same : rows.n ≡ now.n) (long : length new ≡ w)
      (is_new : rows_that (has_bit new) a.n ≡ rows.list) (none : (r : ℕ) → a.n ≤ r → has_bit new r ≡ false) where
    abbrev words : List ℕ
    words = take (at * w) items ++ (new ++ drop (at * w) items)

    -- the place among the words
    pub start_within : at * w ≤ length items
    start_within = let sets = count a now is in let low = mul-le at w a.len w (omega arith) (omega arith) in omega (arith, low, inv.long)

    before_long : length (take (at * w) items) ≡ at * w
    before_long = length-take-le (at * w) items start_within

    -- the sets before it keep their words
    words-lower : (m : ℕ) → m < at → words_at w words m ≡ words_at w items m
    words-lower m l =
        words-front w at (take (at * w) items) (some_width a.n inv.some) before_long (new ++ drop (at * w) items) m l
        ∙ sym (words-front w at (take (at * w) items) (some_width a.n inv.some) before_long (drop (at * w) items) m l)
        ∙ ap (λ xs. words_at w xs m) (take-append-drop (at * w) items)

    -- the new set has the new ones
    words-new : words_at w words at ≡ new
    words-new = words-here w at (take (at * w) items) (some_width a.n inv.some) before_long new (drop (at * w) items) long

    -- and those after it move up
    words-upper : (k : ℕ) → at ≤ k → words_at w words (k + 1) ≡ words_at w items k
    words-upper k from =
        let index : k + 1 ≡ at + (k - at) + 1 = omega arith in
        let sum : at * w + (k - at) * w ≡ (at + (k - at)) * w = omega arith in
        let whole : at + (k - at) ≡ k = omega arith in
        ap (words_at w words) index
        ∙ words-after w at (take (at * w) items) (some_width a.n inv.some) before_long new (drop (at * w) items) long (k - at)
        ∙ ap (take w) (drop-drop ((k - at) * w) (at * w) items)
        ∙ ap (λ i. take w (drop i items)) (sum ∙ ap (λ i. i * w) whole)

    -- what holds of the new set and of the others holds of all
    each : (P : ℕ → List ℕ → Type 0) → P at new → ((m : ℕ) → m < at → P m (words_at w items m)) →
        ((k : ℕ) → at ≤ k → k < a.len → P (k + 1) (words_at w items k)) →
        (m : ℕ) → m < a.len + 1 → P m (words_at w words m)
    each P here lower upper m l = elim (cases_lt m at) [
      | inl below ↦ subst (P m) (sym (words-lower m below)) (lower m below)
      | inr from ↦ elim (cases_eq m at) [
        | inl e ↦ subst (λ i. P i (words_at w words i)) (sym e) (subst (P at) (sym words-new) here)
        | inr ne ↦
            let up : m - 1 + 1 ≡ m = omega arith in
            subst (λ i. P i (words_at w words i)) up
            (subst (P (m - 1 + 1)) (sym (words-upper (m - 1) (omega arith))) (upper (m - 1) (omega arith) (omega arith)))
      ]
    ]

    -- so the words are those of one set more
    pub packed-insert : ArePackedWords a.n (a.len + 1) words
    packed-insert = record {
      some = inv.some;
      at_most = inv.at_most;
      long = length-append (take (at * w) items) (new ++ drop (at * w) items)
          ∙ (let parts = length-append new (drop (at * w) items) in
          omega (arith, before_long, length-drop (at * w) items, start_within, long, inv.long, next a.len w));
      none_above = λ m r l above. each (λ i ws. has_bit ws r ≡ false) (none r above)
          (λ i below. inv.none_above i r (let sets = count a now is in omega arith) above)
          (λ i from below. inv.none_above i r below above) m l;
    }

    -- which stands at the place
    pub sets-insert : sets_at a.n words (a.len + 1) ≡ insert now.list at rows
    sets-insert =
        let set_of : List ℕ → Rows = λ ws. record { n = a.n; list = rows_that (has_bit ws) a.n } in
        let here : set_of new ≡ rows = ap (λ rs. record { n = a.n; list = rs }) is_new ∙ ap (λ m. record { n = m; list = rows.list }) (same_table ∙ sym same) in
        sym (fill_by_all (set_at a.n words) (insert now.list at rows) (a.len + 1) no_rows
        (length-insert now.list at rows among ∙ ap (λ i. i + 1) (count a now is))
        (each (λ i ws. get_or (insert now.list at rows) i no_rows ≡ set_of ws)
        (get_or-insert_at now.list at rows no_rows among ∙ sym here)
        (λ m below. get_or-insert_below now.list at rows no_rows m below among ∙ get-set a now is m (let sets = count a now is in omega arith))
        (λ k from below. get_or-insert_above now.list at rows no_rows k from among ∙ get-set a now is k below)))

  -- and so it is with the words of a set alone
  module _ (at : ℕ) (among : at ≤ length now.list) (rows : Rows) (own : List ℕ) (same : rows.n ≡ now.n) (are : AreWords rows.n own)
      (is_own : rows_that (has_bit own) rows.n ≡ rows.list) where
    same_rows : rows.n ≡ a.n
    same_rows = same ∙ sym same_table

    are_own : AreWords a.n own
    are_own = subst (λ m. AreWords m own) same_rows are

    own_rows : rows_that (has_bit (take w own)) a.n ≡ rows.list
    own_rows = front_rows a.n own are_own ∙ ap (rows_that (has_bit own)) (sym same_rows) ∙ is_own

    pub long_own : length (take w own) ≡ w
    long_own = front_long a.n own are_own

    pub among_words : at * w ≤ length items
    among_words = start_within at among rows (take w own) same long_own own_rows (front_none a.n own are_own)

    pub joined : ArePackedWords a.n (a.len + 1) (take (at * w) items ++ (take w own ++ drop (at * w) items))
    joined = packed-insert at among rows (take w own) same long_own own_rows (front_none a.n own are_own)

    pub joined_sets : sets_at a.n (take (at * w) items ++ (take w own ++ drop (at * w) items)) (a.len + 1) ≡ insert now.list at rows
    joined_sets = sets-insert at among rows (take w own) same long_own own_rows (front_none a.n own are_own)
