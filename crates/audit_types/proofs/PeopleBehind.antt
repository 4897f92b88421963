-- Lines tell of their people what is told of them together, and nobody's number can be worked out from them.
--
-- Of a line with several people the number of one may be another while the line tells the same: in a sum somebody else makes up for it, and of
-- numbers of which only the greatest is told, somebody else may have that. A line of one person is guarded: if another number there gives the
-- same answers, it is this person's.
use Rattle.std.proofs.Common.{◌≡◌, ◌≢◌, ℕ, zero, suc, ◌<◌, ℤ, pos, List, [], ◌∷◌, ◌++◌, map, length, replicate, refl, sym, ap, ◌∙◌, subst, arith, ◌⊎◌, inl, inr, length-append}
use Rattle.std.specs.Prelude.{◌+ℤ◌, ◌-ℤ◌, ◌≤ℤ◌, slice_set}
use Rattle.std.specs.List.{AllByRecursion, fold, range_with_len}
use Rattle.std.specs.Int.{int_max}
use Rattle.std.proofs.lemmas.Int.{ints, clamps}
use Rattle.std.proofs.lemmas.Bool.{cases_eq, cases_lt}
use Rattle.std.proofs.lemmas.List.{get_or-map, get_or-set_same, get_or-set_other, get_or_past, length-map, length-replicate, ext_get_or}
use Rattle.std.proofs.lemmas.List.FromFn.{length-map-range_with_len, get_or-map-range_with_len}
use Rattle.std.proofs.lemmas.List.Sums.{fold-append}
use Rattle.std.proofs.Math.Seq.{map-set_same}
use Rattle.audit_types.specs.declared.shapes.Kind.{Kind}
use Rattle.audit_types.specs.declared.shapes.Kind.TheVariants.{Sum, Max}
use Rattle.audit_types.specs.declared.shapes.Shape.{Shape}
use Rattle.audit_types.specs.Shapes.{columns, kind_at}
use Rattle.audit_types.specs.Truth.{number_at, sum_over, greatest_over}
use Rattle.audit_types.specs.Numbers.{zero_or_not}
use Rattle.audit_types.specs.ListLaws.{all-get_or}
use Rattle.audit_types.specs.Column.{number}
use Rattle.audit_types.specs.History.{Secrets, AreSecrets, AgreeWithHistory, list_of}
use Rattle.audit_types.specs.People.{People, of_line, of_lines, told, people_in, AreBehind}
use Rattle.audit_types.specs.Headcount.{count_at, AreFew}
use Rattle.audit_types.specs.PeopleLaws.{TruthIsOverPeople, PeopleAreCounted, HasOtherPeople, HasOthersBehind, PeopleMayDiffer, UndisclosedHidesPeople}

-- ---- answers over lines

sum-append : (xs ys : List ℤ) → told Sum (xs ++ ys) ≡ told Sum xs +ℤ told Sum ys
sum-append [] ys = omega (arith, ints)
sum-append (x ∷ xs) ys = let rest = sum-append xs ys in omega (arith, ints)

max_assoc : (a x y : ℤ) → int_max (int_max a x) y ≡ int_max a (int_max x y)
max_assoc a x y = omega (arith, ints, clamps)

fold-max : (a x : ℤ) (xs : List ℤ) → fold int_max (int_max a x) xs ≡ int_max a (fold int_max x xs)
fold-max a x [] = refl
fold-max a x (y ∷ xs) = ap (λ z. fold int_max z xs) (max_assoc a x y) ∙ fold-max a (int_max x y) xs

one_line : (a : ℤ) (numbers : List ℤ) → numbers ≢ [] → fold int_max a numbers ≡ int_max a (told Max numbers)
one_line a [] some = absurd (some refl)
one_line a (x ∷ xs) some = fold-max a x xs

greatest-append : (xs ys : List ℤ) → xs ≢ [] → told Max (xs ++ ys) ≡ fold int_max (told Max xs) ys
greatest-append [] ys some = absurd (some refl)
greatest-append (x ∷ xs) ys some = fold-append int_max x xs ys

module _ (people : People) where
  number_told : (kind : Kind) (line : ℕ) → line < length people → number_at (map (told kind) people) line ≡ told kind (of_line people line)
  number_told kind line below = get_or-map (told kind) people line [] (pos 0) below

  sum_over_people : (lines : List ℕ) → AllByRecursion (λ line. line < length people) lines → sum_over (map (told Sum) people) lines
      ≡ told Sum (of_lines people lines)
  sum_over_people [] below = refl
  sum_over_people (line ∷ lines) below =
      let here = number_told Sum line below.0 in
      let rest = sum_over_people lines below.1 in
      let both = sum-append (of_line people line) (of_lines people lines) in
      omega (arith, ints)

  module _ (some : AllByRecursion (λ numbers. numbers ≢ []) people) where
    somebody : (line : ℕ) → line < length people → of_line people line ≢ []
    somebody line below = all-get_or (λ numbers. numbers ≢ []) people line [] some below

    greatest_from : (lines : List ℕ) (a : ℤ) → AllByRecursion (λ line. line < length people) lines →
        fold int_max a (of_lines people lines) ≡ fold int_max a (map (number_at (map (told Max) people)) lines)
    greatest_from [] a below = refl
    greatest_from (line ∷ lines) a below =
        fold-append int_max a (of_line people line) (of_lines people lines)
        ∙ ap (λ z. fold int_max z (of_lines people lines))
        (one_line a (of_line people line) (somebody line below.0) ∙ ap (int_max a) (sym (number_told Max line below.0)))
        ∙ greatest_from lines (int_max a (number_at (map (told Max) people) line)) below.1

    greatest_over_people : (lines : List ℕ) → AllByRecursion (λ line. line < length people) lines → greatest_over (map (told Max) people) lines
        ≡ told Max (of_lines people lines)
    greatest_over_people [] below = refl
    greatest_over_people (line ∷ lines) below =
        sym (greatest_from lines (number_at (map (told Max) people) line) below.1)
        ∙ ap (λ z. fold int_max z (of_lines people lines)) (number_told Max line below.0)
        ∙ sym (greatest-append (of_line people line) (of_lines people lines) (somebody line below.0))

pub truth_is_over_people : TruthIsOverPeople
truth_is_over_people Sum people lines some below = sum_over_people people lines below
truth_is_over_people Max people lines some below = greatest_over_people people some lines below

pub people_are_counted : PeopleAreCounted
people_are_counted people [] below = refl
people_are_counted people (line ∷ lines) below =
    let here = get_or-map length people line [] 1 below.0 in
    let rest = people_are_counted people lines below.1 in
    let both = length-append (of_line people line) (of_lines people lines) in
    omega arith

-- ---- other people behind a line

-- n people of whom this is told
abbrev pub spread : Kind → ℕ → ℤ → List ℤ
spread kind zero v = []
spread Sum (suc n) v = v ∷ replicate n (pos 0)
spread Max (suc n) v = v ∷ replicate n v

sum_zeros : (n : ℕ) → told Sum (replicate n (pos 0)) ≡ pos 0
sum_zeros zero = refl
sum_zeros (suc n) = let rest = sum_zeros n in omega (arith, ints)

max_same : (n : ℕ) (v : ℤ) → fold int_max v (replicate n v) ≡ v
max_same zero v = refl
max_same (suc n) v = ap (λ z. fold int_max z (replicate n v)) (let same : int_max v v ≡ v = omega (arith, ints, clamps) in same) ∙ max_same n v

pub told-spread : (kind : Kind) (n : ℕ) (v : ℤ) → 0 < n → told kind (spread kind n v) ≡ v
told-spread kind zero v some = absurd (omega arith)
told-spread Sum (suc n) v some = let rest = sum_zeros n in omega (arith, ints)
told-spread Max (suc n) v some = max_same n v

pub length-spread : (kind : Kind) (n : ℕ) (v : ℤ) → length (spread kind n v) ≡ n
length-spread kind zero v = refl
length-spread Sum (suc n) v = omega (arith, length-replicate n (pos 0))
length-spread Max (suc n) v = omega (arith, length-replicate n v)

-- n numbers, x at one place and y elsewhere
abbrev pub mark : ℕ → ℤ → ℤ → ℕ → List ℤ
mark place x y zero = []
mark zero x y (suc n) = x ∷ replicate n y
mark (suc place) x y (suc n) = y ∷ mark place x y n

length-mark : (place : ℕ) (x y : ℤ) (n : ℕ) → length (mark place x y n) ≡ n
length-mark place x y zero = refl
length-mark zero x y (suc n) = omega (arith, length-replicate n y)
length-mark (suc place) x y (suc n) = omega (arith, length-mark place x y n)

number_at-mark : (place : ℕ) (x y : ℤ) (n : ℕ) → place < n → number_at (mark place x y n) place ≡ x
number_at-mark place x y zero below = absurd (omega arith)
number_at-mark zero x y (suc n) below = refl
number_at-mark (suc place) x y (suc n) below = number_at-mark place x y n (omega arith)

sum-mark : (place : ℕ) (x : ℤ) (n : ℕ) → place < n → told Sum (mark place x (pos 0) n) ≡ x
sum-mark place x zero below = absurd (omega arith)
sum-mark zero x (suc n) below = let rest = sum_zeros n in omega (arith, ints)
sum-mark (suc place) x (suc n) below = let rest = sum-mark place x n (omega arith) in omega (arith, ints)

max-mark : (place : ℕ) (x v : ℤ) (n : ℕ) → x ≤ℤ v → fold int_max v (mark place x v n) ≡ v
max-mark place x v zero low = refl
max-mark zero x v (suc n) low = ap (λ z. fold int_max z (replicate n v)) (let top : int_max v x ≡ v = omega (arith, ints, clamps) in top) ∙ max_same n v
max-mark (suc place) x v (suc n) low = ap (λ z. fold int_max z (mark place x v n)) (let same : int_max v v ≡ v = omega (arith, ints, clamps) in same)
    ∙ max-mark place x v n low

-- n people of whom this is told, and of whom one hasn't this number
pub record IsOther (kind : Kind) (n : ℕ) (v : ℤ) (person : ℕ) (old : ℤ) : Type 0 where
  pub numbers : List ℤ
  pub long : length numbers ≡ n
  pub tells : told kind numbers ≡ v
  pub differs : number_at numbers person ≢ old

-- a number that isn't the old one, and not above v
lower : (v old : ℤ) → (x : ℤ) × (x ≤ℤ v) × (x ≢ old)
lower v old = elim (zero_or_not (v -ℤ old)) [
  | inl none ↦ (v -ℤ pos 1, omega (arith, ints), λ e. omega (arith, ints))
  | inr some ↦ (v, omega (arith, ints), λ e. some (omega (arith, ints)))
]

pub other_told : (kind : Kind) (n : ℕ) (v : ℤ) (person : ℕ) (old : ℤ) → 1 < n → person < n → IsOther kind n v person old
other_told kind zero v person old more below = absurd (omega arith)
other_told kind (suc zero) v person old more below = absurd (omega arith)
other_told Sum (suc (suc n)) v zero old more below = record {
  numbers = (old +ℤ pos 1) ∷ (v -ℤ (old +ℤ pos 1)) ∷ replicate n (pos 0);
  long = omega (arith, length-replicate n (pos 0));
  tells = let rest = sum_zeros n in omega (arith, ints);
  differs = λ e. omega (arith, ints);
}
other_told Sum (suc (suc n)) v (suc person) old more below = record {
  numbers = (v -ℤ (old +ℤ pos 1)) ∷ mark person (old +ℤ pos 1) (pos 0) (suc n);
  long = omega (arith, length-mark person (old +ℤ pos 1) (pos 0) (suc n));
  tells = let rest = sum-mark person (old +ℤ pos 1) (suc n) (omega arith) in omega (arith, ints);
  differs = λ e. let here = number_at-mark person (old +ℤ pos 1) (pos 0) (suc n) (omega arith) in omega (arith, ints);
}
other_told Max (suc (suc n)) v zero old more below =
    let x = lower v old in
    let low = x.1 in
    record {
      numbers = x.0 ∷ v ∷ replicate n v;
      long = omega (arith, length-replicate n v);
      tells = ap (λ z. fold int_max z (replicate n v)) (let top : int_max x.0 v ≡ v = omega (arith, ints, clamps) in top) ∙ max_same n v;
      differs = x.2;
    }
other_told Max (suc (suc n)) v (suc person) old more below =
    let x = lower v old in
    record {
      numbers = v ∷ mark person x.0 v (suc n);
      long = omega (arith, length-mark person x.0 v (suc n));
      tells = max-mark person x.0 v (suc n) x.1;
      differs = λ e. x.2 (sym (number_at-mark person x.0 v (suc n) (omega arith)) ∙ e);
    }

-- one person is told as she is
pub single : (kind : Kind) (numbers : List ℤ) → length numbers ≡ 1 → told kind numbers ≡ number_at numbers 0
single kind [] one = absurd (omega arith)
single Sum (x ∷ []) one = omega (arith, ints)
single Max (x ∷ []) one = refl
single kind (x ∷ y ∷ numbers) one = absurd (omega arith)

-- ---- other people behind all lines

module _ (shape : Shape) (counts : List ℕ) (secrets : Secrets) (everyone : List People) (behind : AreBehind shape counts secrets everyone) (column line : ℕ)
    (column_below : column < columns shape) (line_below : line < length counts) where
  long : length (people_in everyone column) ≡ length counts
  long = sym (length-map (people_in everyone column) length) ∙ ap length (behind.counted column column_below)

  as_many : length (of_line (people_in everyone column) line) ≡ count_at counts line
  as_many =
      sym (get_or-map length (people_in everyone column) line [] 1 (subst (λ n. line < n) (sym long) line_below))
      ∙ ap (λ c. count_at c line) (behind.counted column column_below)

  tells_line : told (kind_at shape column) (of_line (people_in everyone column) line) ≡ number_at (list_of secrets column) line
  tells_line =
      sym (get_or-map (told (kind_at shape column)) (people_in everyone column) line [] (pos 0) (subst (λ n. line < n) (sym long) line_below))
      ∙ ap (λ w. number_at w line) (behind.told_is column column_below)

  -- the column is there, since a line is
  inside : column < length everyone
  inside = elim (cases_lt column (length everyone)) [
    | inl below ↦ below
    | inr past ↦
        let none : people_in everyone column ≡ [] = get_or_past everyone column [] past in
        let empty : length (people_in everyone column) ≡ 0 = ap length none in
        absurd (let same = long in let some = line_below in omega arith)
  ]

  -- other numbers of as many people of one line, told the same
  module _ (numbers : List ℤ) (same_length : length numbers ≡ length (of_line (people_in everyone column) line))
      (same_told : told (kind_at shape column) numbers ≡ told (kind_at shape column) (of_line (people_in everyone column) line)) where
    abbrev pub others : List People
    others = slice_set everyone column (slice_set (people_in everyone column) line numbers)

    here : people_in others column ≡ slice_set (people_in everyone column) line numbers
    here = get_or-set_same everyone column (slice_set (people_in everyone column) line numbers) [] inside

    there : (c : ℕ) → c ≢ column → people_in others c ≡ people_in everyone c
    there c apart = get_or-set_other everyone column c (slice_set (people_in everyone column) line numbers) [] apart

    pub still_behind : AreBehind shape counts secrets others
    still_behind = record {
      counted = λ c below. elim (cases_eq c column) [
        | inl same ↦ ap (λ d. map length (people_in others d)) same ∙ ap (map length) here
            ∙ map-set_same length (people_in everyone column) line numbers [] same_length ∙ behind.counted column column_below
        | inr apart ↦ ap (map length) (there c apart) ∙ behind.counted c below
      ];
      told_is = λ c below. elim (cases_eq c column) [
        | inl same ↦ ap (λ d. map (told (kind_at shape d)) (people_in others d)) same ∙ ap (map (told (kind_at shape column))) here
            ∙ map-set_same (told (kind_at shape column)) (people_in everyone column) line numbers [] same_told
            ∙ behind.told_is column column_below ∙ ap (list_of secrets) (sym same)
        | inr apart ↦ ap (map (told (kind_at shape c))) (there c apart) ∙ behind.told_is c below
      ];
    }

    pub new_there : of_line (people_in others column) line ≡ numbers
    new_there = ap (λ p. of_line p line) here
        ∙ get_or-set_same (people_in everyone column) line numbers [] (subst (λ n. line < n) (sym long) line_below)

-- people for every line of any secrets
module _ (shape : Shape) (counts : List ℕ) (secrets : Secrets) (all : AreSecrets shape secrets) (rows : length counts ≡ shape.rows)
    (some : AllByRecursion (λ count. 0 < count) counts) where
  abbrev pub line_people : Kind → List ℤ → ℕ → List ℤ
  line_people kind w line = spread kind (count_at counts line) (number_at w line)

  abbrev pub column_people : ℕ → People
  column_people column = map (line_people (kind_at shape column) (list_of secrets column)) (range_with_len 0 (length counts))

  abbrev pub all_people : List People
  all_people = map column_people (range_with_len 0 (columns shape))

  pub people_there : (column : ℕ) → column < columns shape → people_in all_people column ≡ column_people column
  people_there column below = get_or-map-range_with_len column_people 0 (columns shape) column column [] below (omega arith)

  pub line_there : (column line : ℕ) → line < length counts → of_line (column_people column) line
      ≡ line_people (kind_at shape column) (list_of secrets column) line
  line_there column line below =
      get_or-map-range_with_len (line_people (kind_at shape column) (list_of secrets column)) 0 (length counts) line line [] below (omega arith)

  numbers_long : (column : ℕ) → column < columns shape → length (list_of secrets column) ≡ length counts
  numbers_long column below = all-get_or (λ w. length w ≡ shape.rows) secrets column [] all.numbers (omega (arith, all.one_each)) ∙ sym rows

  people_long : (column : ℕ) → length (column_people column) ≡ length counts
  people_long column = length-map-range_with_len (line_people (kind_at shape column) (list_of secrets column)) 0 (length counts)

  counted_here : (column : ℕ) → map length (column_people column) ≡ counts
  counted_here column = ext_get_or 1 (map length (column_people column)) counts (length-map (column_people column) length ∙ people_long column) (λ k lt.
      let below : k < length counts = omega (arith, length-map (column_people column) length, people_long column) in
      get_or-map length (column_people column) k [] 1 (omega (arith, people_long column)) ∙ ap length (line_there column k below)
      ∙ length-spread (kind_at shape column) (count_at counts k) (number_at (list_of secrets column) k))

  told_here : (column : ℕ) → column < columns shape → map (told (kind_at shape column)) (column_people column) ≡ list_of secrets column
  told_here column inside = ext_get_or (pos 0) (map (told (kind_at shape column)) (column_people column)) (list_of secrets column)
      (length-map (column_people column) (told (kind_at shape column)) ∙ people_long column ∙ sym (numbers_long column inside)) (λ k lt.
      let below : k < length counts = omega (arith, length-map (column_people column) (told (kind_at shape column)), people_long column) in
      get_or-map (told (kind_at shape column)) (column_people column) k [] (pos 0) (omega (arith, people_long column))
      ∙ ap (told (kind_at shape column)) (line_there column k below)
      ∙ told-spread (kind_at shape column) (count_at counts k) (number_at (list_of secrets column) k) (all-get_or (λ count. 0 < count) counts k 1 some below))

  pub all_behind : AreBehind shape counts secrets all_people
  all_behind = record {
    counted = λ column below. ap (map length) (people_there column below) ∙ counted_here column;
    told_is = λ column below. ap (map (told (kind_at shape column))) (people_there column below) ∙ told_here column below;
  }

  -- one person of a line
  pub single_there : (column line : ℕ) → column < columns shape → line < length counts → count_at counts line ≡ 1 →
      number_at (of_line (people_in all_people column) line) 0 ≡ number_at (list_of secrets column) line
  single_there column line column_below below one =
      ap (λ p. number_at (of_line p line) 0) (people_there column column_below)
      ∙ ap (λ l. number_at l 0) (line_there column line below ∙ ap (λ n. spread (kind_at shape column) n (number_at (list_of secrets column) line)) one)
      ∙ first (kind_at shape column)
    where
      first : (kind : Kind) → number_at (spread kind 1 (number_at (list_of secrets column) line)) 0 ≡ number_at (list_of secrets column) line
      first Sum = refl
      first Max = refl

module _ (shape : Shape) (counts : List ℕ) (secrets : Secrets) (everyone : List People) (column line person : ℕ)
    (behind : AreBehind shape counts secrets everyone) (rows : length counts ≡ shape.rows) (some : AllByRecursion (λ count. 0 < count) counts)
    (column_below : column < columns shape) (line_below : line < length counts) (person_below : person < count_at counts line) where
  of_several : 1 < count_at counts line → HasOthersBehind shape counts secrets everyone column line person
  of_several more =
      let other = other_told (kind_at shape column) (count_at counts line) (told (kind_at shape column) (of_line (people_in everyone column) line))
      person (number_at (of_line (people_in everyone column) line) person) more person_below in
      let same_length = other.long ∙ sym (as_many shape counts secrets everyone behind column line column_below line_below) in
      record {
        others = others shape counts secrets everyone behind column line column_below line_below other.numbers same_length other.tells;
        behind = still_behind shape counts secrets everyone behind column line column_below line_below other.numbers same_length other.tells;
        differs = λ e. other.differs (sym (ap (λ l. number_at l person)
            (new_there shape counts secrets everyone behind column line column_below line_below other.numbers same_length other.tells)) ∙ e);
      }

  of_one : (other : Secrets) → AreSecrets shape other → count_at counts line ≡ 1 →
      number_at (list_of other column) line ≢ number_at (list_of secrets column) line →
      HasOthersBehind shape counts other everyone column line person
  of_one other all one differs =
      let first : person ≡ 0 = omega arith in
      let numbered = as_many shape counts secrets everyone behind column line column_below line_below in
      let tells = tells_line shape counts secrets everyone behind column line column_below line_below in
      let before = sym (single (kind_at shape column) (of_line (people_in everyone column) line) (numbered ∙ one)) ∙ tells in
      let after = single_there shape counts other all rows some column line column_below line_below one in
      record {
        others = all_people shape counts other all rows some;
        behind = all_behind shape counts other all rows some;
        differs = λ e. differs (sym after ∙ ap (number_at (of_line (people_in (all_people shape counts other all rows some) column) line)) (sym first)
            ∙ e ∙ ap (number_at (of_line (people_in everyone column) line)) first ∙ before);
      }

pub people_may_differ : PeopleMayDiffer
people_may_differ shape counts secrets other everyone column line person behind all rows some column_below line_below person_below (inl several) =
    subst (λ lists. HasOthersBehind shape counts lists everyone column line person) (sym several.1)
    (of_several shape counts secrets everyone column line person behind rows some column_below line_below person_below several.0)
people_may_differ shape counts secrets other everyone column line person behind all rows some column_below line_below person_below (inr one) =
    of_one shape counts secrets everyone column line person behind rows some column_below line_below person_below other all one.0 one.1

pub undisclosed_hides_people : UndisclosedHidesPeople
undisclosed_hides_people table history counts secrets agree rows some counted fewest undisclosed everyone column line person behind column_below line_below
    person_below =
    elim (cases_lt 1 (count_at counts line)) [
      | inl more ↦ of_others table.secrets secrets agree (inl (more, refl))
      | inr one ↦ alone (let least = all-get_or (λ count. 0 < count) counts line 1 some line_below in omega arith)
    ]
  where
    shape : Shape
    shape = table.setting.shape

    of_others : (other : Secrets) → AreSecrets shape other → AgreeWithHistory table.setting history other →
        ((1 < count_at counts line) × (other ≡ table.secrets))
        ⊎ ((count_at counts line ≡ 1) × (number_at (list_of other column) line ≢ number_at (list_of table.secrets column) line)) →
        HasOtherPeople shape (AgreeWithHistory table.setting history) counts everyone column line person
    of_others other all agrees which =
        let found = people_may_differ shape counts table.secrets other everyone column line person behind all rows some column_below line_below
        person_below which in
        record { others = found.others; told_of = other; are_secrets = all; behind = found.behind; still = agrees; differs = found.differs }

    few : count_at counts line ≡ 1 → AreFew table.setting.protected.people [] (line ∷ [])
    few one = let here : count_at table.setting.protected.people.counts line ≡ 1 = ap (λ c. count_at c line) counted ∙ one in omega (arith, here, fewest)

    alone : count_at counts line ≡ 1 → HasOtherPeople shape (AgreeWithHistory table.setting history) counts everyone column line person
    alone one =
        let twin = undisclosed column [] (λ w. number_at w line) column_below (tt, omega arith, tt)
        (number line (omega (arith, rows)) refl (few one)) in
        of_others twin.twin twin.are_secrets twin.agree (inr (one, twin.differs))
