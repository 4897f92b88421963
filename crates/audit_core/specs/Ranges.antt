-- By how much the numbers of a column stay open within the ranges that people know.
--
-- A range has a low and a high end for each row. `May` says of a statement on lists of numbers that the column may have numbers of which it
-- is true, for all that is known.
use Rattle.std.specs.Prelude.{◌≡◌, ℕ, ◌*◌, ◌<◌, ◌≤◌, length, ℤ, pos, ◌+ℤ◌, ◌-ℤ◌, ◌≤ℤ◌, unsigned_abs, true, false, List, [], ◌∷◌}
use Rattle.std.specs.Int.{◌∣◌}
use Rattle.std.specs.List.{AllByRecursion, range_with_len}
use Rattle.audit_types.specs.declared.shapes.Kind.TheVariants.{Sum, Max}
use Rattle.audit_types.specs.Rows.{has_row}
use Rattle.audit_types.specs.Truth.{number_at}
use Rattle.audit_types.specs.Headcount.{AreFew}
use Rattle.audit_types.specs.Column.{Known, AreOwn, AreSameAt, IsGuarded}

-- the numbers of these rows lie in their ranges, at least so far from both ends
abbrev pub AreInside : (ℕ → ℤ) → (ℕ → ℤ) → ℕ → List ℤ → List ℕ → Type 0
AreInside low high far w rows = AllByRecursion (λ r. ((low r +ℤ pos far) ≤ℤ number_at w r) × ((number_at w r +ℤ pos far) ≤ℤ high r)) rows

-- numbers that lie in the ranges of these rows, and are others than w by multiples of k
abbrev pub AreNear : (ℕ → ℤ) → (ℕ → ℤ) → ℕ → List ℤ → List ℕ → List ℤ → Type 0
AreNear low high k w rows v = AreInside low high 0 v rows × AllByRecursion (λ r. k ∣ unsigned_abs (number_at v r -ℤ number_at w r)) rows

-- how far inside of their ranges numbers have to lie so that one may change by 1: the square of the width, and twice its cube for one who knows
-- another number
abbrev pub most_change : ℕ → List ℕ → ℕ
most_change width [] = width * width
most_change width (q ∷ own) = 2 * (width * (width * width))

-- a column that has the numbers w, all in their ranges, may have others, for one who knows the numbers of the own rows. Of sums: for each guarded
-- number or total there are rows, no more than the reach if she knows none, so that, if their numbers lie k times so far inside, it may be higher
-- by k or more, and lower by k or more, with numbers in their ranges, each changed by a multiple of k. Of maxima, with one high end for all: each
-- guarded number may be anything from its low end up to the high end and to each answer over a set with it, with numbers in their ranges
pub record StaysOpen (May : (List ℤ → Type 0) → Type 0) (known : Known) (w : List ℤ) : Type 0 where
  pub sums : (own : List ℕ) (value : List ℤ → ℤ) → AreOwn known own → IsGuarded known own value → known.kind ≡ Sum →
      (rows : List ℕ) × (own ≡ [] → length rows ≤ known.reach) × ((low high : ℕ → ℤ) (k : ℕ) →
      AreInside low high 0 w (range_with_len 0 known.n) → AreInside low high (k * most_change known.width own) w rows →
      May (λ v. AreNear low high k w (range_with_len 0 known.n) v × AreSameAt own w v × ((value w +ℤ pos k) ≤ℤ value v))
      × May (λ v. AreNear low high k w (range_with_len 0 known.n) v × AreSameAt own w v × ((value v +ℤ pos k) ≤ℤ value w)))
  pub maxima : (own : List ℕ) (row : ℕ) (low : ℕ → ℤ) (high x : ℤ) → AreOwn known own → row < known.n → has_row own row ≡ false → AreFew known.people own (row ∷ []) → known.kind ≡ Max →
      AreInside low (λ r. high) 0 w (range_with_len 0 known.n) → low row ≤ℤ x → x ≤ℤ high → AllByRecursion (λ a. has_row a.rows row ≡ true → x ≤ℤ a.value) known.answers →
      May (λ v. AreInside low (λ r. high) 0 v (range_with_len 0 known.n) × AreSameAt own w v × (number_at v row ≡ x))
