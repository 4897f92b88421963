-- Facts on lists of numbers moved along others, and on what is between two lists.
use Rattle.std.proofs.Common.{◌≡◌, ℕ, ℤ, pos, List, [], ◌∷◌, length, map, refl, sym, ap, ◌∙◌, arith}
use Rattle.std.specs.Prelude.{◌+ℤ◌, ◌*ℤ◌, neg_ℤ}
use Rattle.std.specs.List.{AllByRecursion}
use Rattle.std.proofs.Math.IntN.{*ℤ-zero}
use Rattle.std.proofs.lemmas.Int.{ints}
use Rattle.std.proofs.lemmas.List.{length-map}
use Rattle.audit_types.specs.Truth.{number_at, sum_over}
use Rattle.audit_types.specs.Column.{Answer}
use Rattle.audit_types.specs.PrimitiveLines.{times, number_at-times}
use Rattle.audit_types.specs.Products.{times-add}
use Rattle.audit_types.specs.RowNumbers.{number_at-negated}
use Rattle.sum_basis.specs.Combination.{both}
use Rattle.sum_basis.specs.CombinedRows.{number_at-both, length-both}

-- a list of numbers moved along another
abbrev pub moved_by : List ℤ → List ℤ → List ℤ
moved_by d w = both w d

-- what is between two lists
abbrev pub difference : List ℤ → List ℤ → List ℤ
difference v w = both v (map neg_ℤ w)

pub number_at-moved_by : (d w : List ℤ) (r : ℕ) → number_at (moved_by d w) r ≡ number_at w r +ℤ number_at d r
number_at-moved_by d w r = number_at-both w d r

pub length-moved_by : (n : ℕ) (d w : List ℤ) → length d ≡ n → length w ≡ n → length (moved_by d w) ≡ n
length-moved_by n d w p q = length-both n w d q p

pub number_at-difference : (v w : List ℤ) (r : ℕ) → number_at (difference v w) r ≡ number_at v r +ℤ neg_ℤ (number_at w r)
number_at-difference v w r = number_at-both v (map neg_ℤ w) r ∙ ap (λ z. number_at v r +ℤ z) (number_at-negated w r)

pub length-difference : (n : ℕ) (v w : List ℤ) → length v ≡ n → length w ≡ n → length (difference v w) ≡ n
length-difference n v w p q = length-both n v (map neg_ℤ w) p (length-map w neg_ℤ ∙ q)

pub sum_over-moved_by : (d w : List ℤ) (rows : List ℕ) → sum_over (moved_by d w) rows ≡ sum_over w rows +ℤ sum_over d rows
sum_over-moved_by d w [] = refl
sum_over-moved_by d w (r ∷ rows) = let first = number_at-moved_by d w r in let rest = sum_over-moved_by d w rows in omega (arith, ints)

pub sum_over-difference : (v w : List ℤ) (rows : List ℕ) → sum_over (difference v w) rows ≡ sum_over v rows +ℤ neg_ℤ (sum_over w rows)
sum_over-difference v w [] = refl
sum_over-difference v w (r ∷ rows) = let first = number_at-difference v w r in let rest = sum_over-difference v w rows in omega (arith, ints)

-- the list sums to 0 over the set of each answer
abbrev pub ZeroSums : List ℤ → List Answer → Type 0
ZeroSums d answers = AllByRecursion (λ s. sum_over d s ≡ pos 0) (map (λ a. a.rows) answers)

-- the list gives each answer
abbrev pub Gives : List ℤ → List Answer → Type 0
Gives w answers = AllByRecursion (λ a. sum_over w a.rows ≡ a.value) answers

-- a list that is moved along one that sums to 0 gives the same answers
pub moved_gives : (d w : List ℤ) (answers : List Answer) → Gives w answers → ZeroSums d answers → Gives (moved_by d w) answers
moved_gives d w [] given zeros = tt
moved_gives d w (a ∷ answers) given zeros =
    let sum = sum_over-moved_by d w a.rows in
    let old = given.0 in
    let zero_sum = zeros.0 in
    (omega (arith, ints), moved_gives d w answers given.1 zeros.1)

-- the sum of a list times a number
pub sum_over-times : (k : ℤ) (d : List ℤ) (rows : List ℕ) → sum_over (times k d) rows ≡ k *ℤ sum_over d rows
sum_over-times k d [] = sym (*ℤ-zero k)
sum_over-times k d (r ∷ rows) =
    let first = number_at-times k d r in
    let rest = sum_over-times k d rows in
    let whole = times-add k (number_at d r) (sum_over d rows) in
    omega (arith, ints)

-- a list that sums to 0 does so times a number
pub zero_sums_times : (k : ℤ) (d : List ℤ) (answers : List Answer) → ZeroSums d answers → ZeroSums (times k d) answers
zero_sums_times k d [] zeros = tt
zero_sums_times k d (a ∷ answers) zeros =
    (sum_over-times k d a.rows ∙ ap (λ z. k *ℤ z) zeros.0 ∙ *ℤ-zero k, zero_sums_times k d answers zeros.1)

-- what is between two lists with the same answers sums to 0
pub zero_between : (v w : List ℤ) (answers : List Answer) → Gives v answers → Gives w answers → ZeroSums (difference v w) answers
zero_between v w [] given also = tt
zero_between v w (a ∷ answers) given also =
    let sum = sum_over-difference v w a.rows in
    let first = given.0 in
    let second = also.0 in
    (omega (arith, ints), zero_between v w answers given.1 also.1)
