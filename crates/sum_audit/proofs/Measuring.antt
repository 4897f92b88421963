-- Dot products with sums and multiples, of rows and of lists of numbers.
use Rattle.std.proofs.Common.{◌≡◌, ℕ, ℤ, List, sym, ap, ◌∙◌}
use Rattle.std.specs.Prelude.{◌+ℤ◌, ◌*ℤ◌, neg_ℤ}
use Rattle.std.proofs.Math.IntN.{*ℤ_comm}
use Rattle.audit_types.specs.Truth.{number_at}
use Rattle.audit_types.specs.Products.{add-times, times-add, times_assoc}
use Rattle.audit_types.specs.Totals.{total, total-agree, total-add, total-times}
use Rattle.sum_basis.specs.Combination.{combine}
use Rattle.sum_basis.specs.CombinedRows.{number_at-combine}
use Rattle.sum_audit.specs.Dot.{dot}

-- a sum of rows
pub dot-add : (n : ℕ) (f g : ℕ → ℤ) (d : List ℤ) → dot n (λ j. f j +ℤ g j) d ≡ dot n f d +ℤ dot n g d
dot-add n f g d =
    total-agree (λ j. (f j +ℤ g j) *ℤ number_at d j) (λ j. f j *ℤ number_at d j +ℤ g j *ℤ number_at d j) n (λ j l. add-times (f j) (g j) (number_at d j))
    ∙ total-add (λ j. f j *ℤ number_at d j) (λ j. g j *ℤ number_at d j) n

-- a multiple of a row
pub dot-times : (n : ℕ) (k : ℤ) (f : ℕ → ℤ) (d : List ℤ) → dot n (λ j. k *ℤ f j) d ≡ k *ℤ dot n f d
dot-times n k f d =
    total-agree (λ j. (k *ℤ f j) *ℤ number_at d j) (λ j. k *ℤ (f j *ℤ number_at d j)) n (λ j l. times_assoc k (f j) (number_at d j))
    ∙ total-times k (λ j. f j *ℤ number_at d j) n

moved_factor : (f x a y b : ℤ) → f *ℤ (x *ℤ a +ℤ neg_ℤ y *ℤ b) ≡ x *ℤ (f *ℤ a) +ℤ neg_ℤ y *ℤ (f *ℤ b)
moved_factor f x a y b =
    let first = sym (times_assoc f x a) ∙ ap (λ z. z *ℤ a) (*ℤ_comm f x) ∙ times_assoc x f a in
    let second = sym (times_assoc f (neg_ℤ y) b) ∙ ap (λ z. z *ℤ b) (*ℤ_comm f (neg_ℤ y)) ∙ times_assoc (neg_ℤ y) f b in
    times-add f (x *ℤ a) (neg_ℤ y *ℤ b) ∙ ap (λ z. z +ℤ f *ℤ (neg_ℤ y *ℤ b)) first ∙ ap (λ z. x *ℤ (f *ℤ a) +ℤ z) second

-- a combination of lists of numbers
pub dot-combine : (n : ℕ) (f : ℕ → ℤ) (x : ℤ) (a : List ℤ) (y : ℤ) (b : List ℤ) → dot n f (combine x a y b) ≡ x *ℤ dot n f a +ℤ neg_ℤ y *ℤ dot n f b
dot-combine n f x a y b =
    total-agree (λ j. f j *ℤ number_at (combine x a y b) j) (λ j. x *ℤ (f j *ℤ number_at a j) +ℤ neg_ℤ y *ℤ (f j *ℤ number_at b j)) n
    (λ j l. ap (λ z. f j *ℤ z) (number_at-combine x a y b j) ∙ moved_factor (f j) x (number_at a j) y (number_at b j))
    ∙ total-add (λ j. x *ℤ (f j *ℤ number_at a j)) (λ j. neg_ℤ y *ℤ (f j *ℤ number_at b j)) n
    ∙ ap (λ z. z +ℤ total (λ j. neg_ℤ y *ℤ (f j *ℤ number_at b j)) n) (total-times x (λ j. f j *ℤ number_at a j) n)
    ∙ ap (λ z. x *ℤ dot n f a +ℤ z) (total-times (neg_ℤ y) (λ j. f j *ℤ number_at b j) n)
