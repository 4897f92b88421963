-- The rows between two places of an order.
use Rattle.std.specs.Prelude.{◌≡◌, ℕ, Bool, true, false, List, length}
use Rattle.std.specs.List.{AllWithin}

-- the rows that pass a test stand from one place of the order up to another
pub record IsRange (test : ℕ → Bool) (order : List ℕ) (from to : ℕ) : Type 0 where
  pub before : AllWithin (λ r. test r ≡ false) order 0 from
  pub inside : AllWithin (λ r. test r ≡ true) order from to
  pub after : AllWithin (λ r. test r ≡ false) order to (length order)
