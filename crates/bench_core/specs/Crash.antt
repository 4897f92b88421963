-- What a crash may leave of a file that isn't all stable.
use Rattle.std.specs.Prelude.{◌≡◌, ℕ, ◌<◌, ◌≤◌, Bool, false, List, length, slice_index}

-- The length lies between the stable one and the one that reads; each byte that isn't dirty is the stable one.
pub record IsImage (stable : List ℕ) (dirty : ℕ → Bool) (file image : List ℕ) : Type 0 where
  pub no_shorter : length stable ≤ length image
  pub no_longer : length image ≤ length file
  pub same : (at : ℕ) → at < length stable → dirty at ≡ false → slice_index image at ≡ slice_index stable at
