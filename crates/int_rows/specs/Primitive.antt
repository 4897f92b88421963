-- Primitive rows: rows divided by their content.
use Rattle.std.specs.Prelude.{◌≡◌, ℤ, pos, ◌*ℤ◌, ◌<ℤ◌, ◌≤ℤ◌, List, map, unsigned_abs}
use Rattle.std.specs.Bool.{MatchBool}
use Rattle.std.specs.List.{list_all}
use Rattle.audit_types.specs.Truth.{is_zero}
use Rattle.audit_types.specs.Form.{IsContent, pivot_entry}

-- zeros stay; any other row is a multiple of the new one, which has content 1 and whose first entry that is not 0 is positive
pub record IsMadePrimitive (old new : List ℤ) : Type 0 where
  pub factor : ℤ
  pub is_multiple : old ≡ map (λ x. factor *ℤ x) new
  pub primitive : MatchBool (list_all is_zero old) (new ≡ old) (IsContent new 1 × (pos 0 <ℤ pivot_entry new))

-- the content of a row, negative if the first entry that isn't 0 is
pub record IsSignedContent (row : List ℤ) (c : ℤ) : Type 0 where
  pub content : IsContent row (unsigned_abs c)
  pub negative : pivot_entry row <ℤ pos 0 → c ≤ℤ pos 0
  pub positive : pos 0 ≤ℤ pivot_entry row → pos 0 ≤ℤ c
