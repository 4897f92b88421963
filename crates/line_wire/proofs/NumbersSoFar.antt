-- The texts of numbers, one number more.
use Rattle.std.proofs.Common.{◌≡◌, ℕ, ◌+◌, ◌<◌, ℤ, pos, Bool, List, [], ◌∷◌, ◌++◌, length, get_or, take, map, ap, ◌∙◌}
use Rattle.std.proofs.lemmas.List.{take_more, map-append}
use Rattle.line_wire.specs.CommaLists.{stated}

-- one number more
pub numbers_more : (least : Bool) (xs : List ℤ) (i : ℕ) → i < length xs →
    map (stated least) (take (i + 1) xs) ≡ map (stated least) (take i xs) ++ stated least (get_or xs i (pos 0)) ∷ []
numbers_more least xs i below =
    ap (map (stated least)) (take_more xs i (pos 0) below) ∙ map-append (stated least) (take i xs) (get_or xs i (pos 0) ∷ [])
