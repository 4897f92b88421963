-- The lines of a drill, one after another.
use Rattle.std.proofs.Common.{◌≡◌, ℕ, zero, suc, ◌+◌, List, [], ◌∷◌, ◌++◌, ap, ◌∙◌, arith}
use Rattle.std.specs.List.{flat_map, range_with_len}
use Rattle.std.proofs.lemmas.Grind.{flat_map-append}
use Rattle.std.proofs.lemmas.List.{append-nil}
use Rattle.drill_case.specs.Lines.{drill_line, first_lines}

range_more : (start count last : ℕ) → start + count ≡ last → range_with_len start (suc count) ≡ range_with_len start count ++ last ∷ []
range_more start zero last is = ap (λ (n : ℕ). n ∷ []) (omega (arith, is))
range_more start (suc count) last is = ap (λ (ns : List ℕ). start ∷ ns) (range_more (start + 1) count last (omega (arith, is)))

-- one line more
pub one_line_more : (number count : ℕ) → first_lines number (count + 1) ≡ first_lines number count ++ drill_line number count
one_line_more number count =
    let one : count + 1 ≡ suc count = omega arith in
    let last : flat_map (drill_line number) (count ∷ []) ≡ drill_line number count = append-nil (drill_line number count) in
    ap (first_lines number) one ∙ ap (flat_map (drill_line number)) (range_more 0 count count (omega arith))
    ∙ flat_map-append (drill_line number) (range_with_len 0 count) (count ∷ []) ∙ ap (λ (l : List ℕ). first_lines number count ++ l) last
