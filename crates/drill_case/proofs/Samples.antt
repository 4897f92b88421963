-- The definitions of a drill on the number 0.
use Rattle.std.proofs.Common.{◌≡◌, ◌%◌, refl, codes}
use Rattle.std.specs.Fmt.{digits}
use Rattle.drill_case.specs.Draws.{draw, state_after}
use Rattle.drill_case.specs.Lines.{line_of_draws, ages_text}

first_draw : draw 0 0 ≡ 167951807
unfolding state_after
first_draw = refl

first_band : draw 0 0 % 8 ≡ 7
unfolding state_after
first_band = refl

a_line : line_of_draws 0 3 8 1 ≡ codes "{\"ask\":\"sum\",\"column\":\"pay\",\"where\":\"age >= 23 and age <= 31\"}\n"
unfolding line_of_draws ages_text digits
a_line = refl

a_line_with_a_band : line_of_draws 0 3 8 20 ≡ codes "{\"ask\":\"sum\",\"column\":\"pay\",\"where\":\"age >= 23 and age <= 31 or band = 5\"}\n"
unfolding line_of_draws ages_text digits
a_line_with_a_band = refl
