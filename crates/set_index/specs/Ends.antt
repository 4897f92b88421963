-- The ends of the rows with some value.
use Rattle.std.specs.Prelude.{Bool}
use Rattle.std.specs.Ordering.{is_le, is_lt}
use Rattle.std.specs.declared.cmp.Ordering.{Ordering}
use Rattle.set_index.specs.declared.values.End.{End}
use Rattle.set_index.specs.declared.values.End.TheVariants.{Before, Behind}

-- whether a row that compares so with a value stands before this end of the rows with that value
abbrev pub is_passed : End → Ordering → Bool
is_passed Before = is_lt
is_passed Behind = is_le
