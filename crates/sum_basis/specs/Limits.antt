-- How many columns a form may have, and how large its rows leave the numbers of a row.
use Rattle.std.specs.Prelude.{ℕ, ◌+◌, ◌*◌, ◌^◌}
use Rattle.audit_types.specs.Limits.{most_rows}

-- the most columns of a form: one for each row of a table, and as many marks
abbrev pub most_columns : ℕ
most_columns = 2 * most_rows

-- what the rows of a form leave of small numbers is smaller: each takes at most 2 ^ 112
abbrev pub most_remainder : ℕ
most_remainder = 2 ^ 112 * (most_columns + 1)

-- so many rows are few
abbrev pub few_rows : ℕ
few_rows = 1024

-- the greatest entry of a form that leaves numbers of 64 bits
abbrev pub most_short : ℕ
most_short = 2 ^ 48
