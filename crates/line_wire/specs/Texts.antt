-- How long the texts of a value are.
use Rattle.std.specs.Prelude.{ℕ, max, length}
use Rattle.serde_json.specs.Data.{Data, null, boolean, number, string, array, object, Items, no_items, item, Members, no_members, member}

-- the length of a value's longest text, its keys included
abbrev mutual
  pub longest : Data → ℕ
  longest null = 0
  longest (boolean b) = 0
  longest (number n) = 0
  longest (string s) = length s
  longest (array ds) = items_longest ds
  longest (object ms) = members_longest ms

  pub items_longest : Items → ℕ
  items_longest no_items = 0
  items_longest (item d ds) = max (longest d) (items_longest ds)

  pub members_longest : Members → ℕ
  members_longest no_members = 0
  members_longest (member k d ms) = max (length k) (max (longest d) (members_longest ms))
