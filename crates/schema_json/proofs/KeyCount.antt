-- How a value's data is counted.
use Rattle.std.proofs.Common.{◌≡◌, List, [], ◌∷◌, length, String, refl, ap, suc}
use Rattle.std.specs.declared.alloc.Global.{Global}
use Rattle.serde_json.specs.View.{members_view}
use Rattle.serde_json.specs.declared.value.Value.{Value}
use Rattle.schema_json.specs.Reading.{members_len}

-- an object has as many keys as its map has entries
pub members_len_view : (es : List (String Global × Value)) → members_len (members_view es) ≡ length es
members_len_view [] = refl
members_len_view (e ∷ es) = ap suc (members_len_view es)
