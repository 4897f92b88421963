-- The keys of an object are those of its map.
use Rattle.std.proofs.Common.{◌≡◌, List, [], ◌∷◌, ◌&&◌, map, String, string_bytes, refl, ap}
use Rattle.std.specs.List.{list_all}
use Rattle.std.specs.declared.alloc.Global.{Global}
use Rattle.serde_json.specs.View.{members_view}
use Rattle.serde_json.specs.declared.value.Value.{Value}
use Rattle.line_wire.specs.Questions.{is_key, keys_are_known}

pub keys_are_known_view : (es : List (String Global × Value)) → keys_are_known (members_view es) ≡ list_all (λ k. is_key (string_bytes k)) (map (λ e. e.0) es)
keys_are_known_view [] = refl
keys_are_known_view (e ∷ es) = ap (λ b. is_key (string_bytes e.0) && b) (keys_are_known_view es)
