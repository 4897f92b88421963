-- The members of json's object, and what is looked up in it.
use Rattle.std.proofs.Common.{◌≡◌, List, [], ◌∷◌, ◌&&◌, Vec, Bor, ℕ, refl, ap, rules}
use Rattle.std.specs.List.{list_all}
use Rattle.json.specs.Json.{object}
use Rattle.json.specs.Value.{value_view, members_view}
use Rattle.json.specs.declared.value.Value.{Value, Object, the_lemmas}
use Rattle.line_wire.specs.Plain.{is_text_at, are_texts}

pub object_view : {A : Type 0} (ms : Vec (Bor (List ℕ) × Value A) A) → value_view (Object ms) ≡ object (members_view ms.items)
object_view ms = search (rules, the_lemmas)

pub are_texts_view : {A : Type 0} (ms : List (Bor (List ℕ) × Value A)) → are_texts (members_view ms) ≡ list_all (λ m. is_text_at m.0.now (value_view m.1)) ms
are_texts_view [] = refl
are_texts_view (m ∷ ms) = ap (λ b. is_text_at m.0.now (value_view m.1) && b) (are_texts_view ms)
