-- Which bytes have a value, by what the reader of JSON finds in a text.
use Rattle.std.proofs.Common.{◌≡◌, ℕ, Bool, true, false, List, Some, None, refl, ap, ◌∙◌}
use Rattle.std.specs.Prelude.{if◌then◌else◌, IsUtf8}
use Rattle.std.specs.Str.{is_utf8}
use Rattle.std.proofs.lemmas.Str.{IsUtf8-from_is_utf8, is_utf8-from_IsUtf8}
use Rattle.serde_json.specs.Data.{Data}
use Rattle.serde_json.specs.Read.{read}
use Rattle.schema_json.specs.Reading.{value_of}

-- the value of a text is what is read of it
pub value_of-read : (bytes : List ℕ) (d : Data) → IsUtf8 bytes → read bytes ≡ Some d → value_of bytes ≡ Some d
unfolding value_of
value_of-read bytes d text is = ap (λ b. if b then read bytes else None) (is_utf8-from_IsUtf8 bytes text) ∙ is

-- bytes have no value if a text of them would have none
pub value_of-none : (bytes : List ℕ) → (IsUtf8 bytes → read bytes ≡ None) → value_of bytes ≡ None
unfolding value_of
value_of-none bytes none = by (is_utf8 bytes) refl
  where
    by : (b : Bool) → is_utf8 bytes ≡ b → (if b then read bytes else None) ≡ None
    by true e = none (IsUtf8-from_is_utf8 bytes e)
    by false e = refl
