use Rattle.std.proofs.Common.{◌≡◌, ◌&&◌, Bool, true, Bor, ℕ, List, Option, Some, None, option_map, sym, ◌∙◌}
use Rattle.std.specs.Prelude.{is_some}
use Rattle.line_wire.proofs.plain.is_text_at.Goals as goal

-- whether a known key has a text
text_known : (known some : Bool) (found : Option (Bor (List ℕ))) (text : Option (List ℕ)) → known ≡ true → option_map (λ s. s.now) found ≡ text →
    some ≡ is_some found →
    some ≡ (known && is_some text)
text_known known some None text holds same is = rw (holds, ← same) is
text_known known some (Some s) text holds same is = rw (holds, ← same) is

pub returns-then-is_key : goal.returns-then-is_key
returns-then-is_key c = text_known _ c.is_some.result c.as_str.result _ (sym c.is_key.ensures ∙ c.if-is_key.true) c.as_str.ensures c.is_some.ensures
