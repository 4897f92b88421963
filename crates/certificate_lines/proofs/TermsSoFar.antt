-- The texts of terms, one term more.
use Rattle.std.proofs.Common.{◌≡◌, ℕ, ◌+◌, ◌<◌, pos, List, [], ◌∷◌, ◌++◌, length, get_or, take, map, ap, ◌∙◌}
use Rattle.std.proofs.lemmas.List.{take_more, map-append}
use Rattle.denial_proof.specs.declared.proof_parts.Term.{Term}
use Rattle.certificate_lines.specs.Texts.{term_text}

-- the term at a place
abbrev pub term_at : List Term → ℕ → Term
term_at terms i = get_or terms i (record { place = 0; times = pos 0 })

-- one term more
pub terms_more : (terms : List Term) (i : ℕ) → i < length terms →
    map term_text (take (i + 1) terms) ≡ map term_text (take i terms) ++ term_text (term_at terms i) ∷ []
terms_more terms i below =
    ap (map term_text) (take_more terms i (record { place = 0; times = pos 0 }) below) ∙ map-append term_text (take i terms) (term_at terms i ∷ [])
