-- What a read gives of the bytes that a source has left.
use Rattle.std.specs.Prelude.{◌≡◌, ◌↔◌, ℕ, List, [], ◌++◌, take, Result, MatchResult}

-- The bytes that were read are the next ones, none of them exactly at the end; a failed read takes none.
abbrev pub Reads : {E : Type 0} → List ℕ → List ℕ → Result ℕ E → List ℕ → Type 0
Reads before after result buf =
    MatchResult result (λ count. (before ≡ take count buf ++ after) × ((count ≡ 0) ↔ (before ≡ []))) (λ _. after ≡ before)
