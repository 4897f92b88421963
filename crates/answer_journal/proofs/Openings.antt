-- What a crash leaves while a journal's first bytes are written behind its closed header gate.
use Rattle.std.proofs.Common.{◌≡◌, ◌≢◌, ℕ, ◌+◌, ◌<◌, zero, suc, inl, inr, List, [], ◌∷◌, ◌++◌, length, slice_index, get_or, take, drop, refl, sym, ap, ◌∙◌, arith, length-take, length-drop}
use Rattle.std.proofs.Math.Seq.{drop-cons}
use Rattle.std.proofs.lemmas.Bool.{cases_eq}
use Rattle.std.proofs.lemmas.List.{take-append-drop, get_or-take}
use Rattle.answer_journal.specs.Append.{Appending, Writing, appended}
use Rattle.answer_journal.specs.Moments.{IsShort, IsShut, IsUnmadeOrOpened}

-- an image that has the bytes in their place has them behind an open gate, or isn't made
placed : (behind before image sent : List ℕ) → 0 < length behind → sent ≡ before → take (length behind) (drop 1 image) ≡ behind →
    IsUnmadeOrOpened behind before image sent
placed behind before image sent some same is =
    elim (cases_eq (get_or image 0 0) 1) [
      | inr still ↦ (same, inl (λ made. still made.1))
      | inl open_gate ↦
          let after = drop 1 image in
          let rest = drop (length behind) after in
          let long : 0 < length image = omega (arith, some, ap length is, length-take (length behind) after, length-drop 1 image) in
          let after_is : after ≡ behind ++ rest = sym (take-append-drop (length behind) after) ∙ ap (λ t. t ++ rest) is in
          (same, inr (record { rest = rest; file_is = drop-cons image 0 0 long ∙ ap (λ k. k ∷ after) open_gate ∙ ap (λ t. 1 ∷ t) after_is }))
    ]

-- a crash while the gate is opened
pub opening : (file behind before image sent : List ℕ) → get_or file 0 0 ≢ 1 → 0 < length behind → Appending 0 behind file before image sent →
    IsUnmadeOrOpened behind before image sent
opening file behind before image sent closed some (same, inl start) = (
  same,
  inl (λ made. closed (sym (get_or-take 1 file 0 0 (omega arith)) ∙ ap (λ l. get_or l 0 0) (sym start) ∙ get_or-take 1 image 0 0 (omega arith) ∙ made.1)),
)
opening file behind before image sent closed some (same, inr stage) = placed behind before image sent some same stage.1

-- a short image isn't made
pub short_unmade : (behind before image sent : List ℕ) → (sent ≡ before) × IsShort image → IsUnmadeOrOpened behind before image sent
short_unmade behind before image sent (same, short) = (same, inl (λ made. omega (arith, made.0, short)))

-- a write of the first byte leaves a short file short
pub torn_short : (file before : List ℕ) → IsShort file → (image sent : List ℕ) → Writing 0 1 file before image sent → (sent ≡ before) × IsShort image
torn_short file before short image sent (same, torn) = (same, omega (arith, torn.no_longer, short))

-- a file whose gate was closed has one
pub shut_full : (old new : List ℕ) → IsShut old new → 0 < length new
shut_full old new shut = let long : length new ≡ length (0 ∷ drop 1 old) = ap (λ (l : List ℕ). length l) shut in omega (arith, long)

pub shut_closed : (old new : List ℕ) → IsShut old new → slice_index new 0 ≢ 1
shut_closed old new shut is = let none : slice_index new 0 ≡ 0 = ap (λ (l : List ℕ). slice_index l 0) shut in absurd (omega (arith, none, is))

drop_over : (k : ℕ) (old : List ℕ) → drop (suc k) (0 ∷ drop 1 old) ≡ drop (suc k) old
drop_over zero [] = refl
drop_over (suc k) [] = refl
drop_over k (x ∷ old) = refl

-- what is appended behind it is appended to the file as it was
pub over_shut : (behind old shut new : List ℕ) → IsShut old shut → new ≡ appended 0 behind shut → new ≡ appended 0 behind old
over_shut behind old shut new is appends =
    let past : 0 + 1 + length behind ≡ suc (length behind) = omega arith in
    appends ∙ ap (λ file. 1 ∷ (behind ++ drop (0 + 1 + length behind) file)) is
    ∙ ap (λ k. 1 ∷ (behind ++ drop k (0 ∷ drop 1 old))) past ∙ ap (λ l. 1 ∷ (behind ++ l)) (drop_over (length behind) old)
    ∙ ap (λ k. 1 ∷ (behind ++ drop k old)) (sym past)
