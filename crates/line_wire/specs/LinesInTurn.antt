-- Lines that were read one after another are the first of an input.
use Rattle.std.proofs.Common.{◌≡◌, ℕ, true, List, [], ◌∷◌, ◌++◌, refl, sym, ◌∙◌, ap, inl, inr, ◌⊎◌, append_assoc}
use Rattle.std.proofs.lemmas.List.{append-nil}
use Rattle.line_wire.specs.Lines.{CountedLine, counted_lines, whole_lines}
use Rattle.line_wire.specs.ReadLines.{IsRead, ReadsLines, NoLineIsRead, OneLineIsRead, MoreLinesAreRead}
use Rattle.line_wire.specs.LineLaws.{whole-piece}

-- nothing was
pub reads_none : NoLineIsRead
reads_none rest ended = record { read = []; split = refl; counted = refl; whole = inl (λ more. refl) }

-- one line
pub reads_one : OneLineIsRead
reads_one rest left ended line takes counts = by takes.ends
  where
    read_fed : IsRead (takes.skipped ++ (takes.piece ++ 10 ∷ [])) (line ∷ [])
    read_fed more =
        ap whole_lines regroup ∙ takes.passed.whole (takes.piece ++ 10 ∷ more) ∙ whole-piece takes.piece more takes.feedless ∙ ap (λ (ls : List CountedLine). ls ++ whole_lines more) takes.counted
      where
        regroup : (takes.skipped ++ (takes.piece ++ 10 ∷ [])) ++ more ≡ takes.skipped ++ (takes.piece ++ 10 ∷ more)
        regroup = simp append_assoc

    by : (rest ≡ takes.skipped ++ (takes.piece ++ 10 ∷ left)) ⊎ ((rest ≡ takes.skipped ++ takes.piece) × (left ≡ []) × (ended ≡ true)) → ReadsLines rest left ended (line ∷ [])
    by (inl fed) = record { read = takes.skipped ++ (takes.piece ++ 10 ∷ []); split = fed ∙ regroup; counted = counts; whole = inl read_fed }
      where
        regroup : takes.skipped ++ (takes.piece ++ 10 ∷ left) ≡ (takes.skipped ++ (takes.piece ++ 10 ∷ [])) ++ left
        regroup = simp append_assoc
    by (inr last) = record { read = rest; split = sym (append-nil rest) ∙ ap (λ (l : List ℕ). rest ++ l) (sym last.1); counted = counts; whole = inr (last.2, last.1) }

-- if two parts together are nothing, so is each
pub nil_parts : (a b : List ℕ) → [] ≡ a ++ b → (a ≡ []) × (b ≡ [])
nil_parts [] b is = (refl, sym is)
nil_parts (x ∷ a) b is = absurd (let e : [] ≡ x ∷ (a ++ b) = is in cc)

-- some lines, and then others
pub reads_more : MoreLinesAreRead
reads_more input rest left ended ended_now lines more first second still = record {
  read = first.read ++ second.read;
  split = first.split ∙ ap (λ (l : List ℕ). first.read ++ l) second.split ∙ sym (append_assoc first.read second.read left);
  counted = first.counted ∙ ap (λ (ls : List CountedLine). lines ++ ls) second.counted ∙ sym (append_assoc lines more (counted_lines left));
  whole = by first.whole second.whole;
}
  where
    by : IsRead first.read lines ⊎ ((ended ≡ true) × (rest ≡ [])) → IsRead second.read more ⊎ ((ended_now ≡ true) × (left ≡ [])) → IsRead (first.read ++ second.read) (lines ++ more) ⊎ ((ended_now ≡ true) × (left ≡ []))
    by (inl one) (inl two) = inl (λ behind.
        ap whole_lines (append_assoc first.read second.read behind) ∙ one (second.read ++ behind) ∙ ap (λ (ls : List CountedLine). lines ++ ls) (two behind) ∙ sym (append_assoc lines more (whole_lines behind)))
    by (inl one) (inr over) = inr over
    by (inr over) two = inr (still over.0, (nil_parts second.read left (sym over.1 ∙ second.split)).1)
