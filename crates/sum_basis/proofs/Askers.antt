-- What is told of a form if people ask who may each know a number.
use Rattle.std.proofs.Common.{◌≡◌, ℕ, ◌<◌, ℤ, List, [], ◌∷◌, ◌++◌, refl, sym, ap, ◌∙◌, subst, arith, inl, inr}
use Rattle.audit_types.specs.Form.{IsNarrow}
use Rattle.audit_types.specs.Headcount.{Headcount, shared_in, beside_in, several_in}
use Rattle.sum_basis.specs.Basis.{Echelon}
use Rattle.sum_basis.specs.Growth.{ForeseesApart, Grows, GrowsTo}
use Rattle.sum_basis.specs.Asking.{TellsAsker, ForeseesAmong}
use Rattle.sum_basis.specs.Elimination.{IsSmallForm}
use Rattle.sum_basis.specs.Spans.{own}
use Rattle.sum_basis.specs.declared.Grown.{Grown}
use Rattle.sum_basis.specs.declared.Grown.TheVariants as grown
use Rattle.sum_basis.proofs.FormsAreUnique.{forms_are_unique}
use Rattle.sum_basis.proofs.SpanKeepsForm.{span_keeps_form}
use Rattle.sum_basis.specs.declared.Prospect.{Prospect}
use Rattle.sum_basis.specs.declared.Prospect.TheVariants as prospect

-- if nobody in the table asks, what the form spans is all that it tells
pub told_outside : (old : Echelon) (row : List ℤ) (people : Headcount) (sets : List (List ℕ)) (p : Prospect) → people.own ≡ 0 →
    ForeseesApart old row (shared_in people) sets p → ForeseesAmong old row people sets p
told_outside old row people sets prospect.Wide none is = is
told_outside old row people sets prospect.Fixing none (new, grows, spans) = (new, grows, inl spans)
told_outside old row people sets prospect.Open none (new, grows, safe) = (
  new,
  grows,
  λ tells. elim tells [ inl spans ↦ safe spans | inr asker ↦ absurd (let some = asker.0 in omega arith) ],
)

-- two forms with a row are one
module _ (old : Echelon) (row : List ℤ) where
  same_parts : (first second : Echelon) → first.n ≡ second.n → first.width ≡ second.width → first.rows ≡ second.rows → first ≡ second
  same_parts first second n width rows =
      ap (λ k. record { n = k; width = first.width; rows = first.rows }) n
      ∙ ap (λ k. record { n = second.n; width = k; rows = first.rows }) width
      ∙ ap (λ l. record { n = second.n; width = second.width; rows = l }) rows

  pub grown_once : (first second : Echelon) → GrowsTo old row first → GrowsTo old row second → first ≡ second
  grown_once first second one two =
      same_parts first second (one.n ∙ sym two.n) (one.width ∙ sym two.width)
      (forms_are_unique old.n (old.rows ++ row ∷ []) first.rows second.rows one.reduced two.reduced)

  -- a narrow form that grows becomes that
  pub grows_as_told : IsSmallForm old.n old.rows → IsNarrow old.width old.rows → (first new : Echelon) (g : Grown) → GrowsTo old row first →
      Grows old row g new →
      first ≡ new
  grows_as_told f narrow first new grown.Added told (out, grows) = grown_once first new told grows
  grows_as_told f narrow first new grown.Same told (span, same) =
      grown_once first new told (subst (GrowsTo old row) (sym same) (record {
        n = refl;
        width = refl;
        reduced = span_keeps_form old.n old.rows old.rows row
            (record { primitive = f.primitive; echelon = f.echelon; within = own old.rows; spans = own old.rows }) span;
        narrow = narrow;
      }))
  grows_as_told f narrow first new grown.Wide told (out, same, wide) = absurd (wide.2
      (subst (IsNarrow old.width) (forms_are_unique old.n (old.rows ++ row ∷ []) first.rows wide.0 told.reduced wide.1) told.narrow))

-- if people in the table ask, what the grown form tells them is told too
module _ (old : Echelon) (row : List ℤ) (people : Headcount) (sets : List (List ℕ)) (inside : 0 < people.own) where
  pub told_fixing : (new : Echelon) → ForeseesApart old row (shared_in people) sets prospect.Open → ((first : Echelon) → GrowsTo old row first → first ≡ new) →
      TellsAsker new (beside_in people) (several_in people) sets → ForeseesAmong old row people sets prospect.Fixing
  told_fixing new (first, grows, safe) one tells =
      (first, grows, inr (inside, subst (λ (e : Echelon). TellsAsker e (beside_in people) (several_in people) sets) (sym (one first grows)) tells))

  pub told_open : (new : Echelon) → ForeseesApart old row (shared_in people) sets prospect.Open → ((first : Echelon) → GrowsTo old row first → first ≡ new) →
      ¬ (TellsAsker new (beside_in people) (several_in people) sets) → ForeseesAmong old row people sets prospect.Open
  told_open new (first, grows, safe) one silent = (
    first,
    grows,
    λ tells. elim tells [
      | inl spans ↦ safe spans
      | inr asker ↦ silent (subst (λ (e : Echelon). TellsAsker e (beside_in people) (several_in people) sets) (one first grows) asker.1)
    ],
  )

  -- nothing more is told if it is sure that it tells none of them
  pub told_silent : ForeseesApart old row (shared_in people) sets prospect.Open →
      ((new : Echelon) → GrowsTo old row new → ¬ (TellsAsker new (beside_in people) (several_in people) sets)) →
      ForeseesAmong old row people sets prospect.Open
  told_silent (first, grows, safe) silent =
      (first, grows, λ tells. elim tells [ inl spans ↦ safe spans | inr asker ↦ silent first grows asker.1 ])

  -- it is told if it is sure that it tells one of them
  pub told_surely : ForeseesApart old row (shared_in people) sets prospect.Open →
      ((new : Echelon) → GrowsTo old row new → TellsAsker new (beside_in people) (several_in people) sets) →
      ForeseesAmong old row people sets prospect.Fixing
  told_surely (first, grows, safe) tells = (first, grows, inr (inside, tells first grows))

  -- what it spans is told whoever asks
  pub told_anyway : (p : Prospect) → (p ≡ prospect.Open → ⊥) → ForeseesApart old row (shared_in people) sets p → ForeseesAmong old row people sets p
  told_anyway prospect.Wide not is = is
  told_anyway prospect.Fixing not (new, grows, spans) = (new, grows, inl spans)
  told_anyway prospect.Open not is = absurd (not refl)
