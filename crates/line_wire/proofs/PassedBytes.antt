-- What was passed of the bytes at hand.
use Rattle.std.proofs.Common.{◌≡◌, ℕ, ◌+◌, List, ◌∷◌, ◌++◌, length, take, drop, sym, ◌∙◌, ap, arith, append_assoc, take-append-drop, length-take}
use Rattle.std.proofs.lemmas.List.{drop-append-le, drop-drop, take-take}
use Rattle.line_wire.specs.Lines.{kept}
use Rattle.line_wire.specs.Cutter.{Cutter, IsFirstFeed, IsFeedless, PassesFeed, PassesNone}

-- the bytes up to a line feed in the front, and those after it
fed_split : (pending front : List ℕ) (count at : ℕ) → front ≡ take count pending → IsFirstFeed front at → pending ≡ take at front ++ 10 ∷ drop (at + 1) pending
fed_split pending front count at is first =
    let whole : pending ≡ front ++ drop count pending = sym (ap (λ (l : List ℕ). l ++ drop count pending) is ∙ take-append-drop count pending) in
    let behind : drop (at + 1) pending ≡ drop (at + 1) front ++ drop count pending =
    ap (λ (l : List ℕ). drop (at + 1) l) whole ∙ drop-append-le (at + 1) front (drop count pending) (omega (arith, first.inside)) in
    whole ∙ ap (λ (l : List ℕ). l ++ drop count pending) first.here
    ∙ append_assoc (take at front) (10 ∷ drop (at + 1) front) (drop count pending)
    ∙ ap (λ (l : List ℕ). take at front ++ 10 ∷ l) (sym behind)

-- the line feed stands in the front, so what stands before it does
before_feed : (pending front : List ℕ) (count at : ℕ) → front ≡ take count pending → IsFirstFeed front at → take at front ≡ take at pending
before_feed pending front count at is first =
    ap (λ (l : List ℕ). take at l) is ∙ take-take at count pending (omega (arith, first.inside, ap (λ (l : List ℕ). length l) is, length-take count pending))

pub passes_feed : (old new : Cutter) (front rest : List ℕ) (count at : ℕ) → front ≡ take count old.pending → IsFirstFeed front at → rest ≡ drop at old.pending →
    new.pending ≡ drop 1 rest → new.text ≡ kept (old.text ++ take at old.pending) → PassesFeed old new
passes_feed old new front rest count at is first given skipped shown =
    let behind : new.pending ≡ drop (at + 1) old.pending = skipped ∙ ap (λ (l : List ℕ). drop 1 l) given ∙ drop-drop 1 at old.pending in
    record {
      piece = take at front;
      feedless = first.before;
      split = fed_split old.pending front count at is first ∙ ap (λ (l : List ℕ). take at front ++ 10 ∷ l) (sym behind);
      text = shown ∙ ap (λ (l : List ℕ). kept (old.text ++ l)) (sym (before_feed old.pending front count at is first));
    }

pub passes_none : (old new : Cutter) (front : List ℕ) (count : ℕ) → front ≡ take count old.pending → IsFeedless front → new.pending ≡ drop count old.pending →
    new.text ≡ kept (old.text ++ take count old.pending) → PassesNone old new
passes_none old new front count is feedless rest shown = record {
  piece = front;
  feedless = feedless;
  split = sym (ap (λ (l : List ℕ). l ++ drop count old.pending) is ∙ take-append-drop count old.pending) ∙ ap (λ (l : List ℕ). front ++ l) (sym rest);
  text = shown ∙ ap (λ (l : List ℕ). kept (old.text ++ l)) (sym is);
}
