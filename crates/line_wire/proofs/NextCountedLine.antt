-- How a call of the cutter goes on.
use Rattle.std.proofs.Common.{◌≡◌, ℕ, Bool, true, false, List, [], ◌∷◌, ◌++◌, refl, sym, ◌∙◌, ap, inl, inr, ◌⊎◌, append_assoc}
use Rattle.std.proofs.lemmas.List.{append-nil}
use Rattle.std.proofs.lemmas.List.Elements.{All-append, All-nil}
use Rattle.line_wire.specs.Lines.{CountedLine, text, long, is_feed, line_of, counted_lines, kept}
use Rattle.line_wire.specs.declared.lines.Next.{Next}
use Rattle.line_wire.specs.declared.lines.Next.TheVariants as next
use Rattle.line_wire.specs.Steps.{Gives, GivesLast, Answers, Counts}
use Rattle.line_wire.specs.Cutter.{StopsAt, Cutter, IsFeedless, TakesLine, PassesFeed, PassesNone, Reached, AtFeed}
use Rattle.line_wire.specs.LineLaws.{passed-nil, passed-more, counted-piece, counted-last, whole-last, line_of-kept, kept-more, kept-nil}

-- two pieces without a line feed make one
feedless-append : (a b : List ℕ) → IsFeedless a → IsFeedless b → IsFeedless (a ++ b)
feedless-append a b = All-append (λ x. is_feed x ≡ false) a b

-- before the first byte
pub starts : (now : Cutter) (left : List ℕ) → now.text ≡ [] → Reached (now.pending ++ left) now left
starts now left empty = record { skipped = []; line = []; split = refl; passed = passed-nil; feedless = All-nil _; text = empty ∙ sym kept-nil }

-- one step more, with a line feed and without
module _ (rest : List ℕ) (old new : Cutter) (left : List ℕ) (so_far : Reached rest old left) where
  pub to_feed : PassesFeed old new → AtFeed rest new left
  to_feed passes = record {
    skipped = so_far.skipped;
    line = so_far.line ++ passes.piece;
    split = so_far.split
        ∙ ap (λ (l : List ℕ). so_far.skipped ++ (so_far.line ++ (l ++ left))) passes.split
        ∙ ap (λ (l : List ℕ). so_far.skipped ++ l) regrouped;
    passed = so_far.passed;
    feedless = feedless-append so_far.line passes.piece so_far.feedless passes.feedless;
    text = passes.text ∙ ap (λ (l : List ℕ). kept (l ++ passes.piece)) so_far.text ∙ kept-more so_far.line passes.piece;
  }
    where
      regrouped : so_far.line ++ ((passes.piece ++ 10 ∷ new.pending) ++ left) ≡ (so_far.line ++ passes.piece) ++ 10 ∷ (new.pending ++ left)
      regrouped = simp append_assoc

  pub to_more : PassesNone old new → Reached rest new left
  to_more passes = record {
    skipped = so_far.skipped;
    line = so_far.line ++ passes.piece;
    split = so_far.split
        ∙ ap (λ (l : List ℕ). so_far.skipped ++ (so_far.line ++ (l ++ left))) passes.split
        ∙ ap (λ (l : List ℕ). so_far.skipped ++ l) regrouped;
    passed = so_far.passed;
    feedless = feedless-append so_far.line passes.piece so_far.feedless passes.feedless;
    text = passes.text ∙ ap (λ (l : List ℕ). kept (l ++ passes.piece)) so_far.text ∙ kept-more so_far.line passes.piece;
  }
    where
      regrouped : so_far.line ++ ((passes.piece ++ new.pending) ++ left) ≡ (so_far.line ++ passes.piece) ++ (new.pending ++ left)
      regrouped = simp append_assoc

-- bytes come from the source
pub to_read : (rest : List ℕ) (old new : Cutter) (left behind : List ℕ) → Reached rest old left → old.pending ≡ [] → left ≡ new.pending ++ behind →
    new.text ≡ old.text → Reached rest new behind
to_read rest old new left behind so_far dry read same = record {
  skipped = so_far.skipped;
  line = so_far.line;
  split =
      so_far.split ∙ ap (λ (l : List ℕ). so_far.skipped ++ (so_far.line ++ (l ++ left))) dry ∙ ap (λ (l : List ℕ). so_far.skipped ++ (so_far.line ++ l)) read;
  passed = so_far.passed;
  feedless = so_far.feedless;
  text = same ∙ so_far.text;
}

-- a line that isn't counted is passed over
pub to_next : (rest : List ℕ) (old new : Cutter) (left : List ℕ) → AtFeed rest old left → line_of old.text ≡ [] → new.text ≡ [] → new.pending ≡ old.pending →
    Reached rest new left
to_next rest old new left at none empty same = record {
  skipped = at.skipped ++ (at.line ++ 10 ∷ []);
  line = [];
  split = at.split ∙ regrouped ∙ ap (λ (l : List ℕ). (at.skipped ++ (at.line ++ 10 ∷ [])) ++ (l ++ left)) (sym same);
  passed = passed-more at.skipped at.line at.passed at.feedless (sym (line_of-kept at.line) ∙ ap line_of (sym at.text) ∙ none);
  feedless = All-nil _;
  text = empty ∙ sym kept-nil;
}
  where
    regrouped : at.skipped ++ (at.line ++ 10 ∷ (old.pending ++ left)) ≡ (at.skipped ++ (at.line ++ 10 ∷ [])) ++ (old.pending ++ left)
    regrouped = simp append_assoc

-- a counted line is given
pub gives_line : (rest : List ℕ) (old new : Cutter) (left : List ℕ) (line : CountedLine) → AtFeed rest old left → line_of old.text ≡ line ∷ [] →
    new.pending ≡ old.pending → TakesLine rest new.ended line (new.pending ++ left)
gives_line rest old new left line at is same = record {
  skipped = at.skipped;
  piece = at.line;
  passed = at.passed;
  feedless = at.feedless;
  counted = sym (line_of-kept at.line) ∙ ap line_of (sym at.text) ∙ is;
  ends = inl (at.split ∙ ap (λ (l : List ℕ). at.skipped ++ (at.line ++ 10 ∷ (l ++ left))) (sym same));
}

-- no line whose line feed is there was passed
pub no_whole : (rest : List ℕ) (now : Cutter) (left : List ℕ) → Reached rest now left → StopsAt rest (now.pending ++ left)
no_whole rest now left so_far = record {
  front = so_far.skipped ++ so_far.line;
  split = so_far.split ∙ sym (append_assoc so_far.skipped so_far.line (now.pending ++ left));
  none = so_far.passed.whole so_far.line ∙ whole-last so_far.line so_far.feedless;
}

-- what a line that its line feed ends counts as is given
pub answers_fed : (answer : Next) (rest : List ℕ) (old new : Cutter) (left : List ℕ) → AtFeed rest old left → Gives answer new.text (line_of old.text) →
    new.pending ≡ old.pending → Answers answer rest new left
answers_fed next.Line rest old new left at gives same = gives_line rest old new left (text new.text) at gives same
answers_fed next.Long rest old new left at gives same = gives_line rest old new left long at gives.0 same
answers_fed next.End rest old new left at gives same = absurd gives

-- the bytes that are left at the end of the input
gives_last : (rest : List ℕ) (old new : Cutter) (left : List ℕ) (line : CountedLine) → Reached rest old left → old.pending ≡ [] → left ≡ []
    → line_of old.text ≡ line ∷ [] → new.pending ≡ old.pending → new.ended ≡ true
    → TakesLine rest new.ended line (new.pending ++ left)
gives_last rest old new left line so_far dry none is same ended = record {
  skipped = so_far.skipped;
  piece = so_far.line;
  passed = so_far.passed;
  feedless = so_far.feedless;
  counted = sym (line_of-kept so_far.line) ∙ ap line_of (sym so_far.text) ∙ is;
  ends = inr (at_end rest old left so_far dry none, ap (λ (l : List ℕ). l ++ left) (same ∙ dry) ∙ none, ended);
}
  where
    at_end : (rest : List ℕ) (old : Cutter) (left : List ℕ) (so_far : Reached rest old left) → old.pending ≡ [] → left ≡ [] →
        rest ≡ so_far.skipped ++ so_far.line
    at_end rest old left so_far dry none =
        so_far.split
        ∙ ap (λ (l : List ℕ). so_far.skipped ++ (so_far.line ++ (l ++ left))) dry
        ∙ ap (λ (l : List ℕ). so_far.skipped ++ (so_far.line ++ l)) none
        ∙ ap (λ (l : List ℕ). so_far.skipped ++ l) (append-nil so_far.line)

-- what the bytes at the end of the input count as is given
pub answers_last : (answer : Next) (rest : List ℕ) (old new : Cutter) (left : List ℕ) → Reached rest old left → old.pending ≡ [] → left ≡ []
    → new.pending ≡ old.pending → new.ended ≡ true
    → GivesLast answer new.text (line_of old.text) → Answers answer rest new left
answers_last next.Line rest old new left so_far dry none same ended gives = gives_last rest old new left (text new.text) so_far dry none gives same ended
answers_last next.Long rest old new left so_far dry none same ended gives = gives_last rest old new left long so_far dry none gives.0 same ended
answers_last next.End rest old new left so_far dry none same ended gives = (
  ap (λ (l : List ℕ). l ++ left) (same ∙ dry) ∙ none,
  ap counted_lines
      (so_far.split ∙ ap (λ (l : List ℕ). so_far.skipped ++ (so_far.line ++ (l ++ left))) dry ∙ ap (λ (l : List ℕ). so_far.skipped ++ (so_far.line ++ l)) none
      ∙ ap (λ (l : List ℕ). so_far.skipped ++ l) (append-nil so_far.line))
      ∙ so_far.passed.counted so_far.line ∙ counted-last so_far.line so_far.feedless ∙ sym (line_of-kept so_far.line) ∙ ap line_of (sym so_far.text) ∙ gives.0,
)

-- if nothing was left, nothing is
pub none_left : (before pending after : List ℕ) → before ≡ pending ++ after → before ≡ [] → after ≡ []
none_left before [] after is none = sym is ∙ none
none_left before (b ∷ pending) after is none = let no : b ∷ (pending ++ after) ≡ [] = sym is ∙ none in cc

-- the first counted line, and those after it, are the counted lines
takes_counted : (rest : List ℕ) (ended : Bool) (line : CountedLine) (behind : List ℕ) → TakesLine rest ended line behind →
    counted_lines rest ≡ line ∷ counted_lines behind
takes_counted rest ended line behind takes = by_end takes.ends
  where
    by_end : (rest ≡ takes.skipped ++ (takes.piece ++ 10 ∷ behind)) ⊎ ((rest ≡ takes.skipped ++ takes.piece) × (behind ≡ []) × (ended ≡ true)) →
        counted_lines rest ≡ line ∷ counted_lines behind
    by_end (inl is) =
        ap counted_lines is ∙ takes.passed.counted (takes.piece ++ 10 ∷ behind) ∙ counted-piece takes.piece behind takes.feedless
        ∙ ap (λ (ls : List CountedLine). ls ++ counted_lines behind) takes.counted
    by_end (inr last) =
        ap counted_lines last.0 ∙ takes.passed.counted takes.piece ∙ counted-last takes.piece takes.feedless ∙ takes.counted
        ∙ ap (λ (l : List ℕ). line ∷ counted_lines l) (sym last.1)

-- what an answer gives, as a list of counted lines
pub counts_from : (answer : Next) (rest : List ℕ) (new : Cutter) (left : List ℕ) → Answers answer rest new left →
    Counts answer (counted_lines rest) new.text (counted_lines (new.pending ++ left))
counts_from next.Line rest new left takes = takes_counted rest new.ended (text new.text) (new.pending ++ left) takes
counts_from next.Long rest new left takes = takes_counted rest new.ended long (new.pending ++ left) takes
counts_from next.End rest new left none = none.1
