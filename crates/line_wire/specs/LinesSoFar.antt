-- What was read of an input so far, line by line, and what each end of reading says of it.
use Rattle.std.proofs.Common.{◌≡◌, ℕ, ◌+◌, ◌<◌, ◌≤◌, Bool, true, false, List, [], ◌∷◌, ◌++◌, length, take, refl, sym, ◌∙◌, ap, subst, arith, ⊎_elim, append_assoc, length-append}
use Rattle.std.proofs.Math.Seq.{take-append_seam}
use Rattle.std.proofs.lemmas.Bool.{false≢true}
use Rattle.std.proofs.lemmas.List.{append-nil}
use Rattle.bench_core.specs.declared.source.Source.{Ghosts}
use Rattle.line_wire.specs.Lines.{CountedLine, counted_lines, most_input}
use Rattle.line_wire.specs.Cutter.{Cutter, StopsAt}
use Rattle.line_wire.specs.Calls.{Cuts, GivesLine, GivesNone, FailsRead, PassesLimit}
use Rattle.line_wire.specs.ReadLines.{IsRead, ReadsLines}
use Rattle.line_wire.specs.LinesInTurn.{nil_parts, reads_none, reads_more}
use Rattle.line_wire.specs.WhichLines.{AreFirst, AreRead, AreWithin}

-- nothing is left of an input that was read within the limit
pub all_within : (input pending left : List ℕ) (taken : ℕ) → pending ++ left ≡ [] → taken + length left ≡ length input → taken ≤ most_input + length pending →
    (left ≡ []) × (length input ≤ most_input)
all_within input pending left taken none read within =
    let parts = nil_parts pending left (sym none) in
    (parts.1, omega (arith, read, within, ap (λ (l : List ℕ). length l) parts.0, ap (λ (l : List ℕ). length l) parts.1))

-- bytes are left at the limit
pub not_over : (rest front pending left : List ℕ) → rest ≡ front ++ (pending ++ left) → 0 < length pending → rest ≡ [] → ⊥
not_over rest front pending left split some none =
    omega (arith, ap (λ (l : List ℕ). length l) (sym none ∙ split), length-append front (pending ++ left), length-append pending left, some)

-- the lines that were read are those before the place where reading stopped
pub read_to_stop : (input rest left : List ℕ) (ended : Bool) (lines : List CountedLine) → ReadsLines input rest ended lines → (ended ≡ true → rest ≡ [] → ⊥) →
    StopsAt rest left → AreRead input left lines
read_to_stop input rest left ended lines reads going stop = record {
  read = reads.read ++ stop.front;
  split = reads.split ∙ ap (λ (l : List ℕ). reads.read ++ l) stop.split ∙ sym (append_assoc reads.read stop.front left);
  are =
      sym (⊎_elim (λ (is : IsRead reads.read lines). is stop.front) (λ over. absurd (going over.0 over.1)) reads.whole
      ∙ ap (λ (ls : List CountedLine). lines ++ ls) stop.none ∙ append-nil lines);
}

-- these counted lines of an input were read, and no read failed
pub record LinesSoFar {P : Type 0} (source : Ghosts P) (first from : P) (cutter : Cutter) (lines : List CountedLine) : Type 0 where
  pub reads : source.told → ReadsLines (source.left first) (cutter.pending ++ source.left from) cutter.ended lines
  pub same : source.told → cutter.ended ≡ true → source.left from ≡ []
  pub taken : source.told → cutter.taken + length (source.left from) ≡ length (source.left first)
  pub within : cutter.taken ≤ most_input + length cutter.pending
  pub counts : length lines + length cutter.pending ≤ cutter.taken
  pub steady : source.faults from ≡ source.faults first

module _ {P : Type 0} (source : Ghosts P) (first : P) where
  -- before the first call none was
  pub none_yet : (cutter : Cutter) → (cutter.taken ≡ 0) × (cutter.pending ≡ []) × (cutter.ended ≡ false) → LinesSoFar source first first cutter []
  none_yet cutter fresh = record {
    reads =
        λ told. subst (λ (rest : List ℕ). ReadsLines (source.left first) rest cutter.ended [])
        (ap (λ (l : List ℕ). l ++ source.left first) (sym fresh.1)) (reads_none (source.left first) cutter.ended);
    same = λ told ended. absurd (false≢true (sym fresh.2 ∙ ended));
    taken = λ told. omega (arith, fresh.0);
    within = omega (arith, fresh.0);
    counts = omega (arith, fresh.0, ap (λ (l : List ℕ). length l) fresh.1);
    steady = refl;
  }

  module _ (from : P) (cutter : Cutter) (lines : List CountedLine) (so_far : LinesSoFar source first from cutter lines) where
    -- they are the first of the input
    pub first_lines : source.told → AreFirst (counted_lines (source.left first)) lines
    first_lines told = record {
      count = length lines;
      are =
          sym (ap (λ (ls : List CountedLine). take (length lines) ls) (so_far.reads told).counted
          ∙ take-append_seam lines (counted_lines (cutter.pending ++ source.left from)));
    }

    module _ (after : P) (new : Cutter) (cuts : Cuts source cutter new from after) where
      -- one line more
      pub one_line_more : (line : CountedLine) → GivesLine source cutter new from after line → LinesSoFar source first after new (lines ++ line ∷ [])
      one_line_more line gives = record {
        reads =
            λ told. reads_more (source.left first) (cutter.pending ++ source.left from) (new.pending ++ source.left after) cutter.ended new.ended lines
            (line ∷ []) (so_far.reads told) (gives.reads told) cuts.still;
        same = cuts.same;
        taken = λ told. cuts.taken told ∙ so_far.taken told;
        within = cuts.within;
        counts = omega (arith, so_far.counts, gives.takes, length-append lines (line ∷ []));
        steady = gives.steady ∙ so_far.steady;
      }

      -- no line is left: they are all, and all of the input was read, within the limit
      module _ (none : GivesNone source cutter new from after) (told : source.told) where
        pub all_lines : counted_lines (source.left first) ≡ lines
        all_lines = (so_far.reads told).counted ∙ ap (λ (ls : List CountedLine). lines ++ ls) (none.none told) ∙ append-nil lines

        pub all_input : (source.left after ≡ []) × (length (source.left first) ≤ most_input)
        all_input =
            all_within (source.left first) new.pending (source.left after) new.taken (none.nothing told) (cuts.taken told ∙ so_far.taken told) cuts.within

      -- a read failed
      module _ (fails : FailsRead source cutter new from after) (told : source.told) where
        pub lines_read : AreRead (source.left first) (source.left after) lines
        lines_read =
            read_to_stop (source.left first) (cutter.pending ++ source.left from) (source.left after) cutter.ended lines (so_far.reads told)
            (λ ended none. fails.going ended) (fails.stops told)

        pub input_read : length (source.left first) ≤ most_input + length (source.left after)
        input_read = omega (arith, fails.within, cuts.taken told, so_far.taken told)

      -- the limit was passed
      module _ (passes : PassesLimit source cutter new from after) (told : source.told) where
        pub lines_within : AreWithin (source.left first) lines
        lines_within =
            let rest = new.pending ++ source.left after in
            let stop = passes.stops told in
            let read = read_to_stop (source.left first) (cutter.pending ++ source.left from) rest cutter.ended lines (so_far.reads told)
            (λ ended. not_over (cutter.pending ++ source.left from) stop.front new.pending (source.left after) stop.split passes.some) stop in
            record {
              read = read.read;
              behind = rest;
              split = read.split;
              size =
                  omega (
                    arith,
                    ap (λ (l : List ℕ). length l) read.split,
                    length-append read.read rest,
                    length-append new.pending (source.left after),
                    passes.over,
                    cuts.taken told,
                    so_far.taken told,
                  );
              are = read.are;
            }

        pub input_over : most_input + length (source.left after) < length (source.left first)
        input_over = omega (arith, passes.over, passes.some, cuts.taken told, so_far.taken told)
