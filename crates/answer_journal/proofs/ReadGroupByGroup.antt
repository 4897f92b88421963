-- Reading a journal from its front, group by group.
use Rattle.std.proofs.Common.{◌≡◌, ◌≢◌, ℕ, ◌+◌, ◌-◌, ◌<◌, ◌≤◌, inl, inr, List, [], ◌∷◌, ◌++◌, length, get_or, take, drop, refl, sym, ap, subst, ◌∙◌, arith, append_assoc, append-nil, add-one, one-add, length-append, length-take, length-drop, take-add}
use Rattle.std.proofs.Math.Seq.{drop-cons}
use Rattle.std.proofs.lemmas.List.{take-append-drop, nil_from_length}
use Rattle.audit_types.specs.declared.shapes.Shape.{Shape}
use Rattle.audit_types.specs.declared.records.Answered.{Answered}
use Rattle.journal_form.specs.Header.{header, IsWholeShape}
use Rattle.std.specs.List.{All}
use Rattle.audit_types.specs.Shapes.{IsShape}
use Rattle.audit_types.specs.Widening.{over, widened}
use Rattle.journal_form.specs.Group.{IsWritten, GroupBreaks}
use Rattle.journal_form.specs.Journal.{Written, AreGroups, rows_after, texts, records, gate_behind, Begins, StandsAt, BreaksBehind}
use Rattle.journal_form.specs.GroupLaws.{AreGroups-push, rows_after-push, texts-push, records-push, after_groups}
use Rattle.answer_journal.specs.declared.refusals.JournalRefusal.{JournalRefusal}
use Rattle.answer_journal.specs.declared.refusals.JournalRefusal.TheVariants.{NotMade, Damaged, OtherShape, Untrue, Illegal}
use Rattle.answer_journal.specs.Moments.{IsMade}
use Rattle.answer_journal.specs.Refusals.{GroupCause, ReadCause}
use Rattle.answer_journal.proofs.Histories.{stands_by}
use Rattle.answer_journal.proofs.RecordsFit.{groups_below}

-- the bytes before the gate are the header and whole groups of these records, after which the shape is this one
pub record IsReadSoFar (bytes : List ℕ) (first shape : Shape) (list : List Answered) (gate : ℕ) : Type 0 where
  pub groups : List Written
  pub shaped : IsWholeShape first
  pub whole : AreGroups first groups
  pub front : take gate bytes ≡ header first ++ texts groups
  pub inside : gate ≤ length bytes
  pub gate_is : gate ≡ gate_behind groups
  pub shape_is : shape ≡ over (rows_after first.rows groups) first
  pub list_is : list ≡ records groups
  pub few : length list ≤ 65536

pub read_none : (bytes : List ℕ) (shape : Shape) → IsWholeShape shape → take 20 bytes ≡ header shape → IsReadSoFar bytes shape shape [] 20
read_none bytes shape shaped is = record {
  groups = [];
  shaped = shaped;
  whole = tt;
  front = is ∙ sym (append-nil (header shape));
  inside = omega (arith, ap length is, length-take 20 bytes, shaped.eight);
  gate_is = refl;
  shape_is = refl;
  list_is = refl;
  few = omega arith;
}

module _ (bytes : List ℕ) (first shape : Shape) (list : List Answered) (gate : ℕ) (read : IsReadSoFar bytes first shape list gate) where
  parts : bytes ≡ (header first ++ texts read.groups) ++ drop gate bytes
  parts = sym (take-append-drop gate bytes) ∙ ap (λ t. t ++ drop gate bytes) read.front

  at_gate : gate < length bytes → drop gate bytes ≡ get_or bytes gate 0 ∷ drop (gate + 1) bytes
  at_gate lt = rw add-one (drop-cons bytes gate 0 lt)

  -- the shape so far is a valid one
  pub shaped_so_far : IsShape shape
  shaped_so_far = subst IsShape (sym read.shape_is) (after_groups first read.groups read.shaped.valid read.whole)

  -- no record is over more rows than are in force
  pub records_below : All (λ r. r.rows.n ≤ shape.rows) list
  records_below =
      subst (λ (l : List Answered). All (λ r. r.rows.n ≤ shape.rows) l) (sym read.list_is)
      (subst (λ (s : Shape). All (λ r. r.rows.n ≤ s.rows) (records read.groups)) (sym read.shape_is) (groups_below first read.groups read.whole))

  -- the gate isn't open
  pub read_ends : gate < length bytes → get_or bytes gate 0 ≢ 1 → StandsAt bytes shape (widened shape.rows list) gate
  read_ends lt closed =
      subst (λ (l : List Answered). StandsAt bytes shape (widened shape.rows l) gate) (sym read.list_is)
      (subst (λ (s : Shape). StandsAt bytes s (widened s.rows (records read.groups)) gate) (sym read.shape_is)
      (stands_by bytes first gate read.groups (drop gate bytes) read.shaped read.whole (omega (arith, read.few, ap length read.list_is)) read.gate_is
      (record { gate = get_or bytes gate 0; rest = drop (gate + 1) bytes; bytes_are = at_gate lt; closed = closed }) parts))

  begins : Begins bytes first read.groups (drop gate bytes)
  begins =
      record {
        shaped = read.shaped;
        whole = read.whole;
        file_is = parts ∙ append_assoc (header first) (texts read.groups) (drop gate bytes);
        few = omega (arith, read.few, ap length read.list_is);
      }

  -- the next gate isn't there
  pub breaks_at_end : length bytes ≤ gate → BreaksBehind bytes gate
  breaks_at_end le = record {
    shape = first;
    groups = read.groups;
    behind = drop gate bytes;
    begins = begins;
    breaks = inl (nil_from_length (drop gate bytes) (omega (arith, length-drop gate bytes)), read.gate_is);
  }

  -- a byte breaks the group behind the open gate
  pub breaks_in_group : (at : ℕ) → gate < length bytes → get_or bytes gate 0 ≡ 1 → GroupBreaks shape (65536 - length list) (drop (gate + 1) bytes) at →
      BreaksBehind bytes (gate + 1 + at)
  breaks_in_group at lt open_gate breaks = record {
    shape = first;
    groups = read.groups;
    behind = drop gate bytes;
    begins = begins;
    breaks =
        inr (
          drop (gate + 1) bytes,
          at,
          at_gate lt ∙ ap (λ b. b ∷ drop (gate + 1) bytes) open_gate,
          subst (λ (s : Shape). GroupBreaks s (65536 - length (records read.groups)) (drop (gate + 1) bytes) at) read.shape_is
              (subst (λ (l : List Answered). GroupBreaks shape (65536 - length l) (drop (gate + 1) bytes) at) read.list_is breaks),
          ap (λ g. g + 1 + at) read.gate_is,
        );
  }

  -- why no group is read behind the open gate is why the journal isn't
  pub cause_behind : gate < length bytes → get_or bytes gate 0 ≡ 1 → IsMade bytes → (refusal : JournalRefusal)
      → GroupCause shape (65536 - length list) (drop (gate + 1) bytes) gate refusal → ReadCause refusal bytes
  cause_behind lt open_gate made NotMade is = absurd is
  cause_behind lt open_gate made (Damaged at) is =
      (made, inr (subst (λ (k : ℕ). BreaksBehind bytes k) (sym is.2) (breaks_in_group is.0 lt open_gate is.1)))
  cause_behind lt open_gate made (OtherShape kept now) is = is
  cause_behind lt open_gate made (Untrue place kept now) is = is
  cause_behind lt open_gate made (Illegal place group) is = is

  -- one group more
  pub read_more : (size : ℕ) (more : List Answered) (rows : ℕ) → gate < length bytes → get_or bytes gate 0 ≡ 1 → size ≤ length (drop (gate + 1) bytes)
      → length more ≤ 65536 - length list → IsWritten shape (take size (drop (gate + 1) bytes)) more rows
      → IsReadSoFar bytes first (over rows shape) (list ++ more) (gate + (1 + size))
  read_more size more rows lt open_gate inside few group =
      let text = take size (drop (gate + 1) bytes) in
      let added : Written = record { text = text; list = more; rows = rows } in
      let all : List Written = read.groups ++ added ∷ [] in
      let texts_are : texts all ≡ texts read.groups ++ (1 ∷ text) = texts-push read.groups added in
      let records_are : records all ≡ records read.groups ++ more = records-push read.groups added in
      let behind : take (1 + size) (drop gate bytes) ≡ 1 ∷ text = ap (take (1 + size)) (at_gate lt ∙ ap (λ b. b ∷ drop (gate + 1) bytes) open_gate)
      ∙ take-more size (drop (gate + 1) bytes) in
      record {
        groups = all;
        shaped = read.shaped;
        whole = AreGroups-push first read.groups added read.whole (subst (λ (s : Shape). IsWritten s text more rows) read.shape_is group);
        front =
            take-add gate (1 + size) bytes ∙ ap (λ t. t ++ take (1 + size) (drop gate bytes)) read.front
            ∙ ap (λ t. (header first ++ texts read.groups) ++ t) behind ∙ append_assoc (header first) (texts read.groups) (1 ∷ text)
            ∙ ap (λ t. header first ++ t) (sym texts_are);
        inside = omega (arith, inside, lt, length-drop (gate + 1) bytes);
        gate_is =
            omega (arith, read.gate_is, ap length texts_are, length-append (texts read.groups) (1 ∷ text), length-take size (drop (gate + 1) bytes), inside);
        shape_is = ap (over rows) read.shape_is ∙ ap (λ k. over k first) (sym (rows_after-push first.rows read.groups added));
        list_is = ap (λ l. l ++ more) read.list_is ∙ sym records_are;
        few = omega (arith, length-append list more, few, read.few);
      }
    where
      take-more : (n : ℕ) (rest : List ℕ) → take (1 + n) (1 ∷ rest) ≡ 1 ∷ take n rest
      take-more n rest = rw one-add refl
