-- The bytes of a journal's groups, gathered group by group.
use Rattle.std.proofs.Common.{◌≡◌, ℕ, ◌+◌, ◌*◌, ◌-◌, ◌<◌, ◌≤◌, inl, inr, ◌⊎◌, List, [], ◌∷◌, ◌++◌, length, take, drop, min, refl, sym, ap, subst, ◌∙◌, arith, append_assoc, append-nil, length-append, length-take}
use Rattle.std.specs.List.{AllByRecursion}
use Rattle.std.proofs.Math.Seq.{take-append-add, take-append_seam}
use Rattle.std.proofs.lemmas.Bool.{cases_lt}
use Rattle.std.proofs.lemmas.List.{take-append-drop, take_all}
use Rattle.audit_types.specs.ListLaws.{all-push}
use Rattle.audit_types.specs.declared.shapes.Shape.{Shape}
use Rattle.audit_types.specs.declared.records.Answered.{Answered}
use Rattle.journal_form.specs.Header.{named, IsWholeShape}
use Rattle.journal_form.specs.Group.{IsGroup}
use Rattle.journal_form.specs.Journal.{Written, texts, records}
use Rattle.journal_form.specs.GroupLaws.{texts-push, records-push}
use Rattle.answer_journal.specs.Whole.{AreBehindGate, IsOfRecords}

-- the first records stand in groups, each full but for the last of all
pub record IsSoFar (shape : Shape) (list : List Answered) (at : ℕ) (bytes : List ℕ) : Type 0 where
  pub within : at ≤ length list
  pub groups : List Written
  pub of_records : AllByRecursion (IsOfRecords shape) groups
  pub list_is : take at list ≡ records groups
  pub full : (64 * length groups ≡ at) ⊎ ((at ≡ length list) × (64 * length groups < at + 64))
  pub bytes_are : bytes ≡ named shape ++ texts groups

pub nothing_yet : (shape : Shape) (list : List Answered) (bytes : List ℕ) → bytes ≡ named shape → IsSoFar shape list 0 bytes
nothing_yet shape list bytes is = record
    { within = omega arith; groups = []; of_records = tt; list_is = refl; full = inl refl; bytes_are = is ∙ sym (append-nil (named shape)) }

take-more : (list : List Answered) (at k : ℕ) → at ≤ length list → take (at + k) list ≡ take at list ++ take k (drop at list)
take-more list at k within =
    let long : length (take at list) ≡ at = omega (arith, within, length-take at list) in
    ap (take (at + k)) (sym (take-append-drop at list)) ∙ ap (λ n. take (n + k) (take at list ++ drop at list)) (sym long)
    ∙ take-append-add (take at list) (drop at list) k

-- another group is full, or the last
filled : (count at next total : ℕ) → (64 * count ≡ at) ⊎ ((at ≡ total) × (64 * count < at + 64)) → at < total → next ≡ min total (at + 64) →
    (64 * (count + 1) ≡ next) ⊎ ((next ≡ total) × (64 * (count + 1) < next + 64))
filled count at next total (inr last) more is = absurd (omega (arith, more, last.0))
filled count at next total (inl full) more is = elim (cases_lt total (at + 64)) [
  | inl short ↦ inr (omega (arith, short, is), omega (arith, short, is, full, more))
  | inr rest ↦ inl (omega (arith, rest, is, full))
]

pub one_group_more : (shape : Shape) (list : List Answered) (at next : ℕ) (bytes now text : List ℕ) (group : List Answered) → IsSoFar shape list at bytes →
    at < length list →
    next ≡ min (length list) (at + 64) → group ≡ take (next - at) (drop at list) → IsGroup shape text group → now ≡ bytes ++ 1 ∷ text →
    IsSoFar shape list next now
one_group_more shape list at next bytes now text group so_far more next_is group_is is now_is = record {
  within = omega arith;
  groups = so_far.groups ++ record { text = text; list = group; rows = shape.rows } ∷ [];
  of_records = all-push (IsOfRecords shape) so_far.groups (record { text = text; list = group; rows = shape.rows }) so_far.of_records (is, refl);
  list_is =
      ap (λ n. take n list) between ∙ take-more list at (next - at) so_far.within ∙ ap (λ l. l ++ take (next - at) (drop at list)) so_far.list_is
      ∙ ap (λ l. records so_far.groups ++ l) (sym group_is) ∙ sym (records-push so_far.groups (record { text = text; list = group; rows = shape.rows }));
  full =
      let longer : length (so_far.groups ++ record { text = text; list = group; rows = shape.rows } ∷ []) ≡ length so_far.groups + 1 =
      length-append so_far.groups (record { text = text; list = group; rows = shape.rows } ∷ []) in
      subst (λ n. (64 * n ≡ next) ⊎ ((next ≡ length list) × (64 * n < next + 64))) (sym longer)
      (filled (length so_far.groups) at next (length list) so_far.full more next_is);
  bytes_are =
      now_is ∙ ap (λ l. l ++ (1 ∷ text)) so_far.bytes_are ∙ append_assoc (named shape) (texts so_far.groups) (1 ∷ text)
      ∙ ap (λ l. named shape ++ l) (sym (texts-push so_far.groups (record { text = text; list = group; rows = shape.rows })));
}
  where
    between : next ≡ at + (next - at)
    between = omega arith

-- all records stand in groups, and a closed gate after them
pub all_gathered : (shape : Shape) (list : List Answered) (at : ℕ) (bytes now : List ℕ) → IsWholeShape shape → IsSoFar shape list at bytes → length list ≤ at →
    now ≡ bytes ++ 0 ∷ [] → AreBehindGate shape list now
all_gathered shape list at bytes now shaped so_far past now_is =
    let end : at ≡ length list = omega (arith, so_far.within, past) in
    record {
      shaped = shaped;
      groups = so_far.groups;
      of_records = so_far.of_records;
      list_is = sym (take_all at list past) ∙ so_far.list_is;
      fewest = elim so_far.full [ inl full ↦ omega (arith, full, end) | inr last ↦ omega (arith, last.1, end) ];
      bytes_are = now_is ∙ ap (λ l. l ++ 0 ∷ []) so_far.bytes_are ∙ append_assoc (named shape) (texts so_far.groups) (0 ∷ []);
    }

-- what write_header writes between its first byte and its last
pub header_front : (shape : Shape) (out : List ℕ) → length shape.kinds ≡ 8 → out ≡ 0 ∷ (named shape ++ 0 ∷ []) → take 19 (drop 1 out) ≡ named shape
header_front shape out eight is =
    let long : length (named shape) ≡ 19 = omega (arith, eight) in
    ap (λ o. take 19 (drop 1 o)) is ∙ ap (λ n. take n (named shape ++ 0 ∷ [])) (sym long) ∙ take-append_seam (named shape) (0 ∷ [])
