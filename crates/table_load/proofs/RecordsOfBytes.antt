-- The records that reads of a file have given are the first ones of the file.
use Rattle.std.proofs.Common.{◌≡◌, ℕ, zero, suc, ◌+◌, ◌<◌, ◌≤◌, Bool, true, false, ◌||◌, List, [], ◌∷◌, ◌++◌, length, Option, Some, None, refl, sym, ap, ◌∙◌, arith, subst, append-nil}
use Rattle.std.specs.Prelude.{if◌then◌else◌, ◌==◌, is_some}
use Rattle.std.proofs.lemmas.Bool.{false≢true}
use Rattle.csv.specs.Machine.{Read, next_record, step, in_field, start_field, start_record, is_end, ends_at_end, after_end, fields_after, field_after}
use Rattle.csv.specs.Reading.{default_config, records_from, records_next, Reached, strip_bom}
use Rattle.table_load.specs.Reading.{records_of}
use Rattle.csv.specs.declared.parser.State.{State}
use Rattle.csv.specs.declared.parser.State.TheVariants as st
use Rattle.csv.specs.declared.parser.Action.{Action}
use Rattle.csv.specs.declared.parser.Action.TheVariants as act

-- if a step ends a record, the next one hasn't begun
abbrev Rests : State × Action → Type 0
Rests p = is_end p.1 ≡ true → ends_at_end p.0 ≡ false

-- after the end of a line no record has begun
rests_end : (c : ℕ) (b : Bool) → ends_at_end (if b then st.AfterCr else st.StartRecord) ≡ false
rests_end c true = refl
rests_end c false = refl

-- the same, of a byte in a field
rests_field : (c : ℕ) (a b : Bool) →
    Rests (if a then (st.StartField, act.EndField) else (if b then (after_end default_config.terminator c, act.EndRecord) else (st.InField, act.Copy)))
rests_field c true b = λ h. absurd (false≢true h)
rests_field c false true = λ h. rests_end c (c == 13)
rests_field c false false = λ h. absurd (false≢true h)

-- the same, of a byte within a field
rests_in_field : (c : ℕ) → Rests (in_field default_config c)
rests_in_field c = rests_field c (c == 44) ((c == 13) || (c == 10))

-- the same, of a byte that may be a quote
rests_quote : (c : ℕ) (b : Bool) → Rests (if b then (st.InQuoted, act.Skip) else in_field default_config c)
rests_quote c true = λ h. absurd (false≢true h)
rests_quote c false = rests_in_field c

-- the same, of a byte after a quote
rests_copy : (c : ℕ) (b : Bool) → Rests (if b then (st.InQuoted, act.Copy) else in_field default_config c)
rests_copy c true = λ h. absurd (false≢true h)
rests_copy c false = rests_in_field c

-- the same, of the first byte of a record
rests_start : (c : ℕ) (b : Bool) → Rests (if b then (st.StartRecord, act.Skip) else start_field default_config c)
rests_start c true = λ h. absurd (false≢true h)
rests_start c false = rests_quote c (c == 34)

-- the same, of a byte within quotes
rests_quoted : (c : ℕ) (b : Bool) → Rests (if b then (st.AfterQuote, act.Skip) else (st.InQuoted, act.Copy))
rests_quoted c true = λ h. absurd (false≢true h)
rests_quoted c false = λ h. absurd (false≢true h)

-- the same, of a byte of a comment
rests_comment : (c : ℕ) (b : Bool) → Rests (if b then (st.StartRecord, act.Skip) else (st.InComment, act.Skip))
rests_comment c true = λ h. absurd (false≢true h)
rests_comment c false = λ h. absurd (false≢true h)

-- a step that ends a record begins no other
rests : (s : State) (c : ℕ) → Rests (step default_config s c)
rests st.StartRecord c = rests_start c ((c == 13) || (c == 10))
rests st.StartField c = rests_quote c (c == 34)
rests st.InField c = rests_in_field c
rests st.InQuoted c = rests_quoted c (c == 34)
rests st.InEscape c = λ h. absurd (false≢true h)
rests st.AfterQuote c = rests_copy c (c == 34)
rests st.InComment c = rests_comment c (c == 10)
rests st.AfterCr c = by (c == 10)
  where
    by : (b : Bool) → Rests (if b then (st.StartRecord, act.Skip) else start_record default_config c)
    by true = λ h. absurd (false≢true h)
    by false = rests_start c ((c == 13) || (c == 10))

-- a record that was read leaves at most n bytes, and the next one has not begun
abbrev IsShort : Option Read → ℕ → Type 0
IsShort None n = Unit {0}
IsShort (Some p) n = (length p.2 ≤ n) × (ends_at_end p.1 ≡ false)

-- what is short enough is so for a longer text
longer : (o : Option Read) (n : ℕ) → IsShort o n → IsShort o (suc n)
longer None n h = tt
longer (Some p) n h = (omega (arith, h.0), h.1)

-- a read that goes on after one byte leaves less than there was
short_step : (s : State) (f : List (List ℕ)) (p : List ℕ) (c : ℕ) (rest : List ℕ)
    → IsShort
    (next_record default_config (step default_config s c).0 (fields_after (step default_config s c).1 f p) (field_after (step default_config s c).1 c p) rest)
    (length rest)
    → IsShort (next_record default_config s f p (c ∷ rest)) (length rest)
unfolding next_record
short_step s f p c rest = by (is_end (step default_config s c).1) (rests s c)
  where
    by : (b : Bool) → (b ≡ true → ends_at_end (step default_config s c).0 ≡ false)
        → IsShort
        (next_record default_config (step default_config s c).0 (fields_after (step default_config s c).1 f p)
        (field_after (step default_config s c).1 c p) rest)
        (length rest)
        → IsShort
        (if b then Some (fields_after (step default_config s c).1 f p, (step default_config s c).0, rest)
        else next_record default_config (step default_config s c).0 (fields_after (step default_config s c).1 f p)
        (field_after (step default_config s c).1 c p) rest)
        (length rest)
    by true r h = (omega arith, r refl)
    by false r h = h

-- a read leaves no more than there was
short : (s : State) (f : List (List ℕ)) (p : List ℕ) (xs : List ℕ) → IsShort (next_record default_config s f p xs) (length xs)
unfolding next_record
short s f p [] = by (ends_at_end s)
  where
    by : (b : Bool) → IsShort (if b then Some (f ++ (p ∷ []), st.StartRecord, []) else None) 0
    by true = (omega arith, refl)
    by false = tt
short s f p (c ∷ rest) =
    longer _ (length rest)
    (short_step s f p c rest (short (step default_config s c).0 (fields_after (step default_config s c).1 f p)
    (field_after (step default_config s c).1 c p) rest))

-- a read of some bytes leaves fewer
short_more : (s : State) (f : List (List ℕ)) (p : List ℕ) (c : ℕ) (rest : List ℕ) → IsShort (next_record default_config s f p (c ∷ rest)) (length rest)
short_more s f p c rest =
    short_step s f p c rest
    (short (step default_config s c).0 (fields_after (step default_config s c).1 f p) (field_after (step default_config s c).1 c p) rest)

-- a read that gave a record, if none had begun, took at least one byte
took : (s : State) (xs : List ℕ) (p : Read) → ends_at_end s ≡ false → next_record default_config s [] [] xs ≡ Some p →
    (length p.2 < length xs) × (ends_at_end p.1 ≡ false)
unfolding next_record
took s [] p fresh is = absurd (false≢true (ap is_some (sym (ap (λ b. if b then Some ([] ++ ([] ∷ []), st.StartRecord, []) else None) fresh) ∙ is)))
took s (c ∷ rest) p fresh is = let h = subst (λ o. IsShort o (length rest)) is (short_more s [] [] c rest) in (omega (arith, h.0), h.1)

-- records that were reached stand at the front of all, and what follows them is read from there
reached_front : (rows : List (List (List ℕ))) (n : ℕ) (s : State) (xs : List ℕ) (s2 : State) (ys : List ℕ) → ends_at_end s ≡ false → length xs < n
    → Reached default_config s xs rows s2 ys
    → (m : ℕ) × (0 < m) × (records_from default_config n s xs ≡ rows ++ records_from default_config m s2 ys)
unfolding Reached records_from
reached_front rows zero s xs s2 ys fresh short_of reached = absurd (omega (arith, short_of))
reached_front [] (suc n) s xs s2 ys fresh short_of reached = (
  suc n,
  omega arith,
  ap (λ t. records_next (records_from default_config n) (next_record default_config t [] [] xs)) reached.0
      ∙ ap (λ zs. records_next (records_from default_config n) (next_record default_config s2 [] [] zs)) reached.1,
)
reached_front (r ∷ rs) (suc n) s xs s2 ys fresh short_of reached =
    let p = reached.0 in
    let t = took s xs p fresh reached.1 in
    let later = reached_front rs n p.1 p.2 s2 ys t.1 (omega (arith, short_of, t.0)) reached.3 in (
      later.0,
      later.1,
      ap (records_next (records_from default_config n)) reached.1
          ∙ ap (λ x. x ∷ records_from default_config n p.1 p.2) (sym reached.2)
          ∙ ap (λ x. r ∷ x) later.2,
    )

-- nothing follows if no record is left
none_left : (m : ℕ) (s : State) (ys : List ℕ) → 0 < m → next_record default_config s [] [] ys ≡ None → records_from default_config m s ys ≡ []
unfolding records_from
none_left zero s ys some none = absurd (omega (arith, some))
none_left (suc m) s ys some none = ap (records_next (records_from default_config m)) none

-- the records that were reached, and the others
pub front_of_records : (bytes : List ℕ) (rows : List (List (List ℕ))) (s2 : State) (ys : List ℕ)
    → Reached default_config st.StartRecord (strip_bom bytes) rows s2 ys
    → (rest : List (List (List ℕ))) × (records_of bytes ≡ rows ++ rest)
front_of_records bytes rows s2 ys reached =
    let front = reached_front rows (length (strip_bom bytes) + 1) st.StartRecord (strip_bom bytes) s2 ys refl (omega arith) reached in
    (records_from default_config front.0 s2 ys, front.2)

-- all the records, if none is left
pub all_of_records : (bytes : List ℕ) (rows : List (List (List ℕ))) (s2 : State) (ys : List ℕ)
    → Reached default_config st.StartRecord (strip_bom bytes) rows s2 ys → next_record default_config s2 [] [] ys ≡ None
    → records_of bytes ≡ rows
all_of_records bytes rows s2 ys reached none =
    let front = reached_front rows (length (strip_bom bytes) + 1) st.StartRecord (strip_bom bytes) s2 ys refl (omega arith) reached in
    front.2 ∙ ap (λ rest. rows ++ rest) (none_left front.0 s2 ys front.1 none) ∙ append-nil rows
