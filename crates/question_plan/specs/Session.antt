-- Lines that are answered one after another. `R` is a record, `L` a counted line. A rule says which reply is due to a line
-- after a history of records.
use Rattle.std.specs.Prelude.{ℕ, ◌*◌, Bool, List, [], ◌∷◌, ◌++◌, length, take, drop, Option, is_some, count_by}
use Rattle.std.specs.Option.{option_to_list}
use Rattle.std.specs.List.{flat_map, list_any, range_with_len}

-- the bytes of a reply, and the record that it makes, if it makes one
pub record Replied (R : Type 0) : Type 0 where
  pub bytes : List ℕ
  pub added : Option R

-- the records that replies make, in order
abbrev pub records_of : {R : Type 0} → List (Replied R) → List R
records_of replies = flat_map (λ reply. option_to_list reply.added) replies

-- their bytes, one after the other
abbrev pub bytes_of : {R : Type 0} → List (Replied R) → List ℕ
bytes_of replies = flat_map (λ reply. reply.bytes) replies

-- one reply to each line, each due after the history and the records of the replies before it
abbrev pub AreReplies : {R L : Type 0} → (List R → L → Replied R → Type 0) → List R → List L → List (Replied R) → Type 0
AreReplies rule history [] [] = Unit {0}
AreReplies rule history (line ∷ lines) (reply ∷ replies) = rule history line reply × AreReplies rule (history ++ option_to_list reply.added) lines replies
AreReplies rule history lines replies = ⊥

-- the first groups of so many lines each
abbrev pub groups : {L : Type 0} → ℕ → ℕ → List L → List L
groups batch count lines = take (count * batch) lines

-- whether one of these replies makes a record
abbrev pub makes_record : {R : Type 0} → List (Replied R) → Bool
makes_record replies = list_any (λ reply. is_some reply.added) replies

-- in how many groups of so many replies some reply makes a record
abbrev pub commits : {R : Type 0} → ℕ → List (Replied R) → ℕ
commits batch replies = count_by (λ q. makes_record (take batch (drop (q * batch) replies))) (range_with_len 0 (length replies))
