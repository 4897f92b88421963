-- The shape of a table with a schema's columns is valid, and names each secret column's kind.
use Rattle.std.proofs.Common.{◌≡◌, ℕ, zero, suc, ◌+◌, ◌<◌, ◌≤◌, Bool, true, false, cond, List, [], ◌∷◌, ◌++◌, length, take, filter, replicate, get_or, Option, Some, None, refl, sym, ap, ◌∙◌, arith, inl, inr, subst, one-add}
use Rattle.std.specs.Prelude.{option_map, option_and_then, unwrap_or, slice_get, nat_lt, count_by}
use Rattle.std.specs.List.{AllByRecursion}
use Rattle.std.proofs.lemmas.List.{get_or-take}
use Rattle.std.proofs.Math.ListN.{get_or-append}
use Rattle.std.proofs.lemmas.List.Sums.{sum_by-cons}
use Rattle.audit_types.specs.Limits.{most_rows}
use Rattle.audit_types.specs.Shapes.{IsShape, AreKinds, columns, kind_at, kind_of_byte}
use Rattle.schema_json.specs.Columns.{Column, AreColumns, is_secret, secret_count, secret_place, role_at}
use Rattle.schema_json.specs.SecretShape.{IsSecretOf, kind_bytes, kind_byte_and, kind_of_role, shape_of}
use Rattle.schema_json.specs.declared.roles.Role.{Role}
use Rattle.schema_json.specs.declared.roles.Role.TheVariants as role
use Rattle.schema_json.proofs.ShapeKinds.{kinds_count, at_most_eight}

-- zeros alone
all_zeros : (m n : ℕ) → AllByRecursion (λ x. x ≡ 0) (take {A = ℕ} m (replicate n 0))
all_zeros zero n = tt
all_zeros (suc m) zero = tt
all_zeros (suc m) (suc n) = (refl, all_zeros m n)

-- a kind byte before kind bytes
kinds_before : (r : Role) (bytes : List ℕ) (m : ℕ) → ((k : ℕ) → AreKinds (take k bytes)) → AreKinds (take m (kind_byte_and r bytes))
kinds_before role.Text bytes m later = later m
kinds_before role.Number bytes m later = later m
kinds_before role.Count bytes m later = later m
kinds_before role.Sum bytes zero later = tt
kinds_before role.Sum bytes (suc m) later = inl ((omega arith, omega arith), later m)
kinds_before role.Max bytes zero later = tt
kinds_before role.Max bytes (suc m) later = inl ((omega arith, omega arith), later m)
kinds_before role.Min bytes zero later = tt
kinds_before role.Min bytes (suc m) later = inl ((omega arith, omega arith), later m)

-- a kind byte before others, with what follows them all
before-append : (r : Role) (bytes more : List ℕ) → kind_byte_and r bytes ++ more ≡ kind_byte_and r (bytes ++ more)
before-append role.Text bytes more = refl
before-append role.Number bytes more = refl
before-append role.Count bytes more = refl
before-append role.Sum bytes more = refl
before-append role.Max bytes more = refl
before-append role.Min bytes more = refl

-- the bytes of the secret columns, and zeros after them, are kinds
are_kinds : (cs : List Column) (m n : ℕ) → AreKinds (take m (kind_bytes cs ++ replicate n 0))
are_kinds [] zero n = tt
are_kinds [] (suc m) zero = tt
are_kinds [] (suc m) (suc n) = inr (refl, all_zeros m n)
are_kinds (c ∷ cs) m n =
    let whole = before-append c.role (kind_bytes cs) (replicate n 0) in
    let P : List ℕ → Type 0 = λ bytes. AreKinds (take m bytes) in
    subst P (sym whole) (kinds_before c.role (kind_bytes cs ++ replicate n 0) m (λ k. are_kinds cs k n))

-- zeros name no column
none_counted : (m n : ℕ) → count_by (λ b. nat_lt 0 b) (take m (replicate n 0)) ≡ 0
none_counted zero n = refl
none_counted (suc m) zero = refl
none_counted (suc m) (suc n) = none_counted m n

-- a kind byte counts
counted_before : (r : Role) (bytes : List ℕ) (m n : ℕ)
    → ((k : ℕ) → length bytes ≤ k → count_by (λ b. nat_lt 0 b) (take k (bytes ++ replicate n 0)) ≡ length bytes)
    → length (kind_byte_and r bytes) ≤ m → count_by (λ b. nat_lt 0 b) (take m (kind_byte_and r bytes ++ replicate n 0)) ≡ length (kind_byte_and r bytes)
counted_before role.Text bytes m n later fits = later m fits
counted_before role.Number bytes m n later fits = later m fits
counted_before role.Count bytes m n later fits = later m fits
counted_before role.Sum bytes zero n later fits = absurd (omega (arith, fits))
counted_before role.Sum bytes (suc m) n later fits =
    sum_by-cons (λ b. cond (nat_lt 0 b) 1 0) 1 (take m (bytes ++ replicate n 0)) ∙ ap (λ n. 1 + n) (later m (omega (arith, fits))) ∙ one-add (length bytes)
counted_before role.Max bytes zero n later fits = absurd (omega (arith, fits))
counted_before role.Max bytes (suc m) n later fits =
    sum_by-cons (λ b. cond (nat_lt 0 b) 1 0) 2 (take m (bytes ++ replicate n 0)) ∙ ap (λ n. 1 + n) (later m (omega (arith, fits))) ∙ one-add (length bytes)
counted_before role.Min bytes zero n later fits = absurd (omega (arith, fits))
counted_before role.Min bytes (suc m) n later fits =
    sum_by-cons (λ b. cond (nat_lt 0 b) 1 0) 3 (take m (bytes ++ replicate n 0)) ∙ ap (λ n. 1 + n) (later m (omega (arith, fits))) ∙ one-add (length bytes)

-- the bytes count the secret columns, if there is room for them
counted : (cs : List Column) (m n : ℕ) → length (kind_bytes cs) ≤ m →
    count_by (λ b. nat_lt 0 b) (take m (kind_bytes cs ++ replicate n 0)) ≡ length (kind_bytes cs)
counted [] m n fits = none_counted m n
counted (c ∷ cs) m n fits = counted_before c.role (kind_bytes cs) m n (λ k. counted cs k n) fits

-- the place of a column among the secret ones, by how many secret ones stand before it
abbrev place_after : Option Column → ℕ → Option ℕ
place_after o n = option_and_then (λ c. cond (is_secret c.role) (Some n) None) o

-- the first column, if it is secret, has place 0
below_first : (b : Bool) (c : Column) (xs : List Column) (k : ℕ) → cond b (Some 0) None ≡ Some k → k < length (cond b (c ∷ xs) xs)
below_first true c xs k is = let e : 0 ≡ k = ap (λ o. unwrap_or o 0) is in omega arith
below_first false c xs k is = absurd (cc)

-- a place moves by one after a secret column
below_one_more : (b : Bool) (n k count : ℕ) → ((m : ℕ) → cond b (Some n) None ≡ Some m → m < count) → cond b (Some (suc n)) None ≡ Some k → k < suc count
below_one_more true n k count earlier is = let e : suc n ≡ k = ap (λ o. unwrap_or o 0) is in let l : n < count = earlier n refl in omega arith
below_one_more false n k count earlier is = absurd (cc)

-- a later place is below the number of secret columns
below_later : (b : Bool) (o : Option Column) (c : Column) (front all : List Column) (k : ℕ) → ((m : ℕ) → place_after o (length front) ≡ Some m → m < length all)
    → place_after o (length (cond b (c ∷ front) front)) ≡ Some k → k < length (cond b (c ∷ all) all)
below_later false o c front all k earlier is = earlier k is
below_later true None c front all k earlier is = absurd (cc)
below_later true (Some d) c front all k earlier is = below_one_more (is_secret d.role) (length front) k (length all) earlier is

-- a secret column's place is below the number of secret columns
pub secret_place_below : (cs : List Column) (place k : ℕ) → secret_place cs place ≡ Some k → k < secret_count cs
secret_place_below [] place k is = absurd (cc)
secret_place_below (c ∷ cs) zero k is = below_first (is_secret c.role) c (filter (λ d. is_secret d.role) cs) k is
secret_place_below (c ∷ cs) (suc place) k is =
    below_later (is_secret c.role) (slice_get cs place) c (filter (λ d. is_secret d.role) (take place cs)) (filter (λ d. is_secret d.role) cs) k
    (secret_place_below cs place) is

-- the byte at place k names the kind of this role
abbrev Named : Option Role → List ℕ → ℕ → Type 0
Named found bytes k = option_and_then kind_of_role found ≡ Some (kind_of_byte (get_or bytes k 0))

-- the first byte names the first secret column's kind
named_first : (r : Role) (bytes : List ℕ) (k : ℕ) → cond (is_secret r) (Some 0) None ≡ Some k → Named (Some r) (kind_byte_and r bytes) k
named_first role.Text bytes k is = absurd (cc)
named_first role.Number bytes k is = absurd (cc)
named_first role.Count bytes k is = absurd (cc)
named_first role.Sum bytes k is = ap (λ j. Some (kind_of_byte (get_or (1 ∷ bytes) j 0))) (ap (λ o. unwrap_or o 0) is)
named_first role.Max bytes k is = ap (λ j. Some (kind_of_byte (get_or (2 ∷ bytes) j 0))) (ap (λ o. unwrap_or o 0) is)
named_first role.Min bytes k is = ap (λ j. Some (kind_of_byte (get_or (3 ∷ bytes) j 0))) (ap (λ o. unwrap_or o 0) is)

-- a byte before the others moves each place by one
named_one_more : (b : Bool) (found : Option Role) (byte n k : ℕ) (bytes : List ℕ) → ((m : ℕ) → cond b (Some n) None ≡ Some m → Named found bytes m) →
    cond b (Some (suc n)) None ≡ Some k → Named found (byte ∷ bytes) k
named_one_more true found byte n k bytes earlier is =
    earlier n refl ∙ ap (λ j. Some (kind_of_byte (get_or (byte ∷ bytes) j 0))) (ap (λ o. unwrap_or o 0) is)
named_one_more false found byte n k bytes earlier is = absurd (cc)

-- the same, of the column that is found
named_behind : (o : Option Column) (byte n k : ℕ) (bytes : List ℕ) → ((m : ℕ) → place_after o n ≡ Some m → Named (option_map (λ d. d.role) o) bytes m)
    → place_after o (suc n) ≡ Some k → Named (option_map (λ d. d.role) o) (byte ∷ bytes) k
named_behind None byte n k bytes earlier is = absurd (cc)
named_behind (Some d) byte n k bytes earlier is = named_one_more (is_secret d.role) (Some d.role) byte n k bytes earlier is

-- bytes before the others move each place by as many secret columns
named_later : (r : Role) (o : Option Column) (c : Column) (front : List Column) (k : ℕ) (bytes : List ℕ)
    → ((m : ℕ) → place_after o (length front) ≡ Some m → Named (option_map (λ d. d.role) o) bytes m)
    → place_after o (length (cond (is_secret r) (c ∷ front) front)) ≡ Some k → Named (option_map (λ d. d.role) o) (kind_byte_and r bytes) k
named_later role.Text o c front k bytes earlier is = earlier k is
named_later role.Number o c front k bytes earlier is = earlier k is
named_later role.Count o c front k bytes earlier is = earlier k is
named_later role.Sum o c front k bytes earlier is = named_behind o 1 (length front) k bytes earlier is
named_later role.Max o c front k bytes earlier is = named_behind o 2 (length front) k bytes earlier is
named_later role.Min o c front k bytes earlier is = named_behind o 3 (length front) k bytes earlier is

-- the byte at a secret column's place names its kind
named : (cs : List Column) (place k : ℕ) → secret_place cs place ≡ Some k → Named (role_at cs place) (kind_bytes cs) k
named [] place k is = absurd (cc)
named (c ∷ cs) zero k is = named_first c.role (kind_bytes cs) k is
named (c ∷ cs) (suc place) k is =
    named_later c.role (slice_get cs place) c (filter (λ d. is_secret d.role) (take place cs)) k (kind_bytes cs) (named cs place) is

-- the shape of a table with these columns is one
pub shape_is_valid : (cs : List Column) (rows : ℕ) → 0 < rows → rows ≤ most_rows → IsShape (shape_of cs rows)
shape_is_valid cs rows some few_rows = record { some_rows = some; at_most = few_rows; kinds = are_kinds cs 8 8 }

-- the shape has a column for each secret one
pub shape_counts : (cs : List Column) (rows : ℕ) → AreColumns cs → columns (shape_of cs rows) ≡ secret_count cs
shape_counts cs rows are = counted cs 8 8 (omega (arith, at_most_eight cs are, kinds_count cs)) ∙ kinds_count cs

-- the kind of a secret column in the shape is the one that its role names
pub shape_names : (cs : List Column) (rows : ℕ) → AreColumns cs → (place k : ℕ) → secret_place cs place ≡ Some k →
    option_and_then kind_of_role (role_at cs place) ≡ Some (kind_at (shape_of cs rows) k)
shape_names cs rows are place k is =
    let below = secret_place_below cs place k is in
    let within : k < length (kind_bytes cs) = omega (arith, below, kinds_count cs) in
    let room : k < 8 = omega (arith, below, at_most_eight cs are) in
    named cs place k is
    ∙ ap (λ b. Some (kind_of_byte b)) (sym (get_or-take 8 (kind_bytes cs ++ replicate 8 0) k 0 room
    ∙ get_or-append (kind_bytes cs) (replicate 8 0) 0 k within))

-- a secret column's place among the secret ones is that of a column of its kind, in each table
pub secret_is_of : (cs : List Column) (place k : ℕ) → AreColumns cs → secret_place cs place ≡ Some k → IsSecretOf cs (role_at cs place) k
secret_is_of cs place k are is = record {
  kind = kind_at (shape_of cs 0) k;
  has = record { below = λ rows. omega (arith, secret_place_below cs place k is, shape_counts cs rows are); of_kind = λ rows. refl };
  named = shape_names cs 0 are place k is;
}
