-- Eight kind bytes, written one by one.
use Rattle.std.proofs.Common.{◌||◌, ◌≡◌, ℕ, zero, suc, ◌+◌, ◌<◌, ◌≤◌, true, cond, List, [], ◌∷◌, ◌++◌, length, take, set, replicate, filter, Some, refl, sym, ap, ◌∙◌, arith, add-one, append_assoc, length-append}
use Rattle.std.specs.Prelude.{is_some, unwrap_or, nat_lt}
use Rattle.std.proofs.lemmas.Bool.{false≢true, ltb-false, or_parts}
use Rattle.std.proofs.lemmas.List.{append-nil}
use Rattle.schema_json.specs.Columns.{Column, AreColumns, is_count, is_secret, secret_count, role_at}
use Rattle.schema_json.specs.SecretShape.{kind_bytes, kind_byte_and}
use Rattle.schema_json.proofs.SecretPlaces.{filtered}
use Rattle.schema_json.specs.declared.roles.Role.{Role}
use Rattle.schema_json.specs.declared.roles.Role.TheVariants as role

-- the byte of a role, if it has one
abbrev pub byte_of : Role → List ℕ
byte_of r = kind_byte_and r []

-- the byte of a role stands before the bytes of later columns
kinds_and : (r : Role) (bytes : List ℕ) → kind_byte_and r bytes ≡ byte_of r ++ bytes
kinds_and role.Text bytes = refl
kinds_and role.Number bytes = refl
kinds_and role.Count bytes = refl
kinds_and role.Sum bytes = refl
kinds_and role.Max bytes = refl
kinds_and role.Min bytes = refl

-- the kind bytes of a front that is longer by one column
kinds_suc : (cs : List Column) (k : ℕ) (r : Role) → Some r ≡ role_at cs k → kind_bytes (take (suc k) cs) ≡ kind_bytes (take k cs) ++ byte_of r
kinds_suc [] k r is = absurd (false≢true (sym (ap is_some is)))
kinds_suc (c ∷ cs) zero r is = ap byte_of (sym (ap (λ o. unwrap_or o c.role) is))
kinds_suc (c ∷ cs) (suc k) r is =
    ap (kind_byte_and c.role) (kinds_suc cs k r is)
    ∙ kinds_and c.role (kind_bytes (take k cs) ++ byte_of r)
    ∙ sym (append_assoc (byte_of c.role) (kind_bytes (take k cs)) (byte_of r))
    ∙ ap (λ xs. xs ++ byte_of r) (sym (kinds_and c.role (kind_bytes (take k cs))))

-- one column more puts its byte after the others
pub kinds_more : (cs : List Column) (k : ℕ) (r : Role) → Some r ≡ role_at cs k → kind_bytes (take (k + 1) cs) ≡ kind_bytes (take k cs) ++ byte_of r
kinds_more cs k r is = ap (λ n. kind_bytes (take n cs)) (add-one k) ∙ kinds_suc cs k r is

-- how many bytes a column adds
kinds_step : (c : Column) (m n : ℕ) (bytes : List ℕ) → length bytes ≡ n → length (kind_byte_and c.role bytes) ≡ cond (is_secret c.role) 1 0 + n
kinds_step c m n bytes h = by c.role
  where
    by : (r : Role) → length (kind_byte_and r bytes) ≡ cond (is_secret r) 1 0 + n
    by role.Text = omega (arith, h)
    by role.Number = omega (arith, h)
    by role.Count = omega (arith, h)
    by role.Sum = omega (arith, h)
    by role.Max = omega (arith, h)
    by role.Min = omega (arith, h)

-- as many bytes as secret columns
pub kinds_count : (cs : List Column) → length (kind_bytes cs) ≡ secret_count cs
kinds_count [] = refl
kinds_count (c ∷ cs) =
    kinds_step c 0 (secret_count cs) (kind_bytes cs) (kinds_count cs) ∙ sym (filtered c (filter (λ d. is_secret d.role) cs) (is_secret c.role))

-- a front of the columns has no more kind bytes than all
taken_count : (cs : List Column) (k : ℕ) → length (kind_bytes (take k cs)) ≤ length (kind_bytes cs)
taken_count cs zero = omega arith
taken_count [] (suc k) = omega arith
taken_count (c ∷ cs) (suc k) =
    let a = kinds_step c 0 (length (kind_bytes (take k cs))) (kind_bytes (take k cs)) refl in
    let b = kinds_step c 0 (length (kind_bytes cs)) (kind_bytes cs) refl in
    omega (arith, a, b, taken_count cs k)

-- at most eight columns are secret
pub at_most_eight : (cs : List Column) → AreColumns cs → secret_count cs ≤ 8
at_most_eight cs are =
    let few = (or_parts (nat_lt 32 (length cs) || nat_lt 8 (secret_count cs)) (nat_lt 1 (length (filter (λ c. is_count c.role) cs))) are.within).0 in
    ltb-false 8 (secret_count cs) (or_parts (nat_lt 32 (length cs)) (nat_lt 8 (secret_count cs)) few).1

-- a secret column finds room
pub kinds_room : (cs : List Column) (k : ℕ) (r : Role) → AreColumns cs → Some r ≡ role_at cs k → is_secret r ≡ true → length (kind_bytes (take k cs)) < 8
kinds_room cs k r are is secret =
    let below = at_most_eight cs are in
    let more = ap length (kinds_more cs k r is) in
    let one : length (byte_of r) ≡ 1 = by r secret in
    let sum = length-append (kind_bytes (take k cs)) (byte_of r) in
    omega (arith, below, more, one, sum, kinds_count cs, taken_count cs (k + 1))
  where
    by : (r : Role) → is_secret r ≡ true → length (byte_of r) ≡ 1
    by role.Text h = absurd (false≢true h)
    by role.Number h = absurd (false≢true h)
    by role.Count h = absurd (false≢true h)
    by role.Sum h = refl
    by role.Max h = refl
    by role.Min h = refl

-- a front of zeros
zeros : (m n : ℕ) → m ≤ n → take {A = ℕ} m (replicate n 0) ≡ replicate m 0
zeros zero n h = refl
zeros (suc m) zero h = absurd (omega (arith, h))
zeros (suc m) (suc n) h = ap (λ xs. 0 ∷ xs) (zeros m n (omega (arith, h)))

-- a write at the first of the zeros
set_at : (xs : List ℕ) (m n b : ℕ) → length xs < m → m ≤ n → set (take m (xs ++ replicate n 0)) (length xs) b ≡ take m ((xs ++ b ∷ []) ++ replicate n 0)
set_at xs zero n b h le = absurd (omega (arith, h))
set_at [] (suc m) zero b h le = absurd (omega (arith, le))
set_at [] (suc m) (suc n) b h le = ap (λ xs. b ∷ xs) (zeros m n (omega (arith, le)) ∙ sym (zeros m (suc n) (omega (arith, le))))
set_at (x ∷ xs) (suc m) n b h le = ap (λ ys. x ∷ ys) (set_at xs m n b (omega (arith, h)) (omega (arith, le)))

-- a write after the bytes so far
pub set_behind : (xs : List ℕ) (b : ℕ) → length xs < 8 → set (take 8 (xs ++ replicate 8 0)) (length xs) b ≡ take 8 ((xs ++ b ∷ []) ++ replicate 8 0)
set_behind xs b h = set_at xs 8 8 b h (omega arith)

-- what is written after k columns
pub record Written (cs : List Column) (k at : ℕ) (kinds : List ℕ) : Type 0 where
  pub at_is : at ≡ length (kind_bytes (take k cs))
  pub kinds_are : kinds ≡ take 8 (kind_bytes (take k cs) ++ replicate 8 0)

-- a public column changes no byte
pub keeps : (cs : List Column) (k : ℕ) (r : Role) (at : ℕ) (kinds : List ℕ) → Some r ≡ role_at cs k → byte_of r ≡ [] → Written cs k at kinds →
    Written cs (k + 1) at kinds
keeps cs k r at kinds is none w =
    let e = kinds_more cs k r is ∙ ap (λ xs. kind_bytes (take k cs) ++ xs) none ∙ append-nil (kind_bytes (take k cs)) in
    record { at_is = w.at_is ∙ sym (ap length e); kinds_are = w.kinds_are ∙ ap (λ xs. take 8 (xs ++ replicate 8 0)) (sym e) }

-- a secret column writes its byte at the first free place
pub puts : (cs : List Column) (k : ℕ) (r : Role) (b at : ℕ) (kinds : List ℕ) → AreColumns cs → Some r ≡ role_at cs k → is_secret r ≡ true → byte_of r ≡ b ∷ [] →
    Written cs k at kinds → Written cs (k + 1) (at + 1) (set kinds at b)
puts cs k r b at kinds are is secret one w =
    let e = kinds_more cs k r is ∙ ap (λ xs. kind_bytes (take k cs) ++ xs) one in
    let longer = ap length e in
    let sum = length-append (kind_bytes (take k cs)) (b ∷ []) in record {
      at_is = omega (arith, longer, sum, w.at_is);
      kinds_are = ap (λ xs. set xs at b) w.kinds_are ∙ ap (λ n. set (take 8 (kind_bytes (take k cs) ++ replicate 8 0)) n b) w.at_is
          ∙ set_behind (kind_bytes (take k cs)) b (kinds_room cs k r are is secret)
          ∙ ap (λ xs. take 8 (xs ++ replicate 8 0)) (sym e);
    }
