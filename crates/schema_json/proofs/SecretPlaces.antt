-- One column more.
use Rattle.std.proofs.Common.{◌≡◌, ℕ, zero, suc, ◌+◌, Bool, true, false, cond, List, [], ◌∷◌, length, take, filter, Option, Some, None, refl, sym, ap, ◌∙◌, arith, add-one}
use Rattle.std.specs.Prelude.{is_some, option_map, option_and_then, unwrap_or, slice_get}
use Rattle.std.proofs.lemmas.Bool.{false≢true}
use Rattle.schema_json.specs.Columns.{Column, is_secret, secret_count, role_at, secret_place}
use Rattle.schema_json.specs.declared.roles.Role.{Role}

-- how a column that is kept or not counts
pub filtered : (c : Column) (cs : List Column) (b : Bool) → length (cond b (c ∷ cs) cs) ≡ cond b 1 0 + length cs
filtered c cs true = omega arith
filtered c cs false = omega arith

-- the secret columns of a front that is longer by one column
secrets_suc : (cs : List Column) (k : ℕ) (r : Role) → Some r ≡ role_at cs k → secret_count (take (suc k) cs) ≡ secret_count (take k cs) + cond (is_secret r) 1 0
secrets_suc [] k r is = absurd (false≢true (sym (ap is_some is)))
secrets_suc (c ∷ cs) zero r is =
    let same : c.role ≡ r = sym (ap (λ o. unwrap_or o c.role) is) in
    filtered c [] (is_secret c.role) ∙ ap (λ x. cond (is_secret x) 1 0 + 0) same ∙ omega arith
secrets_suc (c ∷ cs) (suc k) r is =
    let more = secrets_suc cs k r is in
    let a = filtered c (filter (λ d. is_secret d.role) (take (suc k) cs)) (is_secret c.role) in
    let b = filtered c (filter (λ d. is_secret d.role) (take k cs)) (is_secret c.role) in
    omega (arith, a, b, more)

-- one column more is counted if it is secret
pub secrets_more : (cs : List Column) (k : ℕ) (r : Role) → Some r ≡ role_at cs k →
    secret_count (take (k + 1) cs) ≡ secret_count (take k cs) + cond (is_secret r) 1 0
secrets_more cs k r is = ap (λ n. secret_count (take n cs)) (add-one k) ∙ secrets_suc cs k r is

-- the place of a column among the secret ones, by how many secret ones stand before it
abbrev place_in : Option Column → ℕ → Option ℕ
place_in None n = None
place_in (Some c) n = cond (is_secret c.role) (Some n) None

-- a secret column has a place
place_found : (o : Option Column) (r : Role) (m n : ℕ) → Some r ≡ option_map (λ c. c.role) o → is_secret r ≡ true → m ≡ n → Some m ≡ place_in o n
place_found None r m n is secret same = absurd (false≢true (sym (ap is_some is)))
place_found (Some c) r m n is secret same =
    let role_is : c.role ≡ r = sym (ap (λ o. unwrap_or o c.role) is) in
    ap Some same ∙ sym (ap (λ b. cond b (Some n) None) (ap is_secret role_is ∙ secret))

-- a public column has none
place_missing : (o : Option Column) (r : Role) (n : ℕ) → Some r ≡ option_map (λ c. c.role) o → is_secret r ≡ false → None ≡ place_in o n
place_missing None r n is public = refl
place_missing (Some c) r n is public =
    let role_is : c.role ≡ r = sym (ap (λ o. unwrap_or o c.role) is) in
    sym (ap (λ b. cond b (Some n) None) (ap is_secret role_is ∙ public))

-- the place of a column, said of the column that is found
place_is : (cs : List Column) (k : ℕ) (o : Option Column) →
    option_and_then (λ c. cond (is_secret c.role) (Some (secret_count (take k cs))) None) o ≡ place_in o (secret_count (take k cs))
place_is cs k None = refl
place_is cs k (Some c) = refl

-- the place of a secret column is the number of secret columns before it
pub found_secret : (cs : List Column) (k : ℕ) (r : Role) (n : ℕ) → Some r ≡ role_at cs k → is_secret r ≡ true → n ≡ secret_count (take k cs) →
    Some n ≡ secret_place cs k
found_secret cs k r n is secret counted = place_found (slice_get cs k) r n (secret_count (take k cs)) is secret counted ∙ sym (place_is cs k (slice_get cs k))

-- a public column has no place among the secret ones
pub found_public : (cs : List Column) (k : ℕ) (r : Role) → Some r ≡ role_at cs k → is_secret r ≡ false → None ≡ secret_place cs k
found_public cs k r is public = place_missing (slice_get cs k) r (secret_count (take k cs)) is public ∙ sym (place_is cs k (slice_get cs k))
