-- The secret columns of a schema, by their places in it and by their places among the secret ones.
use Rattle.std.proofs.Common.{◌≡◌, ℕ, zero, suc, ◌+◌, ◌<◌, Bool, true, false, cond, List, [], ◌∷◌, ◌++◌, length, get_or, take, filter, map, Option, Some, None, refl, sym, ap, ◌∙◌, arith, add-one, length-append, inl, inr}
use Rattle.std.specs.Prelude.{is_some, option_map, option_and_then, slice_get}
use Rattle.std.proofs.lemmas.Bool.{false≢true}
use Rattle.std.proofs.lemmas.List.{append-nil, map-append, length-map}
use Rattle.std.proofs.lemmas.List.Elements.{filter-append}
use Rattle.std.proofs.lemmas.Option.{slice_get_within, slice_get_cases, same_Some}
use Rattle.std.proofs.Math.Seq.{get_or-append_seam}
use Rattle.schema_json.specs.Columns.{Column, is_secret, name_at, secret_count, secret_place}
use Rattle.journal_audit.specs.Reports.{secret_names, secret_name}

-- a column stands at a place: what stands before it, it, and others
pub record StandsAt (cs : List Column) (place : ℕ) (c : Column) : Type 0 where
  pub here : slice_get cs place ≡ Some c
  pub others : List Column
  pub all : cs ≡ take place cs ++ c ∷ others
  pub one_more : take (place + 1) cs ≡ take place cs ++ c ∷ []

stands_at : (cs : List Column) (place : ℕ) (c : Column) → slice_get cs place ≡ Some c → StandsAt cs place c
stands_at [] place c here = absurd (false≢true (ap is_some here))
stands_at (d ∷ cs) zero c here =
    let same = same_Some d c here in record { here = here; others = cs; all = ap (λ x. x ∷ cs) same; one_more = ap (λ x. x ∷ []) same }
stands_at (d ∷ cs) (suc place) c here =
    let rest = stands_at cs place c here in
    record {
      here = here;
      others = rest.others;
      all = ap (λ l. d ∷ l) rest.all;
      one_more = ap (λ n. take n (d ∷ cs)) (add-one (suc place)) ∙ ap (λ l. d ∷ l) (ap (λ n. take n cs) (sym (add-one place)) ∙ rest.one_more);
    }

-- a secret column stands at a place, and so many secret ones before it
pub record IsSecretAt (cs : List Column) (place column : ℕ) : Type 0 where
  pub c : Column
  pub at : StandsAt cs place c
  pub secret : is_secret c.role ≡ true
  pub counted : column ≡ secret_count (take place cs)

by_role : (cs : List Column) (place column : ℕ) (c : Column) → slice_get cs place ≡ Some c → (b : Bool) → is_secret c.role ≡ b →
    cond b (Some (secret_count (take place cs))) None ≡ Some column → IsSecretAt cs place column
by_role cs place column c here true secret is =
    record { c = c; at = stands_at cs place c here; secret = secret; counted = sym (same_Some (secret_count (take place cs)) column is) }
by_role cs place column c here false secret is = absurd (false≢true (ap is_some is))

found : (cs : List Column) (place column : ℕ) (o : Option Column) → slice_get cs place ≡ o →
    option_and_then (λ c. cond (is_secret c.role) (Some (secret_count (take place cs))) None) o ≡ Some column → IsSecretAt cs place column
found cs place column None here is = absurd (false≢true (ap is_some is))
found cs place column (Some c) here is = by_role cs place column c here (is_secret c.role) refl is

-- a place among the secret columns is that of one
pub secret_at : (cs : List Column) (place column : ℕ) → secret_place cs place ≡ Some column → IsSecretAt cs place column
secret_at cs place column is = found cs place column (slice_get cs place) refl is

-- the place is one of the schema's
pub place_below : (cs : List Column) (place column : ℕ) → secret_place cs place ≡ Some column → place < length cs
place_below cs place column is = let at = secret_at cs place column is in slice_get_within cs place at.c at.at.here

-- a secret column adds itself to those that are secret
kept_one : (c : Column) (cs : List Column) → is_secret c.role ≡ true → filter (λ d. is_secret d.role) (c ∷ cs) ≡ c ∷ filter (λ d. is_secret d.role) cs
kept_one c cs secret = ap (λ b. cond b (c ∷ filter (λ d. is_secret d.role) cs) (filter (λ d. is_secret d.role) cs)) secret

-- and one more is counted
pub one_more_secret : (cs : List Column) (place column : ℕ) → secret_place cs place ≡ Some column → secret_count (take (place + 1) cs) ≡ column + 1
one_more_secret cs place column is =
    let at = secret_at cs place column is in
    let front = filter (λ d. is_secret d.role) (take place cs) in
    let grown : secret_count (take (place + 1) cs) ≡ length (front ++ at.c ∷ []) =
    ap secret_count at.at.one_more
    ∙ ap length (filter-append (λ d. is_secret d.role) (take place cs) (at.c ∷ []) ∙ ap (λ l. front ++ l) (kept_one at.c [] at.secret)) in
    omega (arith, grown, length-append front (at.c ∷ []), at.counted)

-- a public column adds none
by_public : (cs : List Column) (place n : ℕ) (c : Column) → slice_get cs place ≡ Some c → (b : Bool) → is_secret c.role ≡ b → cond b (Some n) None ≡ None →
    secret_count (take (place + 1) cs) ≡ secret_count (take place cs)
by_public cs place n c here true secret is = absurd (false≢true (sym (ap is_some is)))
by_public cs place n c here false secret is =
    let kept = λ (l : List Column). filter (λ d. is_secret d.role) l in
    ap secret_count (stands_at cs place c here).one_more
    ∙ ap length
    (filter-append (λ d. is_secret d.role) (take place cs) (c ∷ []) ∙ ap (λ b. kept (take place cs) ++ cond b (c ∷ []) []) secret
    ∙ append-nil (kept (take place cs)))

no_more : (cs : List Column) (place : ℕ) (c : Column) → slice_get cs place ≡ Some c → secret_place cs place ≡ None →
    secret_count (take (place + 1) cs) ≡ secret_count (take place cs)
no_more cs place c here is =
    by_public cs place (secret_count (take place cs)) c here (is_secret c.role) refl
    (sym (ap (option_and_then (λ d. cond (is_secret d.role) (Some (secret_count (take place cs))) None)) here) ∙ is)

pub no_more_secret : (cs : List Column) (place : ℕ) → place < length cs → secret_place cs place ≡ None →
    secret_count (take (place + 1) cs) ≡ secret_count (take place cs)
no_more_secret cs place below is = elim (slice_get_cases cs place).1 [
  | inl found ↦ no_more cs place found.0 found.2 is
  | inr out ↦ absurd (omega (arith, below, out.0))
]

-- the name at the place is that of the secret column
pub name_is : (cs : List Column) (place column : ℕ) (name : List ℕ) → secret_place cs place ≡ Some column → Some name ≡ name_at cs place →
    name ≡ secret_name cs column
name_is cs place column name is named =
    let at = secret_at cs place column is in
    let front = filter (λ d. is_secret d.role) (take place cs) in
    let rest = filter (λ d. is_secret d.role) at.at.others in
    let names : List Column → List (List ℕ) = λ l. map (λ c. c.name) l in
    let own : name ≡ at.c.name = same_Some name at.c.name (named ∙ ap (option_map (λ c. c.name)) at.at.here) in
    let all : secret_names cs ≡ names front ++ at.c.name ∷ names rest =
    ap names
    (ap (filter (λ d. is_secret d.role)) at.at.all ∙ filter-append (λ d. is_secret d.role) (take place cs) (at.c ∷ at.at.others)
    ∙ ap (λ l. front ++ l) (kept_one at.c at.at.others at.secret))
    ∙ map-append (λ c. c.name) front (at.c ∷ rest) in
    own ∙ sym (get_or-append_seam (names front) at.c.name (names rest) [])
    ∙ ap (λ n. get_or (names front ++ at.c.name ∷ names rest) n []) (length-map front (λ c. c.name) ∙ sym at.counted) ∙ ap (λ l. get_or l column []) (sym all)
