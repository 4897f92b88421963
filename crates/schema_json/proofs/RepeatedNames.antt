-- Names that come twice, and the place of a name, over the entries that the code keeps.
use Rattle.std.proofs.Common.{◌≡◌, ◌≤◌, ◌-◌, arith, take, drop, get_or, ℕ, Bool, true, false, cond, ◌||◌, List, [], ◌∷◌, length, map, Some, None, refl, sym, ap, ◌∙◌, ◌+◌, String, string_bytes}
use Rattle.std.specs.Prelude.{not, nat_lt}
use Rattle.std.proofs.lemmas.List.{take_all}
use Rattle.std.specs.List.{list_any, position, prefix_len}
use Rattle.std.proofs.lemmas.List.{length-map}
use Rattle.std.specs.Str.{bytes_eq}
use Rattle.std.specs.declared.alloc.Global.{Global}
use Rattle.schema_json.specs.Columns.{Column, repeats, has_name, place_of}
use Rattle.schema_json.specs.Kept.{column_of_entry}
use Rattle.schema_json.specs.declared.roles.Role.{Role}

-- the columns that the entries of a map are
abbrev pub columns_of_entries : List (String Global × Role) → List Column
columns_of_entries es = map column_of_entry es

-- a look among columns for the name of another one is a look among the entries
any_of_entries : (name : List ℕ) (es : List (String Global × Role)) →
    list_any (λ later. bytes_eq later.name name) (columns_of_entries es) ≡ list_any (λ e. bytes_eq (string_bytes e.0) name) es
any_of_entries name [] = refl
any_of_entries name (e ∷ es) = ap (λ b. bytes_eq (string_bytes e.0) name || b) (any_of_entries name es)

-- a first entry and those after it repeat a name if one of these has that of the first, or they repeat one
repeats_first : (e : String Global × Role) (es : List (String Global × Role)) (name : List ℕ) → name ≡ string_bytes e.0 →
    repeats (columns_of_entries (e ∷ es)) ≡ list_any (λ c. bytes_eq (string_bytes c.0) name) es || repeats (columns_of_entries es)
repeats_first e es name is =
    ap (λ b. b || repeats (columns_of_entries es))
    (any_of_entries (string_bytes e.0) es ∙ ap (λ n. list_any (λ (c : String Global × Role). bytes_eq (string_bytes c.0) n) es) (sym is))

-- the first of some entries, and the later ones
first_and_later : (es : List (String Global × Role)) (e : String Global × Role) → 1 ≤ length es → e ≡ get_or es 0 e →
    e ∷ take (length es - 1) (drop 1 es) ≡ es
first_and_later [] e some is = absurd (omega arith)
first_and_later (x ∷ xs) e some is =
    ap (λ y. y ∷ take (length (x ∷ xs) - 1) xs) is ∙ ap (λ ys. x ∷ ys) (take_all (length (x ∷ xs) - 1) xs (omega arith))

-- entries repeat a name if a later one has that of the first, or the later ones repeat one
pub repeats_next : (es : List (String Global × Role)) (e : String Global × Role) (name : List ℕ) → 1 ≤ length es → e ≡ get_or es 0 e → name ≡ string_bytes e.0
    → repeats (columns_of_entries es)
    ≡ list_any (λ c. bytes_eq (string_bytes c.0) name) (take (length es - 1) (drop 1 es)) || repeats (columns_of_entries (take (length es - 1) (drop 1 es)))
repeats_next es e name some is same =
    ap (λ xs. repeats (columns_of_entries xs)) (sym (first_and_later es e some is)) ∙ repeats_first e (take (length es - 1) (drop 1 es)) name same

-- as many columns stand before a name as entries
prefix_of_entry : (name : List ℕ) (es : List (String Global × Role)) →
    prefix_len (λ c. not (has_name name c)) (columns_of_entries es) ≡ prefix_len (λ (e : String Global × Role). not (bytes_eq name (string_bytes e.0))) es
prefix_of_entry name [] = refl
prefix_of_entry name (e ∷ es) = ap (λ k. cond (not (bytes_eq name (string_bytes e.0))) (1 + k) 0) (prefix_of_entry name es)

-- the place of a name is that of the entry with it
pub place_of_entry : (name : List ℕ) (es : List (String Global × Role)) →
    place_of name (columns_of_entries es) ≡ position (λ (e : String Global × Role). bytes_eq name (string_bytes e.0)) es
place_of_entry name es =
    let before : ℕ = prefix_len (λ (e : String Global × Role). not (bytes_eq name (string_bytes e.0))) es in
    ap (λ n. cond (nat_lt n (length (columns_of_entries es))) (Some n) None) (prefix_of_entry name es)
    ∙ ap (λ n. cond (nat_lt before n) (Some before) None) (length-map es column_of_entry)
