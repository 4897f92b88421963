-- The entries of groups, one group after another.
use Rattle.std.proofs.Common.{◌≡◌, ℕ, zero, suc, false, ◌+◌, ◌<◌, List, [], ◌∷◌, ◌++◌, length, take, get_or, Some, refl, sym, ap, ◌∙◌, subst, append_assoc, append-nil, arith}
use Rattle.std.specs.Prelude.{slice_get, Result, Ok, Err, if◌then◌else◌}
use Rattle.std.specs.Result.{is_ok, is_err}
use Rattle.std.proofs.lemmas.Bool.{true≢false}
use Rattle.std.proofs.lemmas.List.{take_more, get_or-take, length-take}
use Rattle.std.proofs.lemmas.Option.{slice_get-get_or}
use Rattle.audit_types.specs.declared.records.Protected.{Protected}
use Rattle.audit_types.specs.History.{entry_of}
use Rattle.schema_json.specs.Columns.{Column, Group}
use Rattle.table_load.specs.Cells.{PublicView}
use Rattle.predicate_lang.specs.Trees.{Tree}
use Rattle.set_index.specs.Asked.{meaning}
use Rattle.set_index.specs.Groups.{AreEntries, IsGroup, HasNoFault, IsFirstBadGroup}

-- what was pushed stands last
pub pushed : {T E : Type 0} (result : Result (Unit {0}) E) (old new : List T) (value : T) → is_err result ≡ false
    → new ≡ (if is_ok result then old ++ value ∷ [] else old) → new ≡ old ++ value ∷ []
pushed (Ok u) old new value fine items = items
pushed (Err e) old new value fine items = absurd (true≢false fine)

-- a group more, after the others
entries_more : (columns : List Column) (public : PublicView) (from : ℕ) (groups : List Group) (group : Group) (protected : List Protected) (column : ℕ)
    (t : Tree) →
    AreEntries columns public from groups protected → IsGroup columns group column t →
    AreEntries columns public from (groups ++ group ∷ []) (protected ++ entry_of column (from + length groups) public.rows (meaning public t))
entries_more columns public from [] group protected column t none is =
    let entry = entry_of column (from + 0) public.rows (meaning public t) in
    let here : from + 0 ≡ from = omega arith in (
      column,
      t,
      [],
      is,
      ap (λ (xs : List Protected). xs ++ entry) none ∙ sym (append-nil entry) ∙ ap (λ k. entry_of column k public.rows (meaning public t) ++ []) here,
      refl,
    )
entries_more columns public from (g ∷ gs) group protected column t (c, u, rest, was, before, more) is =
    let entry = entry_of column (from + length (g ∷ gs)) public.rows (meaning public t) in
    let later : (from + 1) + length gs ≡ from + length (g ∷ gs) = omega arith in (
      c,
      u,
      rest ++ entry,
      was,
      ap (λ (xs : List Protected). xs ++ entry) before ∙ append_assoc (entry_of c from public.rows (meaning public u)) rest entry,
      subst (λ k. AreEntries columns public (from + 1) (gs ++ group ∷ []) (rest ++ entry_of column k public.rows (meaning public t))) later
          (entries_more columns public (from + 1) gs group rest column t more is),
    )

-- what the group at a place gives
abbrev pub GivesEntry : List Column → PublicView → ℕ → Group → List Protected → Type 0
GivesEntry columns public place group found = (column : ℕ) × (t : Tree) × IsGroup columns group column t ×
    (found ≡ entry_of column place public.rows (meaning public t))

-- the entry of the group at a place, after those of the groups before it
pub entries_at : (columns : List Column) (public : PublicView) (groups : List Group) (place : ℕ) (protected found new : List Protected) →
    place < length groups →
    AreEntries columns public 0 (take place groups) protected →
    ((group : Group) → slice_get groups place ≡ Some group → GivesEntry columns public place group found) →
    new ≡ protected ++ found → AreEntries columns public 0 (take (place + 1) groups) new
entries_at columns public groups place protected found new low entries gives is =
    let d : Group = record { column = []; condition = [] } in
    by d (gives (get_or groups place d) (slice_get-get_or groups place d low))
  where
    by : (d : Group) → GivesEntry columns public place (get_or groups place d) found → AreEntries columns public 0 (take (place + 1) groups) new
    by d (column, t, group, found_is) =
        let so_many : 0 + length (take place groups) ≡ place = omega (arith, low, length-take place groups) in
        subst (λ gs. AreEntries columns public 0 gs new) (sym (take_more groups place d low))
        (subst (AreEntries columns public 0 (take place groups ++ get_or groups place d ∷ []))
        (ap (λ k. protected ++ entry_of column k public.rows (meaning public t)) so_many ∙ ap (λ (xs : List Protected). protected ++ xs) (sym found_is)
        ∙ sym is)
        (entries_more columns public 0 (take place groups) (get_or groups place d) protected column t entries group))

-- groups that have entries have no fault
pub entries_sound : (columns : List Column) (public : PublicView) (from : ℕ) (groups : List Group) (protected : List Protected) →
    AreEntries columns public from groups protected →
    (i : ℕ) (group : Group) → slice_get groups i ≡ Some group → HasNoFault columns group
entries_sound columns public from [] protected none i group is = absurd (cc)
entries_sound columns public from (g ∷ gs) protected (c, u, rest, was, before, more) zero group is =
    let same : g ≡ group = cc in subst (HasNoFault columns) same (c, u, was)
entries_sound columns public from (g ∷ gs) protected (c, u, rest, was, before, more) (suc i) group is =
    entries_sound columns public (from + 1) gs rest more i group is

-- a fault after groups that have entries is the first
pub first_bad : (columns : List Column) (public : PublicView) (groups : List Group) (place : ℕ) (protected : List Protected) → place < length groups →
    AreEntries columns public 0 (take place groups) protected → ((group : Group) → slice_get groups place ≡ Some group → ¬ (HasNoFault columns group)) →
    IsFirstBadGroup columns groups place
first_bad columns public groups place protected low entries bad =
    let d : Group = record { column = []; condition = [] } in
    let stands = slice_get-get_or groups place d low in record {
      at = get_or groups place d;
      stands = stands;
      bad = bad (get_or groups place d) stands;
      before = λ i group below is.
          let inside : i < length (take place groups) = omega (arith, below, low, length-take place groups) in
          let there : slice_get (take place groups) i ≡ Some (get_or (take place groups) i group) = slice_get-get_or (take place groups) i group inside in
          let one : get_or (take place groups) i group ≡ get_or groups i group = get_or-take place groups i group below in
          let all : slice_get groups i ≡ Some (get_or groups i group) = slice_get-get_or groups i group (omega (arith, below, low)) in
          entries_sound columns public 0 (take place groups) protected entries i group (there ∙ ap Some one ∙ sym all ∙ is);
    }
