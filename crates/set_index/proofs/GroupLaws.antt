-- Laws of the entries of groups: they are one list, there is one if no group has a fault, and they fit the table.
use Rattle.std.proofs.Common.{◌+◌, ◌≡◌, ◌≢◌, ℕ, suc, ◌<◌, ◌≤◌, List, [], ◌∷◌, ◌++◌, length, Option, Some, None, refl, sym, ap, ◌∙◌, subst, arith}
use Rattle.std.specs.Prelude.{option_and_then, slice_get, All}
use Rattle.std.proofs.lemmas.List.{length-append}
use Rattle.std.proofs.lemmas.List.Elements.{All-append, All-nil, All-cons}
use Rattle.std.proofs.lemmas.Option.{same_Some}
use Rattle.audit_types.specs.Rows.{AreRows}
use Rattle.audit_types.specs.RowLaws.{AreRows-rows_that}
use Rattle.audit_types.specs.Limits.{most_groups, most_rows, most_width}
use Rattle.audit_types.specs.History.{Protection, AreProtected, IsProtected, FitsShape, entry_of}
use Rattle.audit_types.specs.Headcount.{Headcount, CountPeople}
use Rattle.audit_types.specs.declared.records.Protected.{Protected}
use Rattle.audit_types.specs.declared.shapes.Kind.TheVariants as kind
use Rattle.schema_json.specs.Columns.{Column, Group, Guards, AreColumns, AreGuards, place_of, role_at, secret_place}
use Rattle.schema_json.specs.SecretShape.{IsSecretOf, PlacesAreColumns, shape_of}
use Rattle.schema_json.specs.declared.roles.Role.TheVariants.{Sum}
use Rattle.table_load.specs.Cells.{PublicView, FitsSchema, IsPublic, counts_of, whole}
use Rattle.table_load.specs.SchemaFits.{somebody_everywhere}
use Rattle.predicate_lang.specs.Laws.{OneMeaning}
use Rattle.predicate_lang.specs.Trees.{Tree}
use Rattle.set_index.specs.Asked.{meaning}
use Rattle.set_index.specs.declared.index.GuardPart.{GuardPart}
use Rattle.set_index.specs.declared.index.GuardPart.TheVariants as part
use Rattle.set_index.specs.Groups.{AreEntries, Protects, AreSound, HasNoFault, IsFirstBad, IsGroup, IsSoundOnly, AsksOnly}
use Rattle.set_index.specs.Indexed.{EntriesFit, OneListOfEntries, RowsAreLines}
use Rattle.set_index.proofs.Entries.{entries_sound}
use Rattle.set_index.proofs.PeopleCounts.{counts_few}

-- ---- one list

-- groups have at most one list of entries
one_list : OneMeaning → (columns : List Column) (public : PublicView) (from : ℕ) (groups : List Group) (a b : List Protected) →
    AreEntries columns public from groups a →
    AreEntries columns public from groups b → a ≡ b
one_list means columns public from [] a b x y = x ∙ sym y
one_list means columns public from (g ∷ gs) a b (c, t, rest, is, a_is, more) (d, u, others, was, b_is, again) =
    let place : c ≡ d = same_Some c d (sym is.place ∙ was.place) in
    let tree = means.tree columns g.condition t u is.means was.means in
    a_is
    ∙ ap (λ k. entry_of k from public.rows (meaning public t) ++ rest) place
    ∙ ap (λ v. entry_of d from public.rows (meaning public v) ++ rest) tree
    ∙ ap (λ xs. entry_of d from public.rows (meaning public u) ++ xs) (one_list means columns public (from + 1) gs rest others more again)
    ∙ sym b_is

-- groups without fault have one
some_list : (columns : List Column) (public : PublicView) (from : ℕ) (groups : List Group) →
    ((i : ℕ) (group : Group) → slice_get groups i ≡ Some group → HasNoFault columns group) → (protected : List Protected) ×
    AreEntries columns public from groups protected
some_list columns public from [] sound = ([], refl)
some_list columns public from (g ∷ gs) sound = by (sound 0 g refl) (some_list columns public (from + 1) gs (λ i group is. sound (suc i) group is))
  where
    by : HasNoFault columns g → ((rest : List Protected) × AreEntries columns public (from + 1) gs rest) → (protected : List Protected) ×
        AreEntries columns public from (g ∷ gs) protected
    by (c, t, is) (rest, more) = (entry_of c from public.rows (meaning public t) ++ rest, (c, t, rest, is, refl, more))

-- the rows that may be asked of are one set
one_only : OneMeaning → (columns : List Column) (only : Option (List ℕ)) (public other : PublicView) → whole public ≡ whole other →
    AsksOnly columns only public → AsksOnly columns only other → public.only ≡ other.only
one_only means columns None public other same first second = first ∙ sym second
one_only means columns (Some text) public other same (t, short, is, first) (u, few, was, second) =
    first ∙ ap (λ v. Some (meaning (whole public) v)) (means.tree columns text t u is was) ∙ ap (λ p. Some (meaning p u)) same ∙ sym second

one_part : OneMeaning → (columns : List Column) (public other : PublicView) (guards : Guards) (a b : Protection) → whole public ≡ whole other →
    Protects columns public guards a → Protects columns other guards b → public ≡ other
one_part means columns public other guards a b same first second =
    let only : public.only ≡ other.only = one_only means columns guards.only public other same first.4 second.4 in
    λ i. record { rows = (same i).rows; columns = (same i).columns; only = only i }

-- there is one if the condition has no fault
some_part : (columns : List Column) (only : Option (List ℕ)) (public : PublicView) → IsSoundOnly columns only →
    (asked : PublicView) × (whole asked ≡ whole public) × AsksOnly columns only asked
some_part columns None public sound = (whole public, refl, refl)
some_part columns (Some text) public (t, short, is) = (record public { only = Some (meaning (whole public) t) }, refl, (t, short, is, refl))

-- and only then
pub sound_only : (columns : List Column) (only : Option (List ℕ)) (public : PublicView) → AsksOnly columns only public → IsSoundOnly columns only
sound_only columns None public asks = tt
sound_only columns (Some text) public (t, short, is, asks) = (t, short, is)

-- the people behind the rows of a table, and of how few of them what they have is guarded against whom
abbrev people_of : List Column → PublicView → Guards → Headcount
people_of columns public guards = record { counts = counts_of columns public; fewest = guards.fewest; own = guards.own }

-- and they protect in one way
one_way : OneMeaning → (columns : List Column) (public : PublicView) (guards : Guards) (a b : Protection) → Protects columns public guards a →
    Protects columns public guards b → a ≡ b
one_way means columns public guards a b first second =
    let entries = one_list means columns public 0 guards.groups a.groups b.groups first.0 second.0 in
    let people = first.1 ∙ sym second.1 in
    let width = first.2 ∙ sym second.2 in
    let reach = first.3 ∙ sym second.3 in
    λ i. record { groups = entries i; people = people i; width = width i; reach = reach i }

some_way : (columns : List Column) (public : PublicView) (guards : Guards) → AreSound columns guards →
    (asked : PublicView) × (protected : Protection) × (whole asked ≡ whole public) × Protects columns asked guards protected
some_way columns public guards sound =
    let part = some_part columns guards.only public sound.only in
    let list = some_list columns part.0 0 guards.groups sound.groups in
    let protected : Protection = record { groups = list.0; people = people_of columns part.0 guards; width = guards.width; reach = guards.reach } in
    (part.0, protected, part.1, (list.1, refl, refl, refl, part.2))

-- what has a fault isn't sound
bad_way : (columns : List Column) (guards : Guards) (bad : GuardPart) → IsFirstBad columns guards bad → ¬ (AreSound columns guards)
bad_way columns guards part.Only bad sound = bad sound.only
bad_way columns guards (part.Group place) first sound = first.1.bad (sound.groups place first.1.at first.1.stands)

pub one_list_of_entries : OneMeaning → OneListOfEntries
one_list_of_entries means = record {
  part = one_part means;
  one = one_way means;
  some = some_way;
  sound = λ columns public guards protected are. record {
    only = sound_only columns guards.only public are.4;
    groups = entries_sound columns public 0 guards.groups protected.groups are.0;
  };
  bad = bad_way;
}

-- ---- they fit

-- the place among the secret columns that a group's name has is a column of sums
sums_at : PlacesAreColumns → (columns : List Column) (group : Group) (column : ℕ) (t : Tree) → AreColumns columns → IsGroup columns group column t →
    IsSecretOf columns (Some Sum) column
sums_at places columns group column t are is = by (place_of group.column columns) is.sums is.place
  where
    by : (o : Option ℕ) → option_and_then (role_at columns) o ≡ Some Sum → option_and_then (secret_place columns) o ≡ Some column →
        IsSecretOf columns (Some Sum) column
    by None sums place = absurd (cc)
    by (Some p) sums place = subst (λ r. IsSecretOf columns r column) sums (places columns p column are place)

-- some rows of a column of sums are a group that fits
fits_sums : (columns : List Column) (column place rows : ℕ) (list : List ℕ) → IsSecretOf columns (Some Sum) column → AreRows rows list →
    All (IsProtected (shape_of columns rows)) (entry_of column place rows list) × (length (entry_of column place rows list) ≤ 1)
fits_sums columns column place rows [] secret are = (All-nil (IsProtected (shape_of columns rows)), omega arith)
fits_sums columns column place rows (r ∷ list) secret are =
    let shape = shape_of columns rows in
    let p : Protected = record { column = column; place = place; rows = record { n = rows; list = r ∷ list } } in
    let fits : FitsShape shape column p.rows = record { column_below = secret.has.below rows; same_n = refl; are_rows = are; some = λ none. cc } in (
      All-cons (IsProtected shape) p [] (fits, secret.has.of_kind rows ∙ sym (same_Some kind.Sum secret.kind secret.named)) (All-nil (IsProtected shape)),
      omega arith,
    )

-- the entries of groups fit the table, and are no more than the groups
entries_fit : PlacesAreColumns → (columns : List Column) (public : PublicView) (from : ℕ) (groups : List Group) (protected : List Protected) →
    AreColumns columns →
    AreEntries columns public from groups protected →
    All (IsProtected (shape_of columns public.rows)) protected × (length protected ≤ length groups)
entries_fit places columns public from [] protected are none =
    subst (λ xs. All (IsProtected (shape_of columns public.rows)) xs × (length xs ≤ 0)) (sym none)
    (All-nil (IsProtected (shape_of columns public.rows)), omega arith)
entries_fit places columns public from (g ∷ gs) protected are (c, t, rest, is, protected_is, more) =
    let shape = shape_of columns public.rows in
    let entry = entry_of c from public.rows (meaning public t) in
    let first = fits_sums columns c from public.rows (meaning public t) (sums_at places columns g c t are is) (AreRows-rows_that _ public.rows) in
    let others = entries_fit places columns public (from + 1) gs rest are more in
    let few : length (entry ++ rest) ≤ length (g ∷ gs) = omega (arith, first.1, others.1, length-append entry rest) in
    subst (λ xs. All (IsProtected shape) xs × (length xs ≤ length (g ∷ gs))) (sym protected_is)
    (All-append (IsProtected shape) entry rest first.0 others.0, few)

-- so do the people behind the rows
people_are_counted : (columns : List Column) (public : PublicView) (guards : Guards) → FitsSchema columns public → IsPublic public → AreGuards guards →
    CountPeople public.rows (people_of columns public guards)
people_are_counted columns public guards fits is guarded = record {
  within = counts_few columns public is;
  somebody = (somebody_everywhere columns public fits is).0;
  fewest = guarded.fewest.0;
  own = guarded.own;
}

pub entries_are_protected : PlacesAreColumns → EntriesFit
entries_are_protected places columns public guards protected are fits is guarded protects =
    let shape = shape_of columns public.rows in
    let fit = entries_fit places columns public 0 guards.groups protected.groups are protects.0 in
    let few : length protected.groups ≤ most_groups = omega (arith, fit.1, guarded.few) in
    let people = people_are_counted columns public guards fits is guarded in
    let width = sym protects.2 in
    let reach = sym protects.3 in (
      fit.0,
      few,
      subst (CountPeople public.rows) (sym protects.1) people,
      subst (λ w. 0 < w) width guarded.width.0,
      subst (λ w. w ≤ most_width) width guarded.width.1,
      subst (λ r. 1 < r) reach guarded.reach.0,
      subst (λ r. r ≤ most_rows) reach guarded.reach.1,
    )

-- and so does what a schema guards before its groups are known
pub no_entries_are_protected : EntriesFit → (columns : List Column) (public : PublicView) (guards : Guards) (protected : Protection) → AreColumns columns →
    FitsSchema columns public → IsPublic public → AreGuards guards → whole public ≡ public →
    protected ≡ record { groups = []; people = people_of columns public guards; width = guards.width; reach = guards.reach } →
    AreProtected (shape_of columns public.rows) protected
no_entries_are_protected fit columns public guards protected are fits is guarded all same =
    let alone : Guards = record guards { only = None; groups = [] } in
    let few : length alone.groups ≤ most_groups = omega arith in
    let bounded : AreGuards alone = record { few = few; width = guarded.width; reach = guarded.reach; fewest = guarded.fewest; own = guarded.own } in
    let none : public.only ≡ None = sym (ap (λ (p : PublicView). p.only) all) in
    subst (AreProtected (shape_of columns public.rows)) (sym same) (fit columns public alone _ are fits is bounded (refl, refl, refl, refl, none))

-- ---- the people that a table counts

pub rows_are_lines : RowsAreLines
rows_are_lines base guards fits is protects =
    let counts = ap (λ (people : Headcount). people.counts) protects.1 in
    record {
      counts = counts;
      one_each = subst (λ list. list ≢ [] → length list ≡ base.public.rows) (sym counts) (somebody_everywhere base.columns base.public fits is).1;
    }
