-- What bytes mean is a schema.
use Rattle.std.proofs.Common.{◌≡◌, ℕ, ◌<◌, ◌≤◌, ◌&&◌, Bool, true, false, List, [], length, Option, Some, None, refl, sym, ◌∙◌, subst, arith}
use Rattle.std.specs.Prelude.{if◌then◌else◌, option_and_then, option_map, unwrap_or, codes, nat_le, Result, Ok, Err, nat_lt, not, ◌||◌}
use Rattle.std.proofs.lemmas.Bool.{leb-true, ltb-false, or_parts}
use Rattle.std.specs.Str.{bytes_eq}
use Rattle.audit_types.specs.Limits.{most_groups, most_rows, most_width}
use Rattle.serde_json.specs.Data.{Data}
use Rattle.serde_json.specs.Find.{get, as_number, as_str, as_u64}
use Rattle.schema_json.specs.Columns.{Column, Group, Guards, SchemaView, IsSchema, has_public, has_good_names, repeats, too_many}
use Rattle.schema_json.specs.Reading.{value_of, columns_of, column_of, groups_in, guards_of, has_these_keys, key_or, number_within, own_of_word, each_as, items_at, listed_of, made_of, both, with_public, schema_of, checked, most_schema}
use Rattle.schema_json.specs.declared.faults.SchemaFault.{SchemaFault}
use Rattle.schema_json.specs.declared.faults.SchemaFault.TheVariants.{TooLong, NotJson, BadName, Repeated, TooMany}
use Rattle.schema_json.proofs.FirstFault.{schema_long, schema_no_value, schema_value}

-- a width, a reach, and numbers of people that may be
record AreBounds (guards : Guards) : Type 0 where
  width : (0 < guards.width) × (guards.width ≤ most_width)
  reach : (1 < guards.reach) × (guards.reach ≤ most_rows)
  fewest : (1 < guards.fewest) × (guards.fewest ≤ 1000)
  own : guards.own ≤ 1

-- the answer is a fault, and no schema
no_schema : (f : SchemaFault) (r : Result SchemaView SchemaFault) (schema : SchemaView) → r ≡ Err f → r ≡ Ok schema → IsSchema schema
no_schema f r schema fault is = absurd (cc)

-- columns of which some are public, and that pass the tests of their names and numbers, with a width and a reach that may be
passed : (s schema : SchemaView) (good again many : Bool) → has_public s.columns ≡ true → AreBounds s.guards
    → has_good_names s.columns ≡ good → repeats s.columns ≡ again → (too_many s.columns || nat_lt most_groups (length s.guards.groups)) ≡ many
    → (if not good then Err BadName else (if again then Err Repeated else (if many then Err TooMany else Ok s))) ≡ Ok schema → IsSchema schema
passed s schema false again many public bounds names once within is = absurd (cc)
passed s schema true true many public bounds names once within is = absurd (cc)
passed s schema true false true public bounds names once within is = absurd (cc)
passed s schema true false false public bounds names once within is =
    let same : s ≡ schema = cc in
    let parts = or_parts (too_many s.columns) (nat_lt most_groups (length s.guards.groups)) within in
    subst IsSchema same (record {
      columns = record { public = public; good = names; once = once; within = parts.0 };
      guards = record {
        few = ltb-false most_groups (length s.guards.groups) parts.1;
        width = bounds.width;
        reach = bounds.reach;
        fewest = bounds.fewest;
        own = bounds.own;
      };
    })

-- what a value lists, if some of the columns are public
some_public : (cs : List Column) (g : Option Guards) (schema : SchemaView) (public : Bool) →
    ((guards : Guards) → g ≡ Some guards → AreBounds guards) → has_public cs ≡ public →
    checked (made_of (λ columns guards. record { columns = columns; guards = guards }) (if public then Some cs else None) g) ≡ Ok schema → IsSchema schema
some_public cs g schema false bounds public is = absurd (cc)
some_public cs None schema true bounds public is = absurd (cc)
some_public cs (Some gs) schema true bounds public is =
    let s : SchemaView = record { columns = cs; guards = gs } in
    passed s schema (has_good_names cs) (repeats cs) (too_many cs || nat_lt most_groups (length gs.groups)) public (bounds gs refl) refl refl refl is

-- what a value lists, if it lists columns
listed : (o : Option (List Column)) (g : Option Guards) (schema : SchemaView) → ((guards : Guards) → g ≡ Some guards → AreBounds guards) →
    checked (made_of (λ columns guards. record { columns = columns; guards = guards }) (option_and_then with_public o) g) ≡ Ok schema → IsSchema schema
listed None g schema bounds is = absurd (cc)
listed (Some cs) g schema bounds is = some_public cs g schema (has_public cs) bounds refl is

-- a number is read only within its bounds
number_read : (low high absent : ℕ) (d : Option Data) (n : ℕ) → low ≤ absent → absent ≤ high → unwrap_or (option_map (number_within low high) d) (Some absent)
    ≡ Some n →
    (low ≤ n) × (n ≤ high)
number_read low high absent None n above below is = let same : absent ≡ n = cc in subst (λ k. (low ≤ k) × (k ≤ high)) same (above, below)
number_read low high absent (Some d) n above below is = read (option_and_then as_u64 (as_number d)) is
  where
    within : (k : ℕ) (b c : Bool) → nat_le low k ≡ b → nat_le k high ≡ c → (if b && c then Some k else None) ≡ Some n → (low ≤ n) × (n ≤ high)
    within k true true l h e = let same : k ≡ n = cc in subst (λ m. (low ≤ m) × (m ≤ high)) same (leb-true low k l, leb-true k high h)
    within k true false l h e = absurd (cc)
    within k false c l h e = absurd (cc)

    read : (o : Option ℕ) → option_and_then (λ k. if nat_le low k && nat_le k high then Some k else None) o ≡ Some n → (low ≤ n) × (n ≤ high)
    read None e = absurd (cc)
    read (Some k) e = within k (nat_le low k) (nat_le k high) refl refl e

-- a word for where an asker is names none or one
own_read : (word : Option (List ℕ)) (own : ℕ) → option_and_then own_of_word word ≡ Some own → own ≤ 1
own_read None own is = absurd (cc)
own_read (Some word) own is = by (bytes_eq word (codes "outside")) (bytes_eq word (codes "inside")) is
  where
    by : (outside inside : Bool) → (if outside then Some 0 else (if inside then Some 1 else None)) ≡ Some own → own ≤ 1
    by true inside e = let same : 0 ≡ own = cc in omega (arith, same)
    by false true e = let same : 1 ≡ own = cc in omega (arith, same)
    by false false e = absurd (cc)

-- what a value says of askers names none or one
askers_read : (d : Option Data) (own : ℕ) → unwrap_or (option_map (λ v. option_and_then own_of_word (as_str v)) d) (Some 0) ≡ Some own → own ≤ 1
askers_read None own is = let same : 0 ≡ own = cc in omega (arith, same)
askers_read (Some d) own is = own_read (as_str d) own is

-- what a value says is guarded has numbers that may be
bounds_of : (d : Data) (guards : Guards) → guards_of d ≡ Some guards → AreBounds guards
unfolding guards_of
bounds_of d guards is =
    by (has_these_keys d) (key_or None (λ v. option_map Some (as_str v)) (codes "only") d) (key_or [] groups_in (codes "protect") d)
    (key_or most_width (number_within 1 most_width) (codes "width") d) (key_or most_rows (number_within 2 most_rows) (codes "reach") d)
    (key_or 2 (number_within 2 1000) (codes "fewest") d) (key_or 0 (λ v. option_and_then own_of_word (as_str v)) (codes "askers") d) refl refl refl refl is
  where
    by : (keys : Bool) (only : Option (Option (List ℕ))) (groups : Option (List Group)) (width reach fewest own : Option ℕ) →
        key_or most_width (number_within 1 most_width) (codes "width") d ≡ width → key_or most_rows (number_within 2 most_rows) (codes "reach") d ≡ reach →
        key_or 2 (number_within 2 1000) (codes "fewest") d ≡ fewest → key_or 0 (λ v. option_and_then own_of_word (as_str v)) (codes "askers") d ≡ own →
        (if keys then made_of (λ said n. record { only = said.0; groups = said.1; width = n.0.0; reach = n.0.1; fewest = n.1.0; own = n.1.1 })
        (both only groups) (both (both width reach) (both fewest own)) else None) ≡ Some guards → AreBounds guards
    by false only groups width reach fewest own w r f o e = absurd (cc)
    by true None groups width reach fewest own w r f o e = absurd (cc)
    by true (Some only) None width reach fewest own w r f o e = absurd (cc)
    by true (Some only) (Some groups) None reach fewest own w r f o e = absurd (cc)
    by true (Some only) (Some groups) (Some width) None fewest own w r f o e = absurd (cc)
    by true (Some only) (Some groups) (Some width) (Some reach) None own w r f o e = absurd (cc)
    by true (Some only) (Some groups) (Some width) (Some reach) (Some fewest) None w r f o e = absurd (cc)
    by true (Some only) (Some groups) (Some width) (Some reach) (Some fewest) (Some own) w r f o e =
        let made : Guards = record { only = only; groups = groups; width = width; reach = reach; fewest = fewest; own = own } in
        let same : made ≡ guards = cc in
        subst AreBounds same (record {
          width = number_read 1 most_width most_width (get (codes "width") d) width (omega arith) (omega arith) w;
          reach = number_read 2 most_rows most_rows (get (codes "reach") d) reach (omega arith) (omega arith) r;
          fewest = number_read 2 1000 2 (get (codes "fewest") d) fewest (omega arith) (omega arith) f;
          own = askers_read (get (codes "askers") d) own o;
        })

-- what a value lists is a schema
of_value : (d : Data) (schema : SchemaView) → checked (listed_of d) ≡ Ok schema → IsSchema schema
unfolding columns_of
of_value d schema is = listed (option_and_then (each_as column_of) (items_at _ d)) (guards_of d) schema (bounds_of d) is

-- what bytes mean is a schema
pub meant_columns : (bytes : List ℕ) (schema : SchemaView) → schema_of bytes ≡ Ok schema → IsSchema schema
meant_columns bytes schema is = by (nat_lt most_schema (length bytes)) (value_of bytes) refl refl
  where
    by : (long : Bool) (value : Option Data) → nat_lt most_schema (length bytes) ≡ long → value_of bytes ≡ value → IsSchema schema
    by true value long v = no_schema TooLong (schema_of bytes) schema (schema_long bytes long) is
    by false None short none = no_schema NotJson (schema_of bytes) schema (schema_no_value bytes short none) is
    by false (Some d) short some = of_value d schema (sym (schema_value bytes d short some) ∙ is)
