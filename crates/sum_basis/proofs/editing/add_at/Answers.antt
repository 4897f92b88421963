use Rattle.std.proofs.Common.{◌≡◌, ℕ, ◌<◌, ◌≤◌, ℤ, List, length, drop, get_or, sym, ap, ◌∙◌, subst, arith, rules}
use Rattle.std.specs.Prelude.{FitsSigned, ◌+ℤ◌, insert}
use Rattle.std.specs.Int.{w128}
use mir.Val.{to_z, of_z}
use Rattle.std.proofs.lemmas.Int.{ints, to_z-of_z}
use Rattle.int_rows.specs.PrimitiveLaws.{zero_from_bits}
use Rattle.sum_basis.specs.declared.sparse.FreeEntry.{FreeEntry}
use Rattle.sum_basis.specs.Sparse.{entry_at, IsListed}
use Rattle.sum_basis.specs.Merging.{first_value}
use Rattle.sum_basis.proofs.SparseRows.{value_from_there, listed_to}
use Rattle.sum_basis.proofs.Edits.{parted_of, room_to_insert, inserted_listed, inserted_at, replaced_listed, replaced_at}
use Rattle.sum_basis.proofs.editing.add_at.Goals as goal

pub places_before-k-requires : goal.places_before-k-requires
places_before-k-requires c =
    let fits = c.ranges.columns.fits in
    rw c.deref.ensures.value (listed_to 0 c.args.columns 65536 c.args.entries.now.items (omega arith) c.requires.listed)

-- the value that was found, in the list as it was passed
value_in : (list es : List FreeEntry) (k place : ℕ) (v : ℤ) → list ≡ es → v ≡ first_value (drop k list) place → v ≡ first_value (drop k es) place
value_in list es k place v e is = is ∙ ap (λ l. first_value (drop k l) place) e

pub unwrap-requires : goal.unwrap-requires
unwrap-requires c =
    let es = c.args.entries.now.items in
    let before : FitsSigned w128 c.value_from-before.result = search rules in
    let parted = parted_of c.deref.result.now es c.places_before-k.result c.args.place c.deref.ensures.value c.places_before-k.ensures.parted in
    let gone = sym (value_in c.deref-2.result.now es c.places_before-k.result c.args.place c.value_from-before.result c.deref-2.ensures.value
    c.value_from-before.ensures) ∙ zero_from_bits c.value_from-before.result before c.if-before-eq0.true in
    let within = c.places_before-k.ensures.within in
    let same = ap length c.deref.ensures.value in
    let room = room_to_insert c.args.columns es c.places_before-k.result (record { place = c.args.place; value = c.args.number }) (omega arith)
    (inserted_listed c.args.columns es c.places_before-k.result c.args.place c.args.number c.requires.listed c.requires.inside c.requires.some parted.0 parted.1
    gone) in
    let len = c.args.entries.now.ok.0 in
    let cap = c.requires.room in
    c.insert.ensures.succeeds (omega arith)

pub returns-then-before-eq0-clause-listed : goal.returns-then-before-eq0-clause-listed
returns-then-before-eq0-clause-listed c =
    let es = c.args.entries.now.items in
    let before : FitsSigned w128 c.value_from-before.result = search rules in
    let parted = parted_of c.deref.result.now es c.places_before-k.result c.args.place c.deref.ensures.value c.places_before-k.ensures.parted in
    let gone = sym (value_in c.deref-2.result.now es c.places_before-k.result c.args.place c.value_from-before.result c.deref-2.ensures.value
    c.value_from-before.ensures) ∙ zero_from_bits c.value_from-before.result before c.if-before-eq0.true in
    let items = rw c.unwrap.ensures at c.insert.ensures.items in
    subst (IsListed 0 c.args.columns) (sym items)
    (subst (λ (e : FreeEntry). IsListed 0 c.args.columns (insert es c.places_before-k.result e))
    (sym (c.new-entry.ensures ∙ ap (λ (z : ℤ). record { place = c.args.place; value = z }) (to_z-of_z w128 c.args.number c.ranges.number)))
    (inserted_listed c.args.columns es c.places_before-k.result c.args.place c.args.number c.requires.listed c.requires.inside c.requires.some parted.0 parted.1
    gone))

pub returns-then-before-eq0-clause-added : goal.returns-then-before-eq0-clause-added
returns-then-before-eq0-clause-added c = λ j.
    let es = c.args.entries.now.items in
    let parted = parted_of c.deref.result.now es c.places_before-k.result c.args.place c.deref.ensures.value c.places_before-k.ensures.parted in
    let items = rw c.unwrap.ensures at c.insert.ensures.items in
    ap (λ l. entry_at l j) items
    ∙ ap (λ (e : FreeEntry). entry_at (insert es c.places_before-k.result e) j)
    (c.new-entry.ensures ∙ ap (λ (z : ℤ). record { place = c.args.place; value = z }) (to_z-of_z w128 c.args.number c.ranges.number))
    ∙ inserted_at c.args.columns es c.places_before-k.result c.args.place c.args.number c.requires.listed c.requires.inside c.requires.some parted.0 parted.1 j

-- what the list has at the column is what was found
found_is : (n : ℕ) (list es : List FreeEntry) (k place : ℕ) (v : ℤ) → IsListed 0 n es → list ≡ es → v ≡ first_value (drop k list) place
    → ((i : ℕ) (d : FreeEntry) → i < k → i < length es → (get_or es i d).place < place) → ((d : FreeEntry) → k < length es → place ≤ (get_or es k d).place)
    → v ≡ entry_at es place
found_is n list es k place v h e is before after = value_in list es k place v e is ∙ value_from_there 0 n es k place h before after

pub returns-then-before-eq0-clause-is : goal.returns-then-before-eq0-clause-is
returns-then-before-eq0-clause-is c =
    let es = c.args.entries.now.items in
    let before : FitsSigned w128 c.value_from-before.result = search rules in
    let parted = parted_of c.deref.result.now es c.places_before-k.result c.args.place c.deref.ensures.value c.places_before-k.ensures.parted in
    let there = found_is c.args.columns c.deref-2.result.now es c.places_before-k.result c.args.place c.value_from-before.result c.requires.listed
    c.deref-2.ensures.value c.value_from-before.ensures parted.0 parted.1 in
    let gone = zero_from_bits c.value_from-before.result before c.if-before-eq0.true in
    let number = to_z-of_z w128 c.args.number c.ranges.number in
    omega (arith, ints)

pub sum-after-requires-clause-x : goal.sum-after-requires-clause-x
sum-after-requires-clause-x c =
    let es = c.args.entries.now.items in
    let before : FitsSigned w128 c.value_from-before.result = search rules in
    let parted = parted_of c.deref.result.now es c.places_before-k.result c.args.place c.deref.ensures.value c.places_before-k.ensures.parted in
    let there = found_is c.args.columns c.deref-2.result.now es c.places_before-k.result c.args.place c.value_from-before.result c.requires.listed
    c.deref-2.ensures.value c.value_from-before.ensures parted.0 parted.1 in
    rw (to_z-of_z w128 c.value_from-before.result before, there) c.requires.small

-- the sum, of the numbers as they are
sum_is : (after before number : ℤ) → FitsSigned w128 after → FitsSigned w128 before → FitsSigned w128 number →
    after ≡ to_z w128 (of_z w128 before) +ℤ to_z w128 (of_z w128 number) → to_z w128 (of_z w128 after) ≡ before +ℤ number
sum_is after before number p q r is =
    to_z-of_z w128 after p ∙ is ∙ ap (λ z. z +ℤ to_z w128 (of_z w128 number)) (to_z-of_z w128 before q) ∙ ap (λ z. before +ℤ z) (to_z-of_z w128 number r)

pub new-entry-requires : goal.new-entry-requires
new-entry-requires c =
    let es = c.args.entries.now.items in
    let before : FitsSigned w128 c.value_from-before.result = search rules in
    let parted = parted_of c.deref.result.now es c.places_before-k.result c.args.place c.deref.ensures.value c.places_before-k.ensures.parted in
    let there = found_is c.args.columns c.deref-2.result.now es c.places_before-k.result c.args.place c.value_from-before.result c.requires.listed
    c.deref-2.ensures.value c.value_from-before.ensures parted.0 parted.1 in
    let gone = zero_from_bits c.value_from-before.result before c.if-before-eq0.true in
    let small = c.requires.narrow in
    rw (to_z-of_z w128 c.args.number c.ranges.number) (omega (arith, ints))

pub replace-requires-clause-small : goal.replace-requires-clause-small
replace-requires-clause-small c =
    let es = c.args.entries.now.items in
    let before : FitsSigned w128 c.value_from-before.result = search rules in
    let after : FitsSigned w128 c.sum-after.result = search rules in
    let parted = parted_of c.deref.result.now es c.places_before-k.result c.args.place c.deref.ensures.value c.places_before-k.ensures.parted in
    let there = found_is c.args.columns c.deref-2.result.now es c.places_before-k.result c.args.place c.value_from-before.result c.requires.listed
    c.deref-2.ensures.value c.value_from-before.ensures parted.0 parted.1 in
    rw (sum_is _ _ _ after before c.ranges.number c.sum-after.ensures ∙ ap (λ z. z +ℤ c.args.number) there) c.requires.narrow

pub returns-clause-listed : goal.returns-clause-listed
returns-clause-listed c =
    let es = c.args.entries.now.items in
    let before : FitsSigned w128 c.value_from-before.result = search rules in
    let after : FitsSigned w128 c.sum-after.result = search rules in
    let parted = parted_of c.deref.result.now es c.places_before-k.result c.args.place c.deref.ensures.value c.places_before-k.ensures.parted in
    let here = value_in c.deref-2.result.now es c.places_before-k.result c.args.place c.value_from-before.result c.deref-2.ensures.value
    c.value_from-before.ensures in
    subst (IsListed 0 c.args.columns) (sym c.replace.ensures.items)
    (replaced_listed c.args.columns es c.places_before-k.result c.args.place c.args.number c.requires.listed c.requires.inside c.requires.some parted.0 parted.1
    _
    (λ z. c.if-before-eq0.false (ap (of_z w128) (here ∙ z)))
    (sum_is _ _ _ after before c.ranges.number c.sum-after.ensures ∙ ap (λ z. z +ℤ c.args.number) here))

pub returns-clause-added : goal.returns-clause-added
returns-clause-added c = λ j.
    let es = c.args.entries.now.items in
    let before : FitsSigned w128 c.value_from-before.result = search rules in
    let after : FitsSigned w128 c.sum-after.result = search rules in
    let parted = parted_of c.deref.result.now es c.places_before-k.result c.args.place c.deref.ensures.value c.places_before-k.ensures.parted in
    let here = value_in c.deref-2.result.now es c.places_before-k.result c.args.place c.value_from-before.result c.deref-2.ensures.value
    c.value_from-before.ensures in
    ap (λ l. entry_at l j) c.replace.ensures.items
    ∙ replaced_at c.args.columns es c.places_before-k.result c.args.place c.args.number c.requires.listed c.requires.inside c.requires.some parted.0 parted.1 _
    (λ z. c.if-before-eq0.false (ap (of_z w128) (here ∙ z)))
    (sum_is _ _ _ after before c.ranges.number c.sum-after.ensures ∙ ap (λ z. z +ℤ c.args.number) here) j

pub returns-clause-is : goal.returns-clause-is
returns-clause-is c =
    let es = c.args.entries.now.items in
    let before : FitsSigned w128 c.value_from-before.result = search rules in
    let after : FitsSigned w128 c.sum-after.result = search rules in
    let parted = parted_of c.deref.result.now es c.places_before-k.result c.args.place c.deref.ensures.value c.places_before-k.ensures.parted in
    let there = found_is c.args.columns c.deref-2.result.now es c.places_before-k.result c.args.place c.value_from-before.result c.requires.listed
    c.deref-2.ensures.value c.value_from-before.ensures parted.0 parted.1 in
    sum_is _ _ _ after before c.ranges.number c.sum-after.ensures ∙ ap (λ z. z +ℤ c.args.number) there
