use Rattle.std.proofs.Common.{◌≡◌, ℕ, ◌<◌, ◌≤◌, ◌^◌, Bool, true, false, nat_eq, ℤ, pos, List, [], ◌∷◌, length, sym, ◌∙◌, subst, arith, ap}
use Rattle.std.specs.Prelude.{unsigned_abs}
use Rattle.std.specs.List.{AllByRecursion}
use Rattle.std.proofs.lemmas.Bool.{true≢false, eqb-true, eq-eqb}
use Rattle.audit_types.specs.Truth.{number_at}
use Rattle.audit_types.specs.ListLaws.{all-weaker}
use Rattle.sum_basis.specs.declared.sparse.FreeEntry.{FreeEntry}
use Rattle.sum_basis.specs.Basis.{Echelon}
use Rattle.sum_basis.specs.Growth.{IsNewRow, LeavesEntries}
use Rattle.sum_basis.specs.Elimination.{IsSmallForm}
use Rattle.sum_basis.specs.Sparse.{entry_at, row_of, IsListed, IsMadeList}
use Rattle.sum_basis.proofs.ListContents.{first_some}
use Rattle.sum_basis.proofs.SparseRows.{row_within, values_within, listed_length}
use Rattle.sum_basis.proofs.Sizes.{within_more}
use Rattle.sum_basis.proofs.WideForms.{new_too_large}
use Rattle.sum_basis.proofs.Extending.{nothing_new, new_row, grows_wide}
use Rattle.sum_basis.proofs.PrimitiveLists.{made_listed, made_some, made_line}
use Rattle.sum_basis.proofs.form.Form.settle_list.Goals as goal

-- an empty list, and one that isn't
empty : (len : ℕ) (es : List FreeEntry) (b : Bool) → len ≡ length es → b ≡ nat_eq len 0 → b ≡ true → length es ≡ 0
empty len es b l is holds = sym l ∙ eqb-true len 0 (sym is ∙ holds)

not_empty : (len : ℕ) (es : List FreeEntry) (b : Bool) → len ≡ length es → b ≡ nat_eq len 0 → b ≡ false → 0 < length es
not_empty len [] b l is fails = absurd (true≢false (sym (is ∙ eq-eqb len 0 l) ∙ fails))
not_empty len (e ∷ es) b l is fails = omega arith

-- an empty list has nothing
none_listed : (list : List FreeEntry) (row : List ℤ) → length list ≡ 0 → ((j : ℕ) → entry_at list j ≡ number_at row j) → (j : ℕ) → number_at row j ≡ pos 0
none_listed [] row e is j = sym (is j)
none_listed (x ∷ list) row e is j = absurd (omega arith)

-- the entries over their content, as those of what is left of a row
module _ (old : Echelon) (list made : List FreeEntry) (listed : IsListed 0 old.n list) (some : 0 < length list) (m : IsMadeList list made) (v : List ℤ)
    (left : LeavesEntries old v list) where
  over_row : IsListed 0 (length left.row) list
  over_row = subst (λ k. IsListed 0 k list) (sym left.long) listed

  list_is : IsListed 0 old.n made
  list_is = made_listed old.n left.row list made left.long over_row left.is some m

  some_is : 0 < length made
  some_is = made_some old.n left.row list made left.long over_row left.is some m

  row_is : IsSmallForm old.n old.rows → IsNewRow old v (row_of old.n made)
  row_is f = new_row old v left.row f left.remainder _ (made_line old.n left.row list made left.long over_row left.is some m)

pub returns-then-is_empty-clause-left : goal.returns-then-is_empty-clause-left
returns-then-is_empty-clause-left c = λ v left.
    nothing_new c.args.self.now v left.row c.columns.ensures.form left.remainder
    (none_listed c.args.entries.items left.row
    (empty c.args.entries.len c.args.entries.items c.is_empty.result c.args.entries.ok.0 c.is_empty.ensures c.if-is_empty.true) left.is)

pub make_primitive-requires-clause-some : goal.make_primitive-requires-clause-some
make_primitive-requires-clause-some c =
    let some = not_empty c.args.entries.len c.args.entries.items c.is_empty.result c.args.entries.ok.0 c.is_empty.ensures c.if-is_empty.false in
    let len = c.args.entries.ok.0 in
    omega arith

pub make_primitive-requires-clause-first : goal.make_primitive-requires-clause-first
make_primitive-requires-clause-first c =
    first_some c.args.self.now.n c.args.entries.items c.requires.listed
    (not_empty c.args.entries.len c.args.entries.items c.is_empty.result c.args.entries.ok.0 c.is_empty.ensures c.if-is_empty.false)

pub returns-then-not-are_within-clause-left : goal.returns-then-not-are_within-clause-left
returns-then-not-are_within-clause-left c = λ v left.
    let n = c.args.self.now.n in
    let some = not_empty c.args.entries.len c.args.entries.items c.is_empty.result c.args.entries.ok.0 c.is_empty.ensures c.if-is_empty.false in
    let listed = list_is c.args.self.now c.args.entries.items c.make_primitive.new.entries.items c.requires.listed some c.make_primitive.ensures.made v left in
    let f = c.columns.ensures.form in
    let row = row_is c.args.self.now c.args.entries.items c.make_primitive.new.entries.items c.requires.listed some c.make_primitive.ensures.made v left f in (
      row.outside,
      grows_wide c.args.self.now v _ row (new_too_large c.args.self.now _
          (record { primitive = f.primitive; echelon = f.echelon; entries = c.columns.ensures.narrow.entries }) row.primitive row.zeros
          c.args.limit c.requires.limit.0
          (λ within. true≢false (sym (c.are_within.ensures.1 (subst (AllByRecursion (λ (e : FreeEntry). unsigned_abs e.value ≤ c.args.limit))
          (sym c.deref.ensures.value) (values_within c.args.limit n c.make_primitive.new.entries.items listed within))) ∙ c.if-not-are_within.true))),
    )

pub returns-then-not-are_within-clause-large : goal.returns-then-not-are_within-clause-large
returns-then-not-are_within-clause-large c = λ v left large.
    let n = c.args.self.now.n in
    let some = not_empty c.args.entries.len c.args.entries.items c.is_empty.result c.args.entries.ok.0 c.is_empty.ensures c.if-is_empty.false in
    let listed = list_is c.args.self.now c.args.entries.items c.make_primitive.new.entries.items c.requires.listed some c.make_primitive.ensures.made v left in
    let row = row_is c.args.self.now c.args.entries.items c.make_primitive.new.entries.items c.requires.listed some c.make_primitive.ensures.made v left
    c.columns.ensures.form in (
      _,
      row,
      (λ within. true≢false (sym (c.are_within.ensures.1 (subst (AllByRecursion (λ (e : FreeEntry). unsigned_abs e.value ≤ c.args.limit))
          (sym c.deref.ensures.value) (values_within c.args.limit n c.make_primitive.new.entries.items listed within))) ∙ c.if-not-are_within.true)),
    )

pub returns-clause-left : goal.returns-clause-left
returns-clause-left c = λ v left.
    let n = c.args.self.now.n in
    let some = not_empty c.args.entries.len c.args.entries.items c.is_empty.result c.args.entries.ok.0 c.is_empty.ensures c.if-is_empty.false in
    let made = c.make_primitive.ensures.made in
    let listed = list_is c.args.self.now c.args.entries.items c.make_primitive.new.entries.items c.requires.listed some made v left in
    let row = row_is c.args.self.now c.args.entries.items c.make_primitive.new.entries.items c.requires.listed some made v left c.columns.ensures.form in
    let within = subst (AllByRecursion (λ (e : FreeEntry). unsigned_abs e.value ≤ c.args.limit)) c.deref.ensures.value
    (c.are_within.ensures.0 c.if-not-are_within.false) in
    rw (c.in_ok-kept.ensures.same ∙ c.deref-2.ensures.value) (
      record {
        some = some_is c.args.self.now c.args.entries.items c.make_primitive.new.entries.items c.requires.listed some made v left;
        listed = listed;
        primitive = row.primitive;
        small = within_more c.args.limit (2 ^ 56) _ c.requires.limit.1 (row_within c.args.limit n c.make_primitive.new.entries.items listed within);
      },
      row,
      (let room = c.in_ok-kept.ensures.room in let same = ap (λ (e : Echelon). e.n) c.self.view_is in omega arith),
    )

pub returns-clause-within : goal.returns-clause-within
returns-clause-within c =
    let n = c.args.self.now.n in
    let some = not_empty c.args.entries.len c.args.entries.items c.is_empty.result c.args.entries.ok.0 c.is_empty.ensures c.if-is_empty.false in
    let listed = list_is c.args.self.now c.args.entries.items c.make_primitive.new.entries.items c.requires.listed some c.make_primitive.ensures.made
    c.requires.left.0 c.requires.left.1 in
    rw (c.in_ok-kept.ensures.same ∙ c.deref-2.ensures.value) (row_within c.args.limit n c.make_primitive.new.entries.items listed
    (subst (AllByRecursion (λ (e : FreeEntry). unsigned_abs e.value ≤ c.args.limit)) c.deref.ensures.value (c.are_within.ensures.0 c.if-not-are_within.false)))

pub short_list-requires-clause-length : goal.short_list-requires-clause-length
short_list-requires-clause-length c =
    let n = c.args.self.now.n in
    let some = not_empty c.args.entries.len c.args.entries.items c.is_empty.result c.args.entries.ok.0 c.is_empty.ensures c.if-is_empty.false in
    let listed = list_is c.args.self.now c.args.entries.items c.make_primitive.new.entries.items c.requires.listed some c.make_primitive.ensures.made
    c.requires.left.0 c.requires.left.1 in
    let all = listed_length 0 n c.make_primitive.new.entries.items (omega arith) listed in
    let same = ap (λ (e : Echelon). e.n) c.self.view_is in
    let list = ap length c.deref-2.ensures.value in
    omega arith

pub short_list-requires-clause-small : goal.short_list-requires-clause-small
short_list-requires-clause-small c =
    all-weaker (λ (e : FreeEntry). unsigned_abs e.value ≤ c.args.limit) (λ (e : FreeEntry). unsigned_abs e.value ≤ 2 ^ 56)
    (λ e h. let limit = c.requires.limit.1 in omega arith) _
    (subst (AllByRecursion (λ (e : FreeEntry). unsigned_abs e.value ≤ c.args.limit)) (c.deref.ensures.value ∙ sym c.deref-2.ensures.value)
    (c.are_within.ensures.0 c.if-not-are_within.false))
