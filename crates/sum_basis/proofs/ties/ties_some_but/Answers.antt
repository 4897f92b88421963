use Rattle.std.proofs.Common.{arith, refl, sym, ◌∙◌, subst, take, ◌<◌, ◌≤◌, ◌^◌, ℕ, List, [], ◌∷◌, inl, inr, unsigned_abs}
use Rattle.std.specs.List.{AllByRecursion}
use Rattle.std.proofs.lemmas.Bool.{true≢false}
use Rattle.std.proofs.lemmas.List.{take_all}
use Rattle.sum_basis.specs.Sparse.{rows_of, IsKept}
use Rattle.sum_basis.specs.Ties.{ShowsTieBut}
use Rattle.sum_basis.specs.declared.sparse.SparseRow.{SparseRow}
use Rattle.sum_basis.proofs.TiedRows.{line_of, stands, all_front, all_there, row_there, row_in_front, one_taken, small_lists}
use Rattle.sum_basis.proofs.TiedRowsBut.{like_parallel, none_with}
use Rattle.sum_basis.proofs.ties.ties_some_but.Goals as goal

all_below : (n : ℕ) (rows : List SparseRow) → AllByRecursion (IsKept n) rows → AllByRecursion (λ r. r.pivot < n) rows
all_below n [] kept = tt
all_below n (r ∷ rows) kept = (kept.0.listed.1, all_below n rows kept.1)

pub loop-k-init : goal.loop-k-init
loop-k-init c = λ h. nothing c.args.beside.now.list c.args.several.now.list h
  where
    nothing : (beside several : List ℕ) → ShowsTieBut beside several [] → ⊥
    nothing beside several (inl (row, among, short)) = among
    nothing beside several (inr (row, other, among, others, p)) = among

pub has_like_list_but-requires-clause-below : goal.has_like_list_but-requires-clause-below
has_like_list_but-requires-clause-below c =
    all_front (λ r. r.pivot < c.args.several.now.n) c.loop-k.k c.args.rows.now (all_below c.args.several.now.n c.args.rows.now c.requires.kept)

pub has_like_list_but-requires-clause-front : goal.has_like_list_but-requires-clause-front
has_like_list_but-requires-clause-front c = all_front (λ r. AllByRecursion (λ e. unsigned_abs e.value ≤ 2 ^ 56) r.free.items) c.loop-k.k c.args.rows.now
    (small_lists c.args.several.now.n c.args.rows.now c.requires.kept c.requires.form.entries)

pub has_like_list_but-requires-clause-row : goal.has_like_list_but-requires-clause-row
has_like_list_but-requires-clause-row c =
    all_there (λ r. AllByRecursion (λ e. unsigned_abs e.value ≤ 2 ^ 56) r.free.items) c.loop-k.k c.args.rows.now c.index-rows-k.result c.loop-k-test.true
    c.index-rows-k.is
    (small_lists c.args.several.now.n c.args.rows.now c.requires.kept c.requires.form.entries)

pub has_like_list_but-requires-clause-pivot : goal.has_like_list_but-requires-clause-pivot
has_like_list_but-requires-clause-pivot c =
    all_there (λ r. r.pivot < c.args.several.now.n) c.loop-k.k c.args.rows.now c.index-rows-k.result c.loop-k-test.true c.index-rows-k.is
    (all_below c.args.several.now.n c.args.rows.now c.requires.kept)

pub returns-then-is_short_but : goal.returns-then-is_short_but
returns-then-is_short_but c = (
  λ yes. inl (
    line_of c.args.several.now.n c.index-rows-k.result,
    row_there c.args.several.now.n c.loop-k.k c.args.rows.now c.index-rows-k.result c.loop-k-test.true c.index-rows-k.is,
    c.is_short_but.ensures.0 c.if-is_short_but.true,
  ),
  λ any. refl,
)

pub returns-then-has_like_list_but : goal.returns-then-has_like_list_but
returns-then-has_like_list_but c = (
  λ yes.
      let n = c.args.several.now.n in
      let rows = c.args.rows.now in
      let k = c.loop-k.k in
      let r = c.index-rows-k.result in
      let kept = all_there (IsKept n) k rows r c.loop-k-test.true c.index-rows-k.is c.requires.kept in
      let found = like_parallel n c.args.beside.now.list c.args.several.now.list r kept (take k rows) (all_front (IsKept n) k rows c.requires.kept)
      (stands n rows k r c.loop-k-test.true c.index-rows-k.is c.requires.form.echelon) (c.has_like_list_but.ensures.0 c.if-has_like_list_but.true) in
      inr (
        found.0,
        line_of n r,
        row_in_front n k rows found.0 found.1,
        row_there n k rows r c.loop-k-test.true c.index-rows-k.is,
        found.2,
      ),
  λ any. refl,
)

pub loop-k-preserved : goal.loop-k-preserved
loop-k-preserved c = λ h.
    let n = c.args.several.now.n in
    let beside = c.args.beside.now.list in
    let several = c.args.several.now.list in
    let rows = c.args.rows.now in
    let k = c.loop-k.k in
    let r = c.index-rows-k.result in
    none_with n beside several r (all_there (IsKept n) k rows r c.loop-k-test.true c.index-rows-k.is c.requires.kept) (take k rows)
    (all_front (IsKept n) k rows c.requires.kept)
    (stands n rows k r c.loop-k-test.true c.index-rows-k.is c.requires.form.echelon) c.loop-k.invariant
    (λ short. absurd (true≢false (sym (c.is_short_but.ensures.1 short) ∙ c.if-is_short_but.false)))
    (λ like. absurd (true≢false (sym (c.has_like_list_but.ensures.1 like) ∙ c.if-has_like_list_but.false)))
    (subst (λ l. ShowsTieBut beside several (rows_of n l)) (one_taken rows k r c.loop-k-test.true c.index-rows-k.is) h)

pub returns : goal.returns
returns c = (
  λ yes. absurd (true≢false (sym yes)),
  λ h. absurd (c.loop-k.invariant (subst (λ l. ShowsTieBut c.args.beside.now.list c.args.several.now.list (rows_of c.args.several.now.n l))
      (sym (take_all c.loop-k.k c.args.rows.now (omega (arith, c.loop-k-test.false)))) h)),
)
