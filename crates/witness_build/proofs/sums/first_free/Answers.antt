use Rattle.std.proofs.Common.{ℕ, [], get_or, sym, subst}
use Rattle.sum_basis.specs.Basis.{Echelon, IsFreeList}
use Rattle.witness_build.proofs.FreeColumns.{length_of_row, first_is, none_is}
use Rattle.witness_build.proofs.sums.first_free.Goals as goal

pub returns-in-Some : goal.returns-in-Some
returns-in-Some c =
    let rows = c.args.basis.now.rows in
    let row = get_or rows c.args.k [] in
    let list = subst (λ (f : Echelon). IsFreeList f.n f.rows (get_or f.rows c.args.k []) c.free.result.now) c.form.ensures c.free.ensures in
    first_is c.args.n rows row (length_of_row c.args.n rows c.args.k c.requires.form c.requires.k) c.free.result.now c.in-Some.entry.now
    (subst (λ (n : ℕ). IsFreeList n rows row c.free.result.now) (sym c.requires.n) list) c.in-Some.ensures.value

pub returns-in-None : goal.returns-in-None
returns-in-None c =
    let rows = c.args.basis.now.rows in
    let row = get_or rows c.args.k [] in
    let list = subst (λ (f : Echelon). IsFreeList f.n f.rows (get_or f.rows c.args.k []) c.free.result.now) c.form.ensures c.free.ensures in
    none_is c.args.n rows row (length_of_row c.args.n rows c.args.k c.requires.form c.requires.k) c.free.result.now
    (subst (λ (n : ℕ). IsFreeList n rows row c.free.result.now) (sym c.requires.n) list) c.in-None.ensures.value
