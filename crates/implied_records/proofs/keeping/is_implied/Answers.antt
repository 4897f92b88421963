use Rattle.std.proofs.Common.{ap, subst, sym, ℤ, SFits, rules}
use Rattle.std.specs.Int.{w64}
use Rattle.std.proofs.lemmas.Int.{to_z-of_z}
use Rattle.implied_records.specs.Kept.{IsForced}
use Rattle.audit_core.specs.Columns.{IsColumnAt}
use Rattle.max_bounds.specs.Maxima.{Maxima}
use Rattle.implied_records.proofs.OwnColumn.{sums_show, maxima_show}
use Rattle.implied_records.proofs.keeping.is_implied.Goals as goal

pub returns-in-Sum : goal.returns-in-Sum
returns-in-Sum c =
    let part = subst (IsColumnAt c.args.core.now c.args.answered.now.column) c.in-Sum.is c.column.ensures in
    let both = sums_show c.args.core.now c.args.answered.now c.requires.fits c.requires.possible c.implied_sums.ensures c.in-Sum.sums.now part
    c.n.ensures.are_rows c.basis.result.now.rows c.basis.result.now.n c.basis.ensures.n c.basis.ensures.form in
    (λ yes. both.0 (c.contains.ensures.0 yes), λ implied. c.contains.ensures.1 (both.1 implied))

pub returns-in-Max : goal.returns-in-Max
returns-in-Max c =
    let part = subst (IsColumnAt c.args.core.now c.args.answered.now.column) c.in-Max.is c.column.ensures in
    let same = ap (λ (m : Maxima). m.answers) c.bounds.ensures.exact in
    let fits : SFits w64 c.args.answered.now.answer = search rules in
    let number = to_z-of_z w64 c.args.answered.now.answer fits in
    let P : ℤ → Type 0 = λ z. IsForced c.bounds.result.now.answers (record { rows = c.args.answered.now.rows.list; value = z }) in
    let both = maxima_show c.args.core.now c.args.answered.now c.requires.fits c.requires.possible c.implied_maxima.ensures c.in-Max.maxima.now part
    c.bounds.ensures.well_formed c.bounds.result.now.answers same in
    (λ yes. both.0 (subst P number (c.is_forced.ensures.0 yes)), λ implied. c.is_forced.ensures.1 (subst P (sym number) (both.1 implied)))
