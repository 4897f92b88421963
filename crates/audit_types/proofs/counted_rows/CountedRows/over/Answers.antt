use Rattle.std.proofs.Common.{◌+◌, ◌≤◌, length, sym, ap, subst, arith}
use Rattle.audit_types.specs.Rows.{Rows, AreRows}
use Rattle.audit_types.specs.Headcount.{Counted, own_of}
use Rattle.audit_types.specs.HeadcountLaws.{crowded_rows}
use Rattle.audit_types.proofs.counted_rows.CountedRows.over.Goals as goal

pub over-requires-clause-rows : goal.over-requires-clause-rows
over-requires-clause-rows c =
    let same = ap (λ (k : Counted). length k.people.counts) c.self.view_is in
    let within : length c.self.inside.counts.items ≤ c.args.n = omega (arith, c.requires.within, same) in
    let least = c.self.inside.fewest + own_of c.self.inside.askers in
    subst (λ (s : Rows). AreRows c.args.n s.list) (sym c.self.invariant.shared_is) (crowded_rows least c.args.n c.self.inside.counts.items within)

pub over-requires-2-clause-rows : goal.over-requires-2-clause-rows
over-requires-2-clause-rows c =
    let same = ap (λ (k : Counted). length k.people.counts) c.self.view_is in
    let within : length c.self.inside.counts.items ≤ c.args.n = omega (arith, c.requires.within, same) in
    let least = c.self.inside.fewest in
    subst (λ (s : Rows). AreRows c.args.n s.list) (sym c.self.invariant.beside_is) (crowded_rows least c.args.n c.self.inside.counts.items within)

pub over-requires-3-clause-rows : goal.over-requires-3-clause-rows
over-requires-3-clause-rows c =
    let same = ap (λ (k : Counted). length k.people.counts) c.self.view_is in
    let within : length c.self.inside.counts.items ≤ c.args.n = omega (arith, c.requires.within, same) in
    subst (λ (s : Rows). AreRows c.args.n s.list) (sym c.self.invariant.several_is) (crowded_rows 2 c.args.n c.self.inside.counts.items within)
