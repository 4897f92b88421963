use Rattle.std.proofs.Common.{refl, subst}
use Rattle.sum_basis.specs.declared.Prospect.{Prospect}
use Rattle.sum_basis.specs.Growth.{Foresees}
use Rattle.sum_basis.proofs.Exactness.{never_wide}
use Rattle.sum_basis.proofs.Joining.{not_grown_wide, not_wide_with, without_list, grown_to}
use Rattle.sum_basis.proofs.form.Form.join.Goals as goal

pub returns-in-Wide-clause-grows : goal.returns-in-Wide-clause-grows
returns-in-Wide-clause-grows c =
    let wide = subst (λ (p : Prospect). Foresees c.args.self.now c.args.row.now p) c.in-Wide.is c.in_ok-prospect.ensures.foresees in (
      (λ span. never_wide c.args.self.now c.args.row.now c.weigh.ensures.form c.weigh.ensures.narrow span wide),
      refl,
      wide,
    )

pub returns-in_default-list-clause-grows : goal.returns-in_default-list-clause-grows
returns-in_default-list-clause-grows c =
    let none = rw c.in_default-list.is at c.in_ok-prospect.ensures.nothing in
    (without_list c.args.self.now c.args.row.now c.in_ok-prospect.field-0.prospect c.in_default.not-Wide none, refl)

pub insert_list-requires-clause-new : goal.insert_list-requires-clause-new
insert_list-requires-clause-new c = let left = rw c.in-Some.is at c.in_ok-prospect.ensures.left in left.0

pub insert_list-requires-clause-new_room : goal.insert_list-requires-clause-new_room
insert_list-requires-clause-new_room c = let left = rw c.in-Some.is at c.in_ok-prospect.ensures.left in left.2

pub insert_list-requires-clause-zero : goal.insert_list-requires-clause-zero
insert_list-requires-clause-zero c = let left = rw c.in-Some.is at c.in_ok-prospect.ensures.left in left.1.zeros

pub insert_list-requires-clause-narrow : goal.insert_list-requires-clause-narrow
insert_list-requires-clause-narrow c =
    let left = rw c.in-Some.is at c.in_ok-prospect.ensures.left in
    not_wide_with c.args.self.now c.args.row.now _ left.1
    (not_grown_wide c.args.self.now c.args.row.now c.in_ok-prospect.field-0.prospect c.in_ok-prospect.ensures.foresees c.in_default.not-Wide)

pub returns : goal.returns
returns c =
    let left = rw c.in-Some.is at c.in_ok-prospect.ensures.left in
    record {
      grows = (
        left.1.outside,
        grown_to c.args.self.now c.insert_list.new.self c.in-Some.new.items c.args.row.now c.in_ok-prospect.field-0.prospect
            c.in_ok-prospect.ensures.foresees c.in_default.not-Wide c.in_ok-insert_list.ensures.n c.in_ok-insert_list.ensures.width left.1
            c.in_ok-insert_list.ensures.reduced,
      );
      n = c.in_ok-insert_list.ensures.n;
      width = c.in_ok-insert_list.ensures.width;
      err = tt;
    }
