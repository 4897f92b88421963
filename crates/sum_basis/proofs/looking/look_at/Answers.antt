use Rattle.std.proofs.Common.{refl, sym, ◌∙◌, IsTrue, subst}
use Rattle.std.proofs.lemmas.Bool.{eqb-true, eq-eqb}
use Rattle.sum_basis.proofs.BoundedRows.{by_length, within_limit}
use Rattle.sum_basis.proofs.looking.look_at.Goals as goal

pub returns-then-row-sure-clause-cleared : goal.returns-then-row-sure-clause-cleared
returns-then-row-sure-clause-cleared c =
    let r = c.args.row.now in
    let empty = c.is_empty.ensures in
    by_length c.args.columns c.args.row.now c.args.new.now c.requires.kept c.requires.primitive c.requires.new c.requires.zero c.args.most c.requires.most _
    refl c.args.width c.is_empty.result
    c.requires.within (λ same. c.if-len-new.true (c.len.ensures ∙ r.free.ok.0 ∙ same))
    (within_limit c.args.width _ c.args.most c.args.sure r.most c.if-row-sure.true c.requires.sure) (
      λ yes. sym r.free.ok.0 ∙ eqb-true r.free.len 0 (subst IsTrue empty yes),
      λ none_left. subst IsTrue (sym empty) (eq-eqb r.free.len 0 (r.free.ok.0 ∙ none_left)),
    )
