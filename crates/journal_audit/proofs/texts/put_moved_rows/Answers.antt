use Rattle.std.proofs.Common.{◌≡◌, ◌++◌, ◌∙◌, refl, sym, ap, arith, append-nil, List, ℤ, pos, get_or, take, to_z, of_z}
use Rattle.std.proofs.lemmas.List.{take_all}
use Rattle.std.proofs.lemmas.Result.{IfOk-from_err}
use Rattle.std.proofs.lemmas.Int.{to_z-of_z}
use mir.Syntax.{w128}
use Rattle.line_wire.specs.CommaLists.{with_commas, comma_unless, is_none, is_none-snoc, text_more, at_place}
use Rattle.journal_audit.specs.Texts.{moved_rows}
use Rattle.journal_audit.proofs.MovedRows.{moved_by, not_moved_by}
use Rattle.journal_audit.proofs.texts.put_moved_rows.Goals as goal
use Rattle.journal_audit.proofs.texts.put_moved_rows.Goals.{then-number-ne0+in_ok-put_at_place, else-number-ne0}

pub loop-row-init : goal.loop-row-init
loop-row-init c = record { so_far = sym (append-nil c.args.line.now.items); none_before = refl }

pub bounds-direction-row : goal.bounds-direction-row
bounds-direction-row c = c.loop-row-test.true

pub returns-in_err-put_at_place : goal.returns-in_err-put_at_place
returns-in_err-put_at_place c = IfOk-from_err _ _ c.from_residual.ensures.0

pub returns : goal.returns
returns c =
    let all = take_all c.loop-row.row c.args.direction.now c.loop-row-test.false in
    c.loop-row.invariant.so_far ∙ ap (λ (d : List ℤ). c.args.line.now.items ++ with_commas (moved_rows 0 d)) all

pub loop-row-preserved : goal.loop-row-preserved
loop-row-preserved c =
    let before = c.args.line.now.items in
    let i = c.loop-row.row in
    let d = c.args.direction.now in
    let x : ℤ = get_or d i (pos 0) in
    let texts = moved_rows 0 (take i d) in
    let same : to_z w128 (of_z w128 x) ≡ x = grind (arith, to_z-of_z) in
    elim c.if-number-ne0.branch [
      | then-number-ne0+in_ok-put_at_place w ↦
          let more = moved_by d i c.loop-row-test.true (λ e. w.if-number-ne0.true (ap (of_z w128) e)) in
          let put = w.in_ok-put_at_place.ensures ∙ ap (λ z. c.loop-row.line.items ++ comma_unless c.loop-row.first ++ at_place i z) same in
          record {
            so_far =
                ap (λ v. v.items) w.line-is
                ∙ text_more before w.put_at_place.new.line.items c.loop-row.line.items c.loop-row.first texts
                (at_place i x) c.loop-row.invariant.so_far c.loop-row.invariant.none_before put
                ∙ ap (λ t. before ++ with_commas t) (sym more);
            none_before = w.first-is ∙ sym (ap is_none more ∙ is_none-snoc texts (at_place i x));
          }
      | else-number-ne0 w ↦
          let stays = not_moved_by d i c.loop-row-test.true (sym same ∙ ap (to_z w128) w.if-number-ne0.false) in
          record {
            so_far = ap (λ v. v.items) w.line-is ∙ c.loop-row.invariant.so_far ∙ ap (λ t. before ++ with_commas t) (sym stays);
            none_before = w.first-is ∙ c.loop-row.invariant.none_before ∙ ap is_none (sym stays);
          }
    ]
