use Rattle.std.proofs.Common.{◌≡◌, ◌++◌, [], ◌∷◌, ◌∙◌, decimal, sym, ap, map}
use Rattle.std.proofs.lemmas.List.{map-append}
use Rattle.audit_types.specs.RowLaws.{walk_more}
use Rattle.line_wire.specs.CommaLists.{with_commas, is_none, is_none-snoc, text_more}
use Rattle.certificate_lines.proofs.texts.put_rows.Goals as goal

pub loop-row-preserved : goal.loop-row-preserved
loop-row-preserved c =
    let before = c.args.line.now.items in
    let texts = map decimal c.loop-row.yielded in
    let text = decimal c.in-Some.row in
    let more : map decimal (c.loop-row.yielded ++ c.in-Some.row ∷ []) ≡ texts ++ text ∷ [] = map-append decimal c.loop-row.yielded (c.in-Some.row ∷ []) in
    let put = c.in_ok-put_number.ensures ∙ ap (λ l. c.loop-row.line.items ++ l ++ text) c.comma_unless.ensures in
    record {
      together =
          walk_more c.loop-row.yielded c.loop-row.row-iterator c.next.new.self c.args.rows.now.list c.in-Some.row c.loop-row.invariant.together
          c.in-Some.ensures.steps;
      so_far =
          text_more before c.put_number.new.line.items c.loop-row.line.items c.loop-row.first texts text c.loop-row.invariant.so_far
          c.loop-row.invariant.none_before put
          ∙ ap (λ t. before ++ with_commas t) (sym more);
      none_before = sym (ap is_none more ∙ is_none-snoc texts text);
    }
