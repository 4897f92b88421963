use Rattle.std.proofs.Common.{◌≡◌, ℕ, List, Bor, Option, Some, option_map, sym, ap, ◌∙◌}
use Rattle.json.specs.Value.{value_view}
use Rattle.line_wire.proofs.PlainObjects.{plain_question_is}
use Rattle.line_wire.proofs.plain.plain_question.Goals as goal

-- the text that was found
text_found : (o : Option (Bor (List ℕ))) (s : Bor (List ℕ)) (found : Option (List ℕ)) → option_map (λ t. t.now) o ≡ found → o ≡ Some s → found ≡ Some s.now
text_found o s found finds is = sym finds ∙ ap (λ (t : Option (Bor (List ℕ))). option_map (λ u. u.now) t) is

pub returns-in-Some-Some-clause-writes : goal.returns-in-Some-Some-clause-writes
returns-in-Some-Some-clause-writes c =
    let arm = c.in-Some-Some in
    plain_question_is (value_view c.args.value.now) arm.text.now arm.ask c.text_at-in-Some-Some.result c.with_name.result
    (sym c.is_plain.ensures ∙ c.if-not-is_plain.false) (text_found c.text_at.result arm.text _ c.text_at.ensures arm.is-0) (sym c.ask_at.ensures ∙ arm.is-1)
    (sym c.text_at-in-Some-Some.ensures) c.with_name.ensures
