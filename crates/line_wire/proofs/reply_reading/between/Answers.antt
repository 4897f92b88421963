use Rattle.std.proofs.Common.{◌≡◌, ◌++◌, Some, None, sym, ◌∙◌}
use Rattle.std.proofs.lemmas.Bool.Decides.{Decides-eqb}
use Rattle.std.proofs.lemmas.List.{append_cancel_left}
use Rattle.std.proofs.lemmas.Slice.Eq.{strip_prefix_is, strip_suffix_is}
use Rattle.line_wire.proofs.ReplyParts.{stripped}
use Rattle.line_wire.proofs.reply_reading.between.Goals as goal

pub returns-in-Some : goal.returns-in-Some
returns-in-Some c = λ piece is.
    let split : c.args.line.now ≡ c.args.front.now ++ c.in-Some.behind.now =
    strip_prefix_is Decides-eqb c.args.line.now c.args.front.now (Some c.in-Some.behind) c.in-Some.ensures.cases in
    stripped c.in-Some.behind.now piece c.args.end.now c.strip_suffix.result
    (strip_suffix_is Decides-eqb c.in-Some.behind.now c.args.end.now c.strip_suffix.result c.strip_suffix.ensures.cases)
    (append_cancel_left c.args.front.now c.in-Some.behind.now (piece ++ c.args.end.now) (sym split ∙ is))

pub returns-in-None : goal.returns-in-None
returns-in-None c = λ piece is. absurd (strip_prefix_is Decides-eqb c.args.line.now c.args.front.now None c.in-None.ensures.cases (piece ++ c.args.end.now) is)
