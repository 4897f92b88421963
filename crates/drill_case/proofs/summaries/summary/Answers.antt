use Rattle.std.proofs.Common.{◌++◌, ◌∙◌, codes, decimal}
use Rattle.drill_case.proofs.summaries.summary.Goals as goal

pub returns-clause-bytes : goal.returns-clause-bytes
returns-clause-bytes c =
    let tally = c.args.tally.now in
    let rows = c.append_number-at.ensures.bytes ∙ (λ i. codes "{\"rows\":" ++ decimal (c.from.ensures i)) in
    let asked = c.append_number-at-2.ensures.bytes ∙ (λ i. rows i ++ codes ",\"asked\":" ++ decimal tally.asked) in
    let released = c.append_number-at-3.ensures.bytes ∙ (λ i. asked i ++ codes ",\"released\":" ++ decimal tally.released) in
    let denied_unsafe = c.append_number-at-4.ensures.bytes ∙ (λ i. released i ++ codes ",\"unsafe\":" ++ decimal tally.denied_unsafe) in
    let denied_wide = c.append_number-at-5.ensures.bytes ∙ (λ i. denied_unsafe i ++ codes ",\"wide\":" ++ decimal tally.denied_wide) in
    let refused = c.append_number-at-6.ensures.bytes ∙ (λ i. denied_wide i ++ codes ",\"refused\":" ++ decimal tally.refused) in
    c.append.ensures.bytes ∙ (λ i. refused i ++ codes "}\n")
