use Rattle.std.proofs.Common.{rules, ℤ, SFits, sym, ◌∙◌, subst}
use Rattle.std.specs.Int.{w64}
use Rattle.std.proofs.lemmas.Int.{to_z-of_z}
use Rattle.std.proofs.lemmas.Bool.{true≢false}
use Rattle.max_bounds.specs.Outside.{HasExtremesWithin}
use Rattle.implied_records.proofs.HighestBounds.{one_highest}
use Rattle.implied_records.proofs.following.is_forced_to_one.Goals as goal

pub returns-in-None : goal.returns-in-None
returns-in-None c = (
  λ no. absurd (true≢false (sym no)),
  λ forced. absurd (c.in-None.ensures forced.0 forced.1.highest),
)

pub returns-in-Some : goal.returns-in-Some
returns-in-Some c =
    let answers = c.args.bounds.now.answers in
    let rows = c.args.rows.now.list in
    let highest = c.in-Some.ensures in
    let fits : SFits w64 c.in-Some.highest = search rules in
    let number = to_z-of_z w64 c.in-Some.highest fits in
    let Within : ℤ → Type 0 = λ z. HasExtremesWithin answers rows z in (
      λ within. (c.in-Some.highest, record { highest = highest; reached = subst Within number (c.has_extremes_within.ensures.0 within) }),
      λ forced. c.has_extremes_within.ensures.1 (subst Within (one_highest answers rows forced.0 c.in-Some.highest forced.1.highest highest ∙ sym number)
          forced.1.reached),
    )
