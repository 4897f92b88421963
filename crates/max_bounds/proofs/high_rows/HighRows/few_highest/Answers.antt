use Rattle.std.proofs.Common.{◌≡◌, true, rules, SFits, sym, ap, ◌∙◌, subst}
use Rattle.std.specs.Prelude.{◌↔◌, IsTrue}
use Rattle.std.specs.Int.{w64}
use Rattle.std.proofs.lemmas.Int.{to_z-of_z}
use Rattle.audit_types.specs.Rows.{has_row, intersection}
use Rattle.max_bounds.specs.Reaching.{bound_at}
use Rattle.max_bounds.specs.Few.{HasFewHighest}
use Rattle.max_bounds.specs.Kept.{is_at_least}
use Rattle.max_bounds.proofs.HighRows.{same_highest}
use Rattle.max_bounds.proofs.high_rows.HighRows.few_highest.Goals as goal

pub returns : goal.returns
returns c =
    let people = c.args.people.now.people in
    let bound = bound_at c.args.upper.now in
    let found = c.has_at_least.ensures c.if-not-has_at_least.false in
    let fits : SFits w64 c.args.self.now.cut = search rules in
    let reaches : is_at_least c.args.self.now.cut (bound found.0) ≡ true =
    ap (λ a. is_at_least a (bound found.0)) (sym (to_z-of_z w64 c.args.self.now.cut fits)) ∙ found.2 in
    let told : IsTrue c.few_highest.result ↔ HasFewHighest people bound
    (intersection c.args.rows.now.n c.args.rows.now.list c.args.self.now.rows.list) =
    subst (λ l. IsTrue c.few_highest.result ↔ HasFewHighest people bound l) c.and_with.ensures.both c.few_highest.ensures in
    let same = same_highest c.args.rows.now.n bound c.args.self.now c.requires.high c.args.rows.now.list c.n.ensures.are_rows people found.0
    (ap (λ l. has_row l found.0) (sym c.and_with.ensures.both) ∙ found.1) reaches in
    (λ yes. same.0 (told.0 yes), λ few. told.1 (same.1 few))
