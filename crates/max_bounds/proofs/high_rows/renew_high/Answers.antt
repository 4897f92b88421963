use Rattle.std.proofs.Common.{◌≡◌, sym, ap, ◌∙◌, subst, Vec, Global}
use Rattle.std.specs.Int.{w64}
use Rattle.std.proofs.lemmas.Int.{to_z-of_z}
use Rattle.std.specs.List.{AllByRecursion}
use Rattle.std.proofs.lemmas.List.{with_items_is}
use Rattle.max_bounds.specs.Reaching.{bound_at}
use Rattle.max_bounds.specs.Kept.{AreLow, IsHigh}
use Rattle.audit_types.specs.ListLaws.{all-weaker}
use Rattle.max_bounds.specs.declared.high_rows.HighRows.{HighRows}
use Rattle.max_bounds.proofs.high_rows.renew_high.Goals as goal
use Rattle.max_bounds.proofs.high_rows.renew_high.Goals.{then-not-affected, else-not-affected}

pub lower_high-requires : goal.lower_high-requires
lower_high-requires c =
    subst (AllByRecursion (λ h. h.rows.n ≡ c.args.rows.now.n)) (sym c.deref_mut.ensures.value)
    (all-weaker (IsHigh c.args.rows.now.n (bound_at c.args.upper.now)) (λ h. h.rows.n ≡ c.args.rows.now.n)
    (λ h high. high.same_n) c.args.high.now.items c.requires.high)

pub insert_high-requires-clause-high : goal.insert_high-requires-clause-high
insert_high-requires-clause-high c =
    let low = subst (λ a. AreLow (bound_at c.args.upper.now) a c.args.rows.now.list) (sym (to_z-of_z w64 c.args.answer c.ranges.answer)) c.requires.low in
    let P = IsHigh c.args.rows.now.n (bound_at c.args.upper.now) in
    let renewed : AllByRecursion (IsHigh c.args.rows.now.n (bound_at c.args.upper.now)) c.if-not-affected.high.items = elim c.if-not-affected.branch [
      | then-not-affected w ↦
          subst (AllByRecursion P)
          (sym (ap (λ (v : Vec HighRows Global). v.items) w.high-is
          ∙ with_items_is c.args.high.now w.lower_high.new.high (w.lower_high.auto.high ∙ w.deref_mut.ensures.len)))
          (w.lower_high.ensures (bound_at c.args.upper.now) low (subst (AllByRecursion P) (sym w.deref_mut.ensures.value) c.requires.high))
      | else-not-affected w ↦ subst (λ (v : Vec HighRows Global). AllByRecursion P v.items) (sym w.high-is) c.requires.high
    ] in
    subst (λ n. AllByRecursion (IsHigh n (bound_at c.args.upper.now)) c.if-not-affected.high.items) (sym c.n.ensures.n) renewed
