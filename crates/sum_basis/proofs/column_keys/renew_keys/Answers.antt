use Rattle.std.proofs.Common.{◌≡◌, ◌≢◌, ℕ, ◌<◌, List, length, get_or, sym, ap, ◌∙◌, subst, inl, inr, arith}
use Rattle.std.specs.Vec.{with_items}
use Rattle.std.specs.Prelude.{Contains}
use Rattle.std.proofs.lemmas.Bool.{cases_Bool, true≢false}
use Rattle.std.proofs.lemmas.List.{get_or_default, with_items_is}
use Rattle.audit_types.specs.Rows.{has_row}
use Rattle.sum_basis.specs.Keys.{point_at}
use Rattle.sum_basis.specs.Points.{IsKey}
use Rattle.sum_basis.specs.declared.points.Point.{Point}
use Rattle.sum_basis.proofs.ForeseenPoints.{keys_stay}
use Rattle.sum_basis.proofs.column_keys.renew_keys.Goals as goal

pub returns-in_err-write_keys_of : goal.returns-in_err-write_keys_of
returns-in_err-write_keys_of c =
    let was = c.renew_points.new.kept in
    let are = c.renew_points.ensures.kept in
    let columns = c.in_ok-some.some.columns.items in
    let keys = c.write_keys_of.new.keys in
    let stored = with_items_is was.keys keys (c.write_keys_of.auto.keys ∙ c.deref_mut.ensures.len) in
    keys_stay c.args.form.now was (with_items was.keys keys) are
    (ap length stored ∙ c.write_keys_of.auto.keys ∙ ap length c.deref_mut.ensures.value ∙ are.keys_each)
    (λ q known.
    ap (λ (l : List ℕ). get_or l q 0) stored
    ∙ c.write_keys_of.ensures.others q (λ found.
    true≢false (sym (c.in_ok-some.ensures.are found.0 found.1).0
    ∙ ap (has_row was.unknown.list) (get_or_default columns found.0 0 q found.1 ∙ found.2) ∙ known))
    ∙ ap (λ (l : List ℕ). get_or l q 0) c.deref_mut.ensures.value)

pub returns-then-not-branch : goal.returns-then-not-branch
returns-then-not-branch c =
    let was = c.renew_points.new.kept in
    let are = c.renew_points.ensures.kept in
    let columns = c.in_ok-some.some.columns.items in
    let keys = c.write_keys_of.new.keys in
    let stored = with_items_is was.keys keys (c.write_keys_of.auto.keys ∙ c.deref_mut.ensures.len) in
    keys_stay c.args.form.now was (with_items was.keys keys) are
    (ap length stored ∙ c.write_keys_of.auto.keys ∙ ap length c.deref_mut.ensures.value ∙ are.keys_each)
    (λ q known.
    ap (λ (l : List ℕ). get_or l q 0) stored
    ∙ c.write_keys_of.ensures.others q (λ found.
    true≢false (sym (c.in_ok-some.ensures.are found.0 found.1).0
    ∙ ap (has_row was.unknown.list) (get_or_default columns found.0 0 q found.1 ∙ found.2) ∙ known))
    ∙ ap (λ (l : List ℕ). get_or l q 0) c.deref_mut.ensures.value)

pub returns : goal.returns
returns c =
    let was = c.renew_points.new.kept in
    let are = c.renew_points.ensures.kept in
    let some = c.in_ok-some.some in
    let columns = some.columns.items in
    let picked = c.in_ok-some.ensures in
    let keys = c.write_keys_of.new.keys in
    let each : length keys ≡ was.keys.len = c.write_keys_of.auto.keys ∙ c.deref_mut.ensures.len in
    let stored = with_items_is was.keys keys each in
    let stays = λ (q : ℕ) (none : ¬ (Contains columns q)).
    c.write_keys_of.ensures.others q none ∙ ap (λ (l : List ℕ). get_or l q 0) c.deref_mut.ensures.value in
    record {
      weights = are.weights;
      points_each = are.points_each;
      heads_each = are.heads_each;
      keys_each = ap length stored ∙ c.write_keys_of.auto.keys ∙ ap length c.deref_mut.ensures.value ∙ are.keys_each;
      columns = c.without_key-kept.ensures.n ∙ are.columns;
      own = are.own;
      rows = are.rows;
      known = λ q below h. elim (cases_Bool (has_row was.unknown.list q)) [
        | inl unknown ↦
            let inside : q < was.unknown.n = omega (arith, below, are.columns) in
            let kept_inside : q < c.without_key-kept.result.n = omega (arith, inside, c.without_key-kept.ensures.n) in
            let second : (point_at was.points.items q).second ≢ 0 = elim (c.without_key-kept.ensures.others q kept_inside h) [
              | inl known ↦ absurd (true≢false (sym unknown ∙ known))
              | inr some_second ↦ some_second
            ] in
            let (k, within, at, is) = c.in_ok-write_keys_of.ensures.written c.if-not-branch.false q (picked.all q inside unknown second) in
            record {
              point = c.renew_points.ensures.points q below;
              key =
                  subst (λ (l : List ℕ). IsKey (point_at was.points.items q) (get_or l q 0)) (sym stored)
                  (subst (λ (p : Point). IsKey p (get_or keys q 0)) ((picked.are k within).1 ∙ ap (point_at was.points.items) at) is);
            }
        | inr known ↦
            let before = are.known q below known in
            record {
              point = before.point;
              key =
                  subst (λ (l : List ℕ). IsKey (point_at was.points.items q) (get_or l q 0)) (sym stored)
                  (subst (IsKey (point_at was.points.items q))
                  (sym (stays q (λ found.
                  true≢false (sym (picked.are found.0 found.1).0
                  ∙ ap (has_row was.unknown.list) (get_or_default columns found.0 0 q found.1 ∙ found.2) ∙ known))))
                  before.key);
            }
      ];
    }
