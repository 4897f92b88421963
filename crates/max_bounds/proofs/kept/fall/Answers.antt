use Rattle.std.proofs.Common.{◌≡◌, ◌≤◌, ◌-◌, sym, ap, ◌∙◌, subst, length, map, [], rules, SFits}
use Rattle.std.specs.Int.{w64}
use Rattle.std.proofs.lemmas.Int.{to_z-of_z}
use Rattle.std.proofs.Math.Path.{fun_ext}
use Rattle.std.specs.List.{AllByRecursion}
use Rattle.audit_types.specs.Column.{Answer}
use Rattle.audit_types.specs.Extremes.{upper_bound, extremes}
use Rattle.max_bounds.specs.Maxima.{answers_of, and_answer}
use Rattle.max_bounds.specs.Reaching.{bound_at, reaching}
use Rattle.max_bounds.specs.Kept.{rows_above, falls_of, lowered_set, AreLeast, Descend}
use Rattle.max_bounds.specs.AnswerLaws.{all_from, rows_of}
use Rattle.max_bounds.proofs.NextExtremes.{none_falls, least_same, least_lowered, next_count, map_agree}
use Rattle.max_bounds.proofs.Descending.{lowered_descend}
use Rattle.max_bounds.proofs.kept.fall.Goals as goal

pub returns-then-is_empty-clause-tells : goal.returns-then-is_empty-clause-tells
returns-then-is_empty-clause-tells c =
    let answers = answers_of c.args.pairs.now.items in
    let rows = c.args.latest.now.rows.list in
    let x = c.args.latest.now.answer in
    let none : rows_above (upper_bound answers) x rows ≡ [] = ap (λ u. rows_above u x rows) (sym (fun_ext c.requires.bounds)) ∙ sym c.requires.falling
    ∙ c.is_empty.ensures.0 c.if-is_empty.true in
    let same = none_falls answers rows x none in
    record {
      counted =
          c.requires.told.counted
          ∙ map_agree (λ a. length (extremes answers a)) (λ a. length (extremes (and_answer answers rows x) a)) answers (λ a one. ap length (sym (same a one)));
      fewest_is = c.requires.told.fewest_is;
      are_least = least_same answers rows x (answers_of c.args.least.now.items) same c.requires.told.are_least;
    }

pub lower_counts-requires-clause-same_n : goal.lower_counts-requires-clause-same_n
lower_counts-requires-clause-same_n c = c.requires.same_n ∙ sym c.requires.same_n_falling

pub lower_counts-requires-clause-counted : goal.lower_counts-requires-clause-counted
lower_counts-requires-clause-counted c =
    c.requires.told.counted
    ∙ ap (λ u. map (λ (a : Answer). length (reaching u a.rows a.value)) (answers_of c.args.pairs.now.items)) (sym (fun_ext c.requires.bounds))

pub lower_counts-requires-clause-few : goal.lower_counts-requires-clause-few
lower_counts-requires-clause-few c =
    let answers = answers_of c.args.pairs.now.items in
    let rows = c.args.latest.now.rows.list in
    let x = c.args.latest.now.answer in
    let n = c.args.latest.now.rows.n in
    let falling = ap (λ u. rows_above u x rows) (fun_ext c.requires.bounds) in
    let few : AllByRecursion (λ a. length (falls_of (upper_bound answers) (rows_above (upper_bound answers) x rows) a) ≤ length (extremes answers a)) answers =
    all_from (λ a. length (falls_of (upper_bound answers) (rows_above (upper_bound answers) x rows) a) ≤ length (extremes answers a)) answers
    (λ a one. (next_count answers rows x n c.n.ensures.are_rows a one (rows_of n answers c.requires.are_rows a one)).1) in
    subst (λ l. AllByRecursion (λ a. length (falls_of (bound_at c.args.upper.now) l a) ≤ length (reaching (bound_at c.args.upper.now) a.rows a.value)) answers)
    (sym c.requires.falling)
    (subst (λ u. AllByRecursion (λ a. length (falls_of u (rows_above u x rows) a) ≤ length (reaching u a.rows a.value)) answers)
    (sym (fun_ext c.requires.bounds)) few)

pub returns-clause-tells : goal.returns-clause-tells
returns-clause-tells c =
    let answers = answers_of c.args.pairs.now.items in
    let rows = c.args.latest.now.rows.list in
    let x = c.args.latest.now.answer in
    let n = c.args.latest.now.rows.n in
    let fits : SFits w64 x = search rules in
    let same = to_z-of_z w64 x fits in
    record {
      counted = c.lower_counts.ensures.lowered
          ∙ ap
          (λ l. map (λ (a : Answer). length (reaching (bound_at c.args.upper.now) a.rows a.value) - length
          (falls_of (bound_at c.args.upper.now) l a)) answers) c.requires.falling
          ∙ ap (λ u. map (λ (a : Answer). length (reaching u a.rows a.value) - length (falls_of u (rows_above u x rows) a)) answers) (fun_ext c.requires.bounds)
          ∙ map_agree (λ a. length (extremes answers a) - length (falls_of (upper_bound answers) (rows_above (upper_bound answers) x rows) a))
          (λ a. length (extremes (and_answer answers rows x) a)) answers
          (λ a one. (next_count answers rows x n c.n.ensures.are_rows a one (rows_of n answers c.requires.are_rows a one)).0);
      fewest_is = c.fewest.ensures;
      are_least =
          subst (AreLeast (extremes (and_answer answers rows x)) answers)
          (sym (c.lower_sets.ensures.lowered ∙ ap (λ a. map (lowered_set a rows) (answers_of c.args.least.now.items)) same))
          (least_lowered answers rows x (answers_of c.args.least.now.items) c.requires.told.are_least);
    }

pub returns-clause-descend : goal.returns-clause-descend
returns-clause-descend c =
    subst Descend (sym c.lower_sets.ensures.lowered) (lowered_descend _ c.args.latest.now.rows.list (answers_of c.args.least.now.items) c.requires.descend)
