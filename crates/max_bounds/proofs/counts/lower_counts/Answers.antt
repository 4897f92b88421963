use Rattle.std.proofs.Common.{refl, ◌≡◌, ◌<◌, ◌≤◌, ◌-◌, ℕ, arith, ap, sym, ◌∙◌, length, take_all, map, get_or}
use Rattle.audit_types.specs.Column.{Answer}
use Rattle.max_bounds.specs.Maxima.{answer_of, answers_of, pair_at}
use Rattle.max_bounds.specs.Reaching.{bound_at, reaching}
use Rattle.max_bounds.specs.Kept.{falls_of}
use Rattle.max_bounds.specs.AnswerLaws.{all_at, one_here, read_is}
use Rattle.max_bounds.proofs.FallingCounts.{set_after, same_here, value_here, value_more, lengths_same}
use Rattle.max_bounds.proofs.counts.lower_counts.Goals as goal

pub overflow_sub-counts : goal.overflow_sub-counts
overflow_sub-counts c =
    let k = c.loop-k.k in
    let pair = pair_at c.args.pairs.now.items k in
    let inside : k < length c.args.pairs.now.items = omega arith in
    let here_is = read_is c.args.pairs.now.items k pair inside refl in
    let count : Answer → ℕ = λ a. length (reaching (bound_at c.args.upper.now) a.rows a.value) in
    let few : length (falls_of (bound_at c.args.upper.now) c.args.falling.now.list (answer_of pair)) ≤ length
    (reaching (bound_at c.args.upper.now) pair.rows.list pair.answer) =
    all_at (λ a. length (falls_of (bound_at c.args.upper.now) c.args.falling.now.list a) ≤ length (reaching (bound_at c.args.upper.now) a.rows a.value))
    (answers_of c.args.pairs.now.items)
    (answer_of pair) c.requires.few (one_here c.args.pairs.now.items k pair inside here_is) in
    let long : length c.args.counts.now ≡ length c.args.pairs.now.items = ap length c.requires.counted ∙ lengths_same count c.args.pairs.now.items in
    let same : get_or c.loop-k.counts k 0 ≡ get_or c.args.counts.now k 0 =
    same_here c.loop-k.counts c.args.counts.now k 0 (omega (arith, c.loop-k.auto.counts)) (omega arith) c.loop-k.invariant.left in
    let here : get_or c.args.counts.now k 0 ≡ length (reaching (bound_at c.args.upper.now) pair.rows.list pair.answer) =
    ap (λ l. get_or l k 0) c.requires.counted ∙ value_here c.args.pairs.now.items k pair inside here_is count in
    omega (arith, c.falls.ensures)

pub loop-k-preserved : goal.loop-k-preserved
loop-k-preserved c =
    let k = c.loop-k.k in
    let pair = pair_at c.args.pairs.now.items k in
    let inside : k < length c.args.pairs.now.items = omega arith in
    let here_is = read_is c.args.pairs.now.items k pair inside refl in
    let count : Answer → ℕ = λ a. length (reaching (bound_at c.args.upper.now) a.rows a.value) in
    let after : Answer → ℕ = λ a. length (reaching (bound_at c.args.upper.now) a.rows a.value) - length
    (falls_of (bound_at c.args.upper.now) c.args.falling.now.list a) in
    let long : length c.args.counts.now ≡ length c.args.pairs.now.items = ap length c.requires.counted ∙ lengths_same count c.args.pairs.now.items in
    let within : k < length c.loop-k.counts = omega (arith, c.loop-k.auto.counts) in
    let same : get_or c.loop-k.counts k 0 ≡ get_or c.args.counts.now k 0 =
    same_here c.loop-k.counts c.args.counts.now k 0 within (omega arith) c.loop-k.invariant.left in
    let here : get_or c.loop-k.counts k 0 ≡ count (answer_of pair) =
    same ∙ ap (λ l. get_or l k 0) c.requires.counted ∙ value_here c.args.pairs.now.items k pair inside here_is count in
    record {
      done =
          value_more c.args.pairs.now.items k pair inside here_is after c.loop-k.counts
          (get_or c.loop-k.counts k 0 - c.falls.result) within
          c.loop-k.invariant.done (ap (λ x. x - c.falls.result) here ∙ ap (λ x. count (answer_of pair) - x) c.falls.ensures);
      left = set_after c.loop-k.counts c.args.counts.now k 0 _ within (omega arith) c.loop-k.invariant.left;
    }

pub returns : goal.returns
returns c =
    let count : Answer → ℕ = λ a. length (reaching (bound_at c.args.upper.now) a.rows a.value) in
    let long : length c.args.counts.now ≡ length c.args.pairs.now.items = ap length c.requires.counted ∙ lengths_same count c.args.pairs.now.items in
    record {
      lowered = sym (take_all c.loop-k.k c.loop-k.counts (omega (arith, c.loop-k.auto.counts))) ∙ c.loop-k.invariant.done
          ∙ ap (λ l. map (λ a. length (reaching (bound_at c.args.upper.now) a.rows a.value) - length
          (falls_of (bound_at c.args.upper.now) c.args.falling.now.list a)) (answers_of l)) (take_all c.loop-k.k c.args.pairs.now.items (omega arith));
    }

pub loop-k-init : goal.loop-k-init
loop-k-init c = record { done = refl; left = refl }

pub bounds-counts-k : goal.bounds-counts-k
bounds-counts-k c =
    let count : Answer → ℕ = λ a. length (reaching (bound_at c.args.upper.now) a.rows a.value) in
    let long : length c.args.counts.now ≡ length c.args.pairs.now.items = ap length c.requires.counted ∙ lengths_same count c.args.pairs.now.items in
    omega (arith, c.loop-k.auto.counts)

pub bounds-counts-k-in-loop-k : goal.bounds-counts-k-in-loop-k
bounds-counts-k-in-loop-k c =
    let count : Answer → ℕ = λ a. length (reaching (bound_at c.args.upper.now) a.rows a.value) in
    let long : length c.args.counts.now ≡ length c.args.pairs.now.items = ap length c.requires.counted ∙ lengths_same count c.args.pairs.now.items in
    omega (arith, c.loop-k.auto.counts)

pub falls-requires : goal.falls-requires
falls-requires c = record {
  holds = c.range_of-range.ensures;
  place = omega arith;
  same_n = c.requires.same_n;
  within = c.requires.within;
}
