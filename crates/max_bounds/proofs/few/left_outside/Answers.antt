use Rattle.std.proofs.Common.{◌≡◌, ℕ, ◌<◌, List, [], length, sym, ◌∙◌, subst}
use Rattle.std.proofs.lemmas.Bool.{true≢false}
use Rattle.std.specs.List.{AllByRecursion}
use Rattle.audit_types.specs.Headcount.{AreFew}
use Rattle.audit_types.specs.ListLaws.{all-get_or}
use Rattle.audit_types.specs.Rows.{Rows, AreRows, complement, intersection}
use Rattle.max_bounds.specs.Maxima.{ListOfMaxima, no_pair, pair_at}
use Rattle.max_bounds.specs.Outside.{outside}
use Rattle.max_bounds.specs.declared.answered.AnsweredMax.{AnsweredMax}
use Rattle.max_bounds.proofs.LoweredSets.{left_is}
use Rattle.max_bounds.proofs.few.left_outside.Goals as goal

-- what is put there are the rows outside
module _ (least : ListOfMaxima) (k : ℕ) (others left : Rows) (same : least.n ≡ others.n) (place : k < length least.items)
    (are : AllByRecursion (λ (p : AnsweredMax). AreRows least.n p.rows.list) least.items)
    (both : left.list ≡ intersection least.n (pair_at least.items k).rows.list others.list) (rows : List ℕ)
    (flipped : others.list ≡ complement others.n rows) where
  left_outside : left.list ≡ outside rows (pair_at least.items k).rows.list
  left_outside = left_is least.n others.n rows (pair_at least.items k).rows.list others.list left.list same
      (all-get_or (λ (p : AnsweredMax). AreRows least.n p.rows.list) least.items k no_pair are place) flipped both

pub returns-then-is_empty-clause-left : goal.returns-then-is_empty-clause-left
returns-then-is_empty-clause-left c = λ rows flipped.
    let left = left_outside c.args.least.now c.args.k c.args.others.now c.put_shared.new.shared c.requires.same_n c.requires.place
    c.n.ensures.are_rows c.put_shared.ensures.both rows flipped in
    sym left ∙ c.is_empty.ensures.0 c.if-is_empty.true

pub returns-then-are_fewer-clause-left : goal.returns-then-are_fewer-clause-left
returns-then-are_fewer-clause-left c = λ rows flipped.
    let left = left_outside c.args.least.now c.args.k c.args.others.now c.put_shared.new.shared c.requires.same_n c.requires.place
    c.n.ensures.are_rows c.put_shared.ensures.both rows flipped in (
      λ none. true≢false (sym (c.is_empty.ensures.1 (left ∙ none)) ∙ c.if-is_empty.false),
      subst (AreFew c.args.people.now.people []) left (c.are_fewer.ensures.0 c.if-are_fewer.true),
    )

pub returns-else-are_fewer-clause-left : goal.returns-else-are_fewer-clause-left
returns-else-are_fewer-clause-left c = λ rows flipped.
    let left = left_outside c.args.least.now c.args.k c.args.others.now c.put_shared.new.shared c.requires.same_n c.requires.place
    c.n.ensures.are_rows c.put_shared.ensures.both rows flipped in (
      λ none. true≢false (sym (c.is_empty.ensures.1 (left ∙ none)) ∙ c.if-is_empty.false),
      λ few. true≢false (sym (c.are_fewer.ensures.1 (subst (AreFew c.args.people.now.people []) (sym left) few)) ∙ c.if-are_fewer.false),
    )
