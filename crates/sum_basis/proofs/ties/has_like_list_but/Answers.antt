use Rattle.std.proofs.Common.{arith, refl, sym, ◌∙◌, subst, take}
use Rattle.std.proofs.lemmas.Bool.{true≢false}
use Rattle.std.proofs.lemmas.List.{take_all}
use Rattle.sum_basis.specs.Ties.{HasLikeListBut}
use Rattle.sum_basis.proofs.TiedRows.{one_taken}
use Rattle.sum_basis.proofs.TiedRowsBut.{like_there, none_like}
use Rattle.sum_basis.proofs.ties.has_like_list_but.Goals as goal

pub loop-other-init : goal.loop-other-init
loop-other-init c = λ h. absurd h

pub loop-other-preserved-then-not-may_tell : goal.loop-other-preserved-then-not-may_tell
loop-other-preserved-then-not-may_tell c = λ h.
    none_like c.args.beside.now.list c.args.several.now.list (take c.loop-other.other-index c.args.front.now) c.args.row.now c.other-item.result
    c.loop-other.invariant
    (λ tells like. absurd (true≢false (sym (c.may_tell.ensures.1 tells) ∙ c.if-not-may_tell.true)))
    (subst (λ l. HasLikeListBut c.args.beside.now.list c.args.several.now.list l c.args.row.now)
    (one_taken c.args.front.now c.loop-other.other-index c.other-item.result c.loop-other-test.true c.other-item.is) h)

pub returns-then-are_like_lists : goal.returns-then-are_like_lists
returns-then-are_like_lists c = (
  λ yes. like_there c.args.beside.now.list c.args.several.now.list c.args.front.now c.args.row.now c.loop-other.other-index c.other-item.result
      c.loop-other-test.true c.other-item.is (c.may_tell.ensures.0 c.if-not-may_tell.false) (c.are_like_lists.ensures.0 c.if-are_like_lists.true),
  λ any. refl,
)

pub loop-other-preserved : goal.loop-other-preserved
loop-other-preserved c = λ h.
    none_like c.args.beside.now.list c.args.several.now.list (take c.loop-other.other-index c.args.front.now) c.args.row.now c.other-item.result
    c.loop-other.invariant
    (λ tells like. absurd (true≢false (sym (c.are_like_lists.ensures.1 like) ∙ c.if-are_like_lists.false)))
    (subst (λ l. HasLikeListBut c.args.beside.now.list c.args.several.now.list l c.args.row.now)
    (one_taken c.args.front.now c.loop-other.other-index c.other-item.result c.loop-other-test.true c.other-item.is) h)

pub returns : goal.returns
returns c = (
  λ yes. absurd (true≢false (sym yes)),
  λ h. absurd (c.loop-other.invariant (subst (λ l. HasLikeListBut c.args.beside.now.list c.args.several.now.list l c.args.row.now)
      (sym (take_all c.loop-other.other-index c.args.front.now (omega (arith, c.loop-other-test.false)))) h)),
)
