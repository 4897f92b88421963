use Rattle.std.proofs.Common.{◌≡◌, ℕ, List, length, get_or, Some, sym, ap, ◌∙◌, subst, arith}
use Rattle.std.proofs.lemmas.Bool.{true≢false}
use Rattle.audit_types.specs.Form.{pivot}
use Rattle.audit_types.specs.Rows.{has_row, IsLeast}
use Rattle.sum_basis.specs.RowsWith.{IsPinned}
use Rattle.sum_basis.specs.Sparse.{row_of, IsNew}
use Rattle.sum_basis.specs.declared.sparse.FreeEntry.{FreeEntry}
use Rattle.sum_basis.proofs.ClearedLists.{is_led}
use Rattle.sum_basis.proofs.KeptRows.{lone_new}
use Rattle.sum_basis.proofs.ListContents.{none}
use Rattle.sum_basis.proofs.PinnedRows.{new_if_alone, new_pinned, without_new, with_new_later, with_new_first, with_new_alone}
use Rattle.sum_basis.proofs.pinned.least_pinned.Goals as goal
use Rattle.sum_basis.proofs.pinned.least_pinned.Goals.{then-new-gt1-via-then-new-gt1, then-new-gt1-via-else-new-gt1+then-has}

-- the pivot of the new row
new_place : (n : ℕ) (new : List FreeEntry) → IsNew n new → pivot (row_of n new) ≡ (get_or new 0 none).place
new_place n new is = (is_led n new is).at_pivot

pub returns-then-new-gt1 : goal.returns-then-new-gt1
returns-then-new-gt1 c = λ grown reduced small.
    let n = c.args.form.now.n in
    let list = c.args.new.now in
    let form = c.args.form.now.rows in
    let new = row_of n list in
    let shared = c.args.shared.now.list in
    let place = new_place n list c.requires.new.0 in
    without_new n form new shared c.rank.ensures.form c.requires.new.0.primitive c.requires.new.1 grown reduced small c.first_pinned-found.result
    (λ pinned. elim c.then-new-gt1.branch [
      | then-new-gt1-via-then-new-gt1 w ↦
          let lone = (new_if_alone n form new shared c.rank.ensures.form c.requires.new.0.primitive c.requires.new.1 grown reduced small).0
          pinned.spanned in
          let one = (lone_new n list c.requires.new.0).1 lone in
          let more = w.if-new-gt1.true in
          absurd (omega arith)
      | then-new-gt1-via-else-new-gt1+then-has w ↦
          true≢false (sym w.if-has.true ∙ w.has.ensures ∙ ap (has_row shared) (sym place) ∙ pinned.own)
    ]) (c.first_pinned-found.ensures grown reduced small)

pub returns-in-Some : goal.returns-in-Some
returns-in-Some c = λ grown reduced small.
    let n = c.args.form.now.n in
    let list = c.args.new.now in
    let place = new_place n list c.requires.new.0 in
    with_new_later n c.args.form.now.rows (row_of n list) c.args.shared.now.list c.rank.ensures.form c.requires.new.0.primitive c.requires.new.1 grown
    reduced small c.in-Some.row (let less = c.if-row-place.true in omega arith) (rw c.in-Some.is at c.first_pinned-found.ensures grown reduced small)

pub returns-in_default : goal.returns-in_default
returns-in_default c = λ grown reduced small.
    let n = c.args.form.now.n in
    let list = c.args.new.now in
    let form = c.args.form.now.rows in
    let new = row_of n list in
    let shared = c.args.shared.now.list in
    let place = new_place n list c.requires.new.0 in
    let one : length list ≡ 1 = let some = c.requires.new.0.some in let few = c.if-new-gt1.false in omega arith in
    let is = new_pinned n form new shared c.rank.ensures.form c.requires.new.0.primitive c.requires.new.1 grown reduced small
    ((lone_new n list c.requires.new.0).0 one) (ap (has_row shared) place ∙ sym c.has.ensures ∙ c.if-has.false) in
    subst (λ i. IsLeast (IsPinned n grown shared) (Some i)) place
    (with_new_first n form new shared c.rank.ensures.form c.requires.new.0.primitive c.requires.new.1 grown reduced small c.in-Some.row
    (let past = c.if-row-place.false in omega arith) is (rw c.in-Some.is at c.first_pinned-found.ensures grown reduced small))

pub returns-in_default-2 : goal.returns-in_default-2
returns-in_default-2 c = λ grown reduced small.
    let n = c.args.form.now.n in
    let list = c.args.new.now in
    let form = c.args.form.now.rows in
    let new = row_of n list in
    let shared = c.args.shared.now.list in
    let place = new_place n list c.requires.new.0 in
    let one : length list ≡ 1 = let some = c.requires.new.0.some in let few = c.if-new-gt1.false in omega arith in
    let is = new_pinned n form new shared c.rank.ensures.form c.requires.new.0.primitive c.requires.new.1 grown reduced small
    ((lone_new n list c.requires.new.0).0 one) (ap (has_row shared) place ∙ sym c.has.ensures ∙ c.if-has.false) in
    subst (λ i. IsLeast (IsPinned n grown shared) (Some i)) place
    (with_new_alone n form new shared c.rank.ensures.form c.requires.new.0.primitive c.requires.new.1 grown reduced small is
    (rw c.in_default.is at c.first_pinned-found.ensures grown reduced small))

pub bounds-new-0 : goal.bounds-new-0
bounds-new-0 c = c.requires.new.0.some
