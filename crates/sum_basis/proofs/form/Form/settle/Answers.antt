use Rattle.std.proofs.Common.{◌≡◌, ◌≤◌, ◌^◌, ℤ, List, length, subst, arith}
use Rattle.std.specs.Prelude.{unsigned_abs}
use Rattle.std.proofs.lemmas.Result.{IfOk-weaker}
use Rattle.audit_types.specs.ListLaws.{all-unmap}
use Rattle.sum_basis.specs.declared.form.Left.{Left}
use Rattle.sum_basis.specs.declared.form.Left.TheVariants.{Large}
use Rattle.sum_basis.specs.declared.sparse.FreeEntry.{FreeEntry}
use Rattle.sum_basis.specs.Growth.{IsLeft, LeavesEntries, LeavesLarge}
use Rattle.sum_basis.specs.Sparse.{IsListed}
use Rattle.sum_basis.proofs.ClearedLists.{values_from}
use Rattle.sum_basis.proofs.form.Form.settle.Goals as goal

pub settle_list-requires-clause-left : goal.settle_list-requires-clause-left
settle_list-requires-clause-left c = (
  c.args.row.now,
  record {
    row = c.remainder.new.row;
    long = c.remainder.ensures.length;
    remainder = c.remainder.ensures.remainder;
    is = c.in_ok-entries.ensures.is;
  },
)

pub settle_list-requires-clause-listed : goal.settle_list-requires-clause-listed
settle_list-requires-clause-listed c = subst (λ k. IsListed 0 k c.in_ok-entries.entries.items) c.remainder.ensures.length c.in_ok-entries.ensures.listed

pub settle_list-requires-clause-size : goal.settle_list-requires-clause-size
settle_list-requires-clause-size c =
    all-unmap (λ (e : FreeEntry). e.value) (λ x. unsigned_abs x ≤ 2 ^ 126) c.in_ok-entries.entries.items
    (values_from (λ x. unsigned_abs x ≤ 2 ^ 126) 0 (length c.remainder.new.row) c.in_ok-entries.entries.items c.in_ok-entries.ensures.listed
    (λ j. rw (c.in_ok-entries.ensures.is j) (let small = c.remainder.ensures.small j in omega arith)) (omega arith))

pub returns-clause-left : goal.returns-clause-left
returns-clause-left c =
    IfOk-weaker c.settle_list.result
    (λ (left : Left). (v : List ℤ) → LeavesEntries c.args.self.now v c.in_ok-entries.entries.items → IsLeft c.args.self.now v left)
    (IsLeft c.args.self.now c.args.row.now)
    (λ left is. is c.args.row.now (record {
      row = c.remainder.new.row;
      long = c.remainder.ensures.length;
      remainder = c.remainder.ensures.remainder;
      is = c.in_ok-entries.ensures.is;
    })) c.settle_list.ensures.left

pub returns-clause-large : goal.returns-clause-large
returns-clause-large c =
    IfOk-weaker c.settle_list.result (λ (left : Left). (v : List ℤ) → LeavesEntries c.args.self.now v c.in_ok-entries.entries.items → left ≡ Large →
    LeavesLarge c.args.self.now v c.args.limit)
    (λ (left : Left). left ≡ Large → LeavesLarge c.args.self.now c.args.row.now c.args.limit)
    (λ left is. is c.args.row.now (record {
      row = c.remainder.new.row;
      long = c.remainder.ensures.length;
      remainder = c.remainder.ensures.remainder;
      is = c.in_ok-entries.ensures.is;
    })) c.settle_list.ensures.large
