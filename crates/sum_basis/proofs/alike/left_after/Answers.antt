use Rattle.std.proofs.Common.{◌≡◌, ℕ, ◌≤◌, ◌^◌, arith, rules, refl, ◌∙◌, sym}
use Rattle.std.specs.Prelude.{FitsSigned, unsigned_abs, Vec}
use Rattle.std.specs.declared.alloc.Global.{Global}
use Rattle.std.specs.Int.{w128}
use Rattle.std.specs.List.{AllByRecursion}
use Rattle.std.proofs.lemmas.Int.{to_z-of_z}
use Rattle.std.proofs.lemmas.Result.{IfOk-weaker}
use Rattle.sum_basis.specs.Alike.{IsMultipleOf}
use Rattle.sum_basis.specs.Reach.{without_new}
use Rattle.sum_basis.specs.Sparse.{entry_at}
use Rattle.sum_basis.specs.declared.sparse.FreeEntry.{FreeEntry}
use Rattle.sum_basis.proofs.LeftLists.{stays_after, own_multiple, small_too}
use Rattle.sum_basis.proofs.SparseRows.{listed_to, listed_length}
use Rattle.sum_basis.proofs.alike.left_after.Goals as goal

pub times_at-times-requires : goal.times_at-times-requires
times_at-times-requires c = listed_to 0 c.args.columns 65536 c.args.entries.now (let most = c.requires.at_most in omega arith) c.requires.entries.0

pub wide_list-requires-clause-length : goal.wide_list-requires-clause-length
wide_list-requires-clause-length c =
    let all = listed_length 0 c.args.columns c.args.entries.now (omega arith) c.requires.entries.0 in omega arith

pub returns-then-is_zero-clause-small : goal.returns-then-is_zero-clause-small
returns-then-is_zero-clause-small c =
    IfOk-weaker c.wide_list.result (λ (l : Vec FreeEntry Global). l.items ≡ c.args.entries.now)
    (λ (l : Vec FreeEntry Global). AllByRecursion (λ (e : FreeEntry). unsigned_abs e.value ≤ 2 ^ 126) l.items)
    (λ l same. small_too l.items c.args.entries.now same c.requires.entries.1) c.wide_list.ensures

pub returns-then-is_zero-clause-left : goal.returns-then-is_zero-clause-left
returns-then-is_zero-clause-left c =
    let fits : FitsSigned w128 c.times_at-times.result = search rules in
    IfOk-weaker c.wide_list.result (λ (l : Vec FreeEntry Global). l.items ≡ c.args.entries.now)
    (λ (l : Vec FreeEntry Global). IsMultipleOf (without_new c.args.new.now (entry_at c.args.entries.now)) (entry_at l.items))
    (λ l same. stays_after c.args.columns c.args.new.now c.args.entries.now l.items c.requires.new
    (sym c.times_at-times.ensures ∙ sym (to_z-of_z w128 c.times_at-times.result fits) ∙ c.if-is_zero.ensures.0 refl) same) c.wide_list.ensures

pub returns-else-is_zero-clause-left : goal.returns-else-is_zero-clause-left
returns-else-is_zero-clause-left c =
    IfOk-weaker c.cleared_after.result
    (λ (l : Vec FreeEntry Global). (j : ℕ) → entry_at l.items j ≡ without_new c.args.new.now (entry_at c.args.entries.now) j)
    (λ (l : Vec FreeEntry Global). IsMultipleOf (without_new c.args.new.now (entry_at c.args.entries.now)) (entry_at l.items))
    (λ l is. own_multiple (without_new c.args.new.now (entry_at c.args.entries.now)) (entry_at l.items) is) c.cleared_after.ensures.is
