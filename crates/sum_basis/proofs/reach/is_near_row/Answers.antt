use Rattle.std.proofs.Common.{◌≡◌, ℕ, pos, sym, ap, ◌∙◌, arith, rules}
use Rattle.std.specs.Prelude.{FitsSigned}
use Rattle.std.specs.Int.{w128}
use Rattle.int_rows.specs.PrimitiveLaws.{zero_from_bits}
use Rattle.sum_basis.specs.Reach.{times_of, without_new}
use Rattle.sum_basis.specs.Sparse.{entry_at}
use Rattle.sum_basis.proofs.SparseRows.{listed_to}
use Rattle.sum_basis.proofs.Tallies.{near_alike, as_it_was, as_it_is}
use Rattle.sum_basis.proofs.reach.is_near_row.Goals as goal

pub times_at-times-requires : goal.times_at-times-requires
times_at-times-requires c = listed_to 0 c.args.columns 65536 c.args.free.now (omega arith) c.requires.free.0

pub returns-then-times-eq0-clause-near : goal.returns-then-times-eq0-clause-near
returns-then-times-eq0-clause-near c =
    let new = c.args.new.now in
    let f = entry_at c.args.free.now in
    let fits : FitsSigned w128 c.times_at-times.result = search rules in
    let none : times_of new f ≡ pos 0 = sym c.times_at-times.ensures ∙ zero_from_bits c.times_at-times.result fits c.if-times-eq0.true in (
      λ yes. near_alike c.args.counts.now c.args.reach f (without_new new f) (λ j. as_it_was c.args.columns new f c.requires.new.0 none j)
          (λ j. as_it_is c.args.columns new f c.requires.new.0 none j) (c.is_near.ensures.0 yes),
      λ near. c.is_near.ensures.1
          (near_alike c.args.counts.now c.args.reach (without_new new f) f (λ j. as_it_is c.args.columns new f c.requires.new.0 none j)
          (λ j. as_it_was c.args.columns new f c.requires.new.0 none j) near),
    )

pub returns-clause-near : goal.returns-clause-near
returns-clause-near c =
    let new = c.args.new.now in
    let f = entry_at c.args.free.now in
    let entries = c.deref.result.now in
    let same : (j : ℕ) → entry_at entries j ≡ without_new new f j = λ j. ap (λ l. entry_at l j) c.deref.ensures.value ∙ c.clear_entries.ensures.cleared j in (
      λ yes. near_alike c.args.counts.now c.args.reach (entry_at entries) (without_new new f) (λ j e. sym (same j) ∙ e) (λ j e. same j ∙ e)
          (c.is_combined_near.ensures.0 yes),
      λ near. c.is_combined_near.ensures.1
          (near_alike c.args.counts.now c.args.reach (without_new new f) (entry_at entries) (λ j e. same j ∙ e) (λ j e. sym (same j) ∙ e) near),
    )
