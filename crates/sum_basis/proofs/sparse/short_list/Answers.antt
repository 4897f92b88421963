use Rattle.std.proofs.Common.{◌≤◌, ◌^◌, ◌++◌, ◌∷◌, [], length, get_or, sym, subst, ap, ◌∙◌, arith, take_all}
use Rattle.std.specs.Prelude.{unsigned_abs}
use Rattle.std.proofs.lemmas.List.{take_more, length-take-le}
use Rattle.audit_types.specs.ListLaws.{all-get_or}
use Rattle.sum_basis.specs.declared.sparse.FreeEntry.{FreeEntry}
use Rattle.sum_basis.proofs.ListContents.{none, entry_is}
use Rattle.sum_basis.proofs.sparse.short_list.Goals as goal

pub loop-entry-init : goal.loop-entry-init
loop-entry-init c = record { items = c.in_ok-list.ensures.items; room = omega (arith, c.in_ok-list.ensures.exact) }

pub push_reserved-requires : goal.push_reserved-requires
push_reserved-requires c =
    let k = c.loop-entry.entry-index in
    let more = c.loop-entry-test.true in
    let items = ap length c.loop-entry.invariant.items ∙ length-take-le k c.args.entries.now (omega arith) in
    let len = c.loop-entry.list.ok.0 in
    let room = c.loop-entry.invariant.room in
    let few = c.requires.length in
    omega arith

pub short-requires : goal.short-requires
short-requires c =
    subst (λ (e : FreeEntry). unsigned_abs e.value ≤ 2 ^ 56)
    (entry_is c.args.entries.now c.loop-entry.entry-index c.entry-item.result c.loop-entry-test.true c.entry-item.is)
    (all-get_or (λ (e : FreeEntry). unsigned_abs e.value ≤ 2 ^ 56) c.args.entries.now c.loop-entry.entry-index none c.requires.small c.loop-entry-test.true)

pub loop-entry-preserved : goal.loop-entry-preserved
loop-entry-preserved c =
    let k = c.loop-entry.entry-index in
    record {
      items = c.push_reserved.ensures.items
          ∙ ap (λ (e : FreeEntry). c.loop-entry.list.items ++ e ∷ []) (c.short.ensures ∙ sym
          (entry_is c.args.entries.now c.loop-entry.entry-index c.entry-item.result c.loop-entry-test.true c.entry-item.is))
          ∙ ap (λ l. l ++ get_or c.args.entries.now k none ∷ []) c.loop-entry.invariant.items
          ∙ sym (take_more c.args.entries.now k none c.loop-entry-test.true);
      room = let same = c.push_reserved.ensures.capacity in let room = c.loop-entry.invariant.room in omega arith;
    }

pub returns-clause-same : goal.returns-clause-same
returns-clause-same c = c.loop-entry.invariant.items ∙ take_all c.loop-entry.entry-index c.args.entries.now c.loop-entry-test.false

pub returns-clause-room : goal.returns-clause-room
returns-clause-room c = c.loop-entry.invariant.room
