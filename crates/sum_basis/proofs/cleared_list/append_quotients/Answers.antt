use Rattle.std.proofs.Common.{◌≤◌, ◌*◌, ◌^◌, ◌∷◌, [], pos, map, length, get_or, take, refl, sym, subst, ap, ◌∙◌, ◌++◌, arith, take_all, append_assoc}
use Rattle.std.specs.Prelude.{unsigned_abs}
use Rattle.std.specs.Int.{◌∣◌}
use Rattle.std.proofs.lemmas.List.{append-nil, map-append, take_more, length-append, length-map, length-take-le}
use Rattle.audit_types.specs.ListLaws.{all-get_or}
use Rattle.sum_basis.specs.declared.sparse.FreeEntry.{FreeEntry}
use Rattle.sum_basis.specs.Sparse.{scaled}
use Rattle.sum_basis.proofs.ListContents.{none, entry_is}
use Rattle.sum_basis.proofs.cleared_list.append_quotients.Goals as goal

pub loop-e-init : goal.loop-e-init
loop-e-init c = record { items = sym (append-nil (map (scaled (pos c.args.by.now)) c.args.out.now.items)); capacity = refl }

pub push_reserved-requires : goal.push_reserved-requires
push_reserved-requires c =
    let g = pos c.args.by.now in
    let k = c.loop-e.e-index in
    let items = sym (length-map c.loop-e.out.items (scaled g)) ∙ ap length c.loop-e.invariant.items
    ∙ length-append (map (scaled g) c.args.out.now.items) (take k c.args.entries.now) in
    let old = length-map c.args.out.now.items (scaled g) in
    let front = length-take-le k c.args.entries.now (let more = c.loop-e-test.true in omega arith) in
    let len = c.loop-e.out.ok.0 in
    let before = c.args.out.now.ok.0 in
    let capacity = c.loop-e.invariant.capacity in
    let room = c.requires.room in
    let more = c.loop-e-test.true in
    omega arith

pub quotient_entry-requires-clause-divides : goal.quotient_entry-requires-clause-divides
quotient_entry-requires-clause-divides c =
    subst (λ (e : FreeEntry). c.args.by.now ∣ unsigned_abs e.value)
    (entry_is c.args.entries.now c.loop-e.e-index c.e-item.result c.loop-e-test.true c.e-item.is)
    (all-get_or (λ (e : FreeEntry). c.args.by.now ∣ unsigned_abs e.value) c.args.entries.now c.loop-e.e-index none c.requires.divides c.loop-e-test.true)

pub quotient_entry-requires-clause-size : goal.quotient_entry-requires-clause-size
quotient_entry-requires-clause-size c =
    subst (λ (e : FreeEntry). unsigned_abs e.value ≤ 2 ^ 126) (entry_is c.args.entries.now c.loop-e.e-index c.e-item.result c.loop-e-test.true c.e-item.is)
    (all-get_or (λ (e : FreeEntry). unsigned_abs e.value ≤ 2 ^ 126) c.args.entries.now c.loop-e.e-index none c.requires.size c.loop-e-test.true)

pub quotient_entry-requires-clause-small : goal.quotient_entry-requires-clause-small
quotient_entry-requires-clause-small c =
    subst (λ (e : FreeEntry). unsigned_abs e.value ≤ c.args.by.now * 2 ^ 56)
    (entry_is c.args.entries.now c.loop-e.e-index c.e-item.result c.loop-e-test.true c.e-item.is)
    (all-get_or (λ (e : FreeEntry). unsigned_abs e.value ≤ c.args.by.now * 2 ^ 56) c.args.entries.now c.loop-e.e-index none c.requires.small c.loop-e-test.true)

pub loop-e-preserved : goal.loop-e-preserved
loop-e-preserved c =
    let g = pos c.args.by.now in
    let k = c.loop-e.e-index in
    let old = map (scaled g) c.args.out.now.items in
    record {
      items = ap (map (scaled g)) c.push_reserved.ensures.items
          ∙ map-append (scaled g) c.loop-e.out.items (c.quotient_entry.result ∷ [])
          ∙ ap (λ (e : FreeEntry). map (scaled g) c.loop-e.out.items ++ e ∷ []) (c.quotient_entry.ensures ∙ (sym
          (entry_is c.args.entries.now c.loop-e.e-index c.e-item.result c.loop-e-test.true c.e-item.is)))
          ∙ ap (λ o. o ++ get_or c.args.entries.now k none ∷ []) c.loop-e.invariant.items
          ∙ append_assoc old (take k c.args.entries.now) (get_or c.args.entries.now k none ∷ [])
          ∙ ap (λ l. old ++ l) (sym (take_more c.args.entries.now k none c.loop-e-test.true));
      capacity = c.push_reserved.ensures.capacity ∙ c.loop-e.invariant.capacity;
    }

pub returns-clause-items : goal.returns-clause-items
returns-clause-items c =
    c.loop-e.invariant.items
    ∙ ap (λ l. map (scaled (pos c.args.by.now)) c.args.out.now.items ++ l) (take_all c.loop-e.e-index c.args.entries.now c.loop-e-test.false)

pub returns-clause-capacity : goal.returns-clause-capacity
returns-clause-capacity c = c.loop-e.invariant.capacity
