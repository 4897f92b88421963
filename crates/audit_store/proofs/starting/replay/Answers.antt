use Rattle.std.proofs.Common.{rules, ◌≡◌, Bool, [], ◌∷◌, ◌++◌, take, refl, sym, ap, subst, ◌∙◌, get_or, Result, Ok}
use Rattle.std.proofs.lemmas.List.{take_more}
use Rattle.std.proofs.lemmas.Option.{slice_get_read}
use Rattle.audit_types.specs.declared.NoMemory.{NoMemory}
use Rattle.audit_types.specs.declared.records.Answered.{Answered}
use Rattle.audit_types.specs.History.{FitsShape}
use Rattle.audit_core.specs.Audited.{Audited}
use Rattle.audit_store.specs.Starting.{IsTrue, IsReleasedAfter, TellsIllegal}
use Rattle.table_load.specs.Database.{secret_table}
use Rattle.audit_store.proofs.LegalHistories.{cause_of_illegal, legal_is_possible, legal_more, released_before}
use Rattle.audit_store.proofs.starting.replay.Goals as goal

pub is_released-requires-clause-possible : goal.is_released-requires-clause-possible
is_released-requires-clause-possible c =
    let i = c.loop-place.invariant in
    let possible = legal_is_possible c.args.secret.now c.args.protected (take c.loop-place.place c.args.list.now) c.true_answers.ensures.legal
    c.shape.ensures.is i.legal in
    rw (i.same_setting, i.so_far) possible

abbrev said : Bool → Result Bool NoMemory
said b = Ok b

pub illegal-requires-clause-possible : goal.illegal-requires-clause-possible
illegal-requires-clause-possible c =
    let i = c.loop-place.invariant in
    let possible = legal_is_possible c.args.secret.now c.args.protected (take c.loop-place.place c.args.list.now) c.true_answers.ensures.legal
    c.shape.ensures.is i.legal in
    rw (c.is_released.ensures.same, i.same_setting, i.so_far) possible

pub illegal-requires-clause-denied : goal.illegal-requires-clause-denied
illegal-requires-clause-denied c = rw c.is_released.ensures.same (c.in_ok-released.ensures.judged (ap said c.if-not-released.true))

-- what is told of the record at this place is the cause of the history
pub returns-then-not-released-clause-err : goal.returns-then-not-released-clause-err
returns-then-not-released-clause-err c =
    let i = c.loop-place.invariant in
    let list = c.args.list.now in
    let r = c.index-list-place.result in
    let table = secret_table c.args.secret.now c.args.protected in
    let denied : IsReleasedAfter table (take c.loop-place.place list) r →
    ⊥ = rw (i.same_setting, i.so_far) at (c.in_ok-released.ensures.no (ap said c.if-not-released.true)) in
    let core : c.is_released.new.core ≡ record { setting = table.setting; history = take c.loop-place.place list } = search rules in
    cause_of_illegal table list c.loop-place.place r c.requires.are_true
    (slice_get_read list _ c.loop-place.place r refl c.loop-place-test.true c.index-list-place.is) denied
    (released_before table list c.loop-place.place i.legal)
    c.in_ok-refusal.refusal (subst (λ core. TellsIllegal core c.loop-place.place r c.in_ok-refusal.refusal) core c.in_ok-refusal.ensures)

pub loop-place-preserved : goal.loop-place-preserved
loop-place-preserved c =
    let i = c.loop-place.invariant in
    let list = c.args.list.now in
    let place = c.loop-place.place in
    let r = c.index-list-place.result in
    let table = secret_table c.args.secret.now c.args.protected in
    let released : IsReleasedAfter table (take place list) r =
    rw (i.same_setting, i.so_far) at (c.in_ok-released.ensures.yes (ap said c.if-not-released.false)) in
    let inside = c.loop-place-test.true in
    let here : get_or list place r ≡ r = sym c.index-list-place.is in
    let is_true : IsTrue table r = c.requires.are_true place r (slice_get_read list _ place r refl inside c.index-list-place.is) in
    let fits : FitsShape c.args.secret.now.shape r.column r.rows =
    subst (λ (x : Answered). FitsShape c.args.secret.now.shape x.column x.rows) here (c.requires.fit place r inside) in
    record {
      same_setting = ap (λ (a : Audited). a.setting) c.in_ok-take.ensures.ok ∙ ap (λ (a : Audited). a.setting) c.is_released.ensures.same ∙ i.same_setting;
      so_far =
          ap (λ (a : Audited). a.history) c.in_ok-take.ensures.ok ∙ ap (λ (a : Audited). a.history ++ r ∷ []) c.is_released.ensures.same
          ∙ ap (λ h. h ++ r ∷ []) i.so_far ∙ sym (take_more list place r inside ∙ ap (λ x. take place list ++ x ∷ []) here);
      legal = legal_more table list place i.legal r c.released_records.ensures inside c.requires.few here fits is_true released;
    }
