-- A history that is judged again record by record.
use Rattle.std.proofs.Common.{◌≡◌, inl, inr, ℕ, ◌+◌, ◌<◌, List, take, Some, sym, subst, ◌∙◌, ap, arith}
use Rattle.std.specs.Prelude.{slice_get}
use Rattle.std.proofs.lemmas.Bool.{cases_lt}
use Rattle.std.proofs.lemmas.Option.{same_Some}
use Rattle.audit_types.specs.declared.records.Answered.{Answered}
use Rattle.audit_types.specs.History.{Setting}
use Rattle.audit_core.specs.declared.replaying.ReplayFault.{ReplayFault}
use Rattle.audit_core.specs.declared.replaying.ReplayFault.TheVariants as fault
use Rattle.audit_core.specs.Released.{IsReleasedRecord, IsFirstUnreleased, ReplayCause, TellsUnreleased}

module _ (setting : Setting) (list : List Answered) (place : ℕ) (r : Answered) (here : slice_get list place ≡ Some r) where
  -- what is told of the first record that wasn't to be released is the cause
  pub cause_of_unreleased : ((i : ℕ) (s : Answered) → i < place → slice_get list i ≡ Some s → IsReleasedRecord setting (take i list) s) →
      (why : ReplayFault) → TellsUnreleased (record { setting = setting; history = take place list }) place r why → ReplayCause why setting list
  cause_of_unreleased before (fault.Unreleased at group) tells =
      subst (λ k. IsFirstUnreleased setting list k group) (sym tells.0) (record {
        at = r;
        stands = here;
        denied = tells.1;
        blamed = tells.2;
        before = λ i s lt there. (before i s lt there).released;
      })
  cause_of_unreleased before fault.NoMemory tells = tt

  -- the next record was to be released, as those before it were
  pub next_was_released : IsReleasedRecord setting (take place list) r →
      ((i : ℕ) (s : Answered) → i < place → slice_get list i ≡ Some s → IsReleasedRecord setting (take i list) s) →
      (i : ℕ) (s : Answered) → i < place + 1 → slice_get list i ≡ Some s → IsReleasedRecord setting (take i list) s
  next_was_released is before i s lt there = elim (cases_lt i place) [
    | inl lower ↦ before i s lower there
    | inr from ↦
        let same : place ≡ i = omega (arith, lt, from) in
        subst (λ k. IsReleasedRecord setting (take k list) s) same
        (subst (IsReleasedRecord setting (take place list)) (same_Some r s (sym here ∙ ap (slice_get list) same ∙ there)) is)
  ]
