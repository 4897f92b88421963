-- What sets tell, their reduced form does, and back.
use Rattle.std.proofs.Common.{ℕ, ℤ, Option, None, Some, List, [], ◌∷◌, ◌++◌, map}
use Rattle.std.specs.List.{AllByRecursion}
use Rattle.audit_types.specs.History.{Protection}
use Rattle.audit_types.specs.Form.{set_row, InSpan, Reduced}
use Rattle.audit_types.specs.ListLaws.{all-front, all-push, all-weaker}
use Rattle.sum_basis.specs.Spans.{span_trans}
use Rattle.denial_proof.specs.declared.proof_parts.Target.{Target}
use Rattle.denial_proof.specs.Weights.{with_own}
use Rattle.denial_proof.specs.Canonical.{Tells, IsFirstTarget}
use Rattle.denial_proof.proofs.AskedIsNew.{span_self}

-- what rows span, they span with one more
pub span_longer : (rows : List (List ℤ)) (row other : List ℤ) → InSpan rows other → InSpan (rows ++ row ∷ []) other
span_longer rows row other span = span_trans (rows ++ row ∷ []) rows other
    (all-front (InSpan (rows ++ row ∷ [])) rows row (span_self (rows ++ row ∷ []))).0 span

module _ (n : ℕ) (rows others : List (List ℤ)) (there : AllByRecursion (InSpan others) rows) where
  -- what rows span with an asker's own row, others do in whose span they lie
  pub span_moved : (own : Option ℕ) (row : List ℤ) → InSpan (with_own n rows own) row → InSpan (with_own n others own) row
  span_moved None row span = span_trans others rows row there span
  span_moved (Some q) row span =
      let mine = set_row n (q ∷ []) in
      let all = others ++ mine ∷ [] in
      span_trans all (rows ++ mine ∷ []) row
      (all-push (InSpan all) rows mine (all-weaker (InSpan others) (InSpan all) (λ r s. span_longer others mine r s) rows there)
      (all-front (InSpan all) others mine (span_self all)).1) span

  pub tells_moved : (protected : Protection) (column : ℕ) (own : Option ℕ) (target : Target) → Tells n protected column rows own target →
      Tells n protected column others own target
  tells_moved protected column own target tells = record {
    askers = tells.askers;
    is_target = tells.is_target;
    spanned = span_moved own _ tells.spanned;
  }

-- so the first target of the form is that of the sets
pub first_of_sets : (n : ℕ) (protected : Protection) (column : ℕ) (sets : List (List ℕ)) (form : List (List ℤ)) → Reduced n sets form →
    (target : Target) (own : Option ℕ) → IsFirstTarget n protected column form target own →
    IsFirstTarget n protected column (map (set_row n) sets) target own
first_of_sets n protected column sets form reduced target own is = record {
  told = tells_moved n form (map (set_row n) sets) reduced.within protected column own target is.told;
  first = λ goal other tells. is.first goal other (tells_moved n (map (set_row n) sets) form reduced.spans protected column other goal tells);
}
