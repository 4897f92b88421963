-- A count of the rows that reach their bound, and the least row that alone reaches one.
use Rattle.std.proofs.Common.{◌≡◌, ◌≢◌, ℕ, ◌+◌, ◌<◌, ◌≤◌, ℤ, true, false, cond, List, [], ◌∷◌, ◌++◌, length, refl, sym, ap, ◌∙◌, arith, inl, inr, ◌⊎◌, Option, Some, None, append_assoc, append-nil, length-append, subst, min}
use Rattle.std.proofs.lemmas.Bool.{cases_lt}
use Rattle.std.specs.List.{AllByRecursion}
use Rattle.audit_types.specs.Limits.{most_rows}
use Rattle.audit_types.specs.Rows.{AreRows, IsLeast}
use Rattle.audit_types.specs.Extremes.{is_bound}
use Rattle.audit_types.specs.Column.{Answer}
use Rattle.max_bounds.specs.Reaching.{reaching, lone_of, lesser_of, IsAlone}
use Rattle.max_bounds.specs.AnswerLaws.{one_of_front, one_of_last, front_or_last}
use Rattle.audit_types.specs.FilteredRows.{rows_within}
use Rattle.audit_types.specs.RowLaws.{length-rows}

-- a walk that counts the rows of a set that reach their bound: those seen, and those among the rest, are all
pub record IsCounting (bound : ℕ → Option ℤ) (rows : List ℕ) (answer : ℤ) (rest : List ℕ) (count : ℕ) (only : Option ℕ) : Type 0 where
  pub seen : List ℕ
  pub together : seen ++ reaching bound rest answer ≡ reaching bound rows answer
  pub counted : count ≡ length seen
  pub alone : only ≡ lone_of seen
  pub within : AllByRecursion (λ q. q < most_rows) rest
  pub few : count + length rest ≤ most_rows

-- at first none was seen
pub counting_begins : (bound : ℕ → Option ℤ) (n : ℕ) (rows : List ℕ) (answer : ℤ) → AreRows n rows → n ≤ most_rows →
    IsCounting bound rows answer rows 0 (lone_of [])
counting_begins bound n rows answer are most = record {
  seen = [];
  together = refl;
  counted = refl;
  alone = refl;
  within = rows_within 0 n most_rows rows most are;
  few = omega (arith, length-rows n rows are);
}

-- the lone row with one row more
lone_of-push : (seen : List ℕ) (q : ℕ) (only : Option ℕ) → ((length seen ≡ 0) × (only ≡ Some q)) ⊎ ((length seen ≢ 0) × (only ≡ None)) →
    only ≡ lone_of (seen ++ q ∷ [])
lone_of-push [] q only (inl (e, f)) = f
lone_of-push [] q only (inr (e, f)) = absurd (e refl)
lone_of-push (r ∷ []) q only (inl (e, f)) = absurd (omega arith)
lone_of-push (r ∷ []) q only (inr (e, f)) = f
lone_of-push (r ∷ s ∷ seen) q only (inl (e, f)) = absurd (omega arith)
lone_of-push (r ∷ s ∷ seen) q only (inr (e, f)) = f

-- a row that reaches its bound
pub counting_found : (bound : ℕ → Option ℤ) (rows : List ℕ) (answer : ℤ) (q : ℕ) (rest : List ℕ) (count : ℕ) (only next : Option ℕ) →
    IsCounting bound rows answer (q ∷ rest) count only → is_bound (bound q) answer ≡ true →
    ((count ≡ 0) × (next ≡ Some q)) ⊎ ((count ≢ 0) × (next ≡ None)) → IsCounting bound rows answer rest (count + 1) next
counting_found bound rows answer q rest count only next h reaches first = record {
  seen = h.seen ++ q ∷ [];
  together =
      append_assoc h.seen (q ∷ []) (reaching bound rest answer)
      ∙ ap (λ b. h.seen ++ cond b (q ∷ reaching bound rest answer) (reaching bound rest answer)) (sym reaches) ∙ h.together;
  counted = let longer = length-append h.seen (q ∷ []) in omega (arith, h.counted);
  alone = lone_of-push h.seen q next (elim first [ inl (e, f) ↦ inl (sym h.counted ∙ e, f) | inr (e, f) ↦ inr (λ z. e (h.counted ∙ z), f) ]);
  within = h.within.1;
  few = let most = h.few in omega arith;
}

-- a row that doesn't
pub counting_passed : (bound : ℕ → Option ℤ) (rows : List ℕ) (answer : ℤ) (q : ℕ) (rest : List ℕ) (count : ℕ) (only : Option ℕ) →
    IsCounting bound rows answer (q ∷ rest) count only → is_bound (bound q) answer ≡ false → IsCounting bound rows answer rest count only
counting_passed bound rows answer q rest count only h passes = record {
  seen = h.seen;
  together = ap (λ b. h.seen ++ cond b (q ∷ reaching bound rest answer) (reaching bound rest answer)) (sym passes) ∙ h.together;
  counted = h.counted;
  alone = h.alone;
  within = h.within.1;
  few = let most = h.few in omega arith;
}

-- at the end those seen are all
pub counting_ends : (bound : ℕ → Option ℤ) (rows : List ℕ) (answer : ℤ) (count : ℕ) (only : Option ℕ) → IsCounting bound rows answer [] count only →
    (count ≡ length (reaching bound rows answer)) × (only ≡ lone_of (reaching bound rows answer))
counting_ends bound rows answer count only h =
    let all : h.seen ≡ reaching bound rows answer = sym (append-nil h.seen) ∙ h.together in
    (h.counted ∙ ap length all, h.alone ∙ ap lone_of all)

-- a list has at most one lone row
lone_is_least : (rows : List ℕ) → IsLeast (λ r. rows ≡ r ∷ []) (lone_of rows)
lone_is_least [] = λ r e. absurd cc
lone_is_least (r ∷ []) = (refl, λ q less e. let same : r ≡ q = cc in absurd (omega arith))
lone_is_least (r ∷ q ∷ rows) = λ x e. absurd cc

-- the least row with one of two properties
lesser_is_least : (P Q : ℕ → Type 0) (a b : Option ℕ) → IsLeast P a → IsLeast Q b → IsLeast (λ r. P r ⊎ Q r) (lesser_of a b)
lesser_is_least P Q None None h k = λ r either. elim either [ inl p ↦ h r p | inr q ↦ k r q ]
lesser_is_least P Q None (Some b) h k = (inr k.0, λ q less either. elim either [ inl p ↦ h q p | inr y ↦ k.1 q less y ])
lesser_is_least P Q (Some a) None h k = (inl h.0, λ q less either. elim either [ inl p ↦ h.1 q less p | inr y ↦ k q y ])
lesser_is_least P Q (Some a) (Some b) h k = elim (cases_lt a b) [
  | inl first ↦
      let same : a ≡ min a b = omega arith in
      (inl (subst P same h.0), λ q less either. elim either [ inl p ↦ h.1 q (omega arith) p | inr y ↦ k.1 q (omega arith) y ])
  | inr second ↦
      let same : b ≡ min a b = omega arith in
      (inr (subst Q same k.0), λ q less either. elim either [ inl p ↦ h.1 q (omega arith) p | inr y ↦ k.1 q (omega arith) y ])
]

-- the least row with a property, said in another way
same_least : (P Q : ℕ → Type 0) (a : Option ℕ) → ((r : ℕ) → P r → Q r) → ((r : ℕ) → Q r → P r) → IsLeast P a → IsLeast Q a
same_least P Q None f g h = λ r q. h r (g r q)
same_least P Q (Some a) f g h = (f a h.0, λ q less y. h.1 q less (g q y))

-- the least row that is alone, with one answer more
pub alone-push : (bound : ℕ → Option ℤ) (answers : List Answer) (x : Answer) (least after only : Option ℕ) → IsLeast (IsAlone bound answers) least →
    only ≡ lone_of (reaching bound x.rows x.value) → after ≡ lesser_of least only → IsLeast (IsAlone bound (answers ++ x ∷ [])) after
alone-push bound answers x least after only h alone is =
    subst (IsLeast (IsAlone bound (answers ++ x ∷ []))) (sym is)
    (same_least (λ r. IsAlone bound answers r ⊎ Here r) (IsAlone bound (answers ++ x ∷ [])) (lesser_of least only)
    (λ r either. elim either [ inl (a, one, same) ↦ (a, one_of_front answers x a one, same) | inr same ↦ (x, one_of_last answers x, same) ])
    (λ r (a, one, same). elim (front_or_last answers x a one) [
      | inl front ↦ inl (a, front, same)
      | inr last ↦ inr (ap (λ (y : Answer). reaching bound y.rows y.value) last ∙ same)
    ])
    (lesser_is_least (IsAlone bound answers) Here least only h (subst (IsLeast Here) (sym alone) (lone_is_least (reaching bound x.rows x.value)))))
  where
    Here : ℕ → Type 0
    Here r = reaching bound x.rows x.value ≡ r ∷ []
