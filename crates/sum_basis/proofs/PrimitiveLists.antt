-- Lists over their content, as rows.
use Rattle.std.proofs.Common.{◌≡◌, ◌≢◌, ℕ, ◌<◌, ◌≤◌, ℤ, pos, List, [], ◌∷◌, length, map, get_or, refl, sym, ap, ◌∙◌, subst, arith}
use Rattle.std.specs.Prelude.{◌*ℤ◌, neg_ℤ, ◌<ℤ◌, unsigned_abs}
use Rattle.std.specs.Int.{◌∣◌}
use Rattle.std.specs.List.{AllByRecursion}
use Rattle.std.proofs.lemmas.Int.{ints, unsigned_abs-mul}
use Rattle.std.proofs.lemmas.List.{length-map}
use Rattle.std.proofs.Math.Nat.{eq_of_mul-eq-mul_left}
use Rattle.std.proofs.Math.IntN.{*ℤ_comm, neg_ℤ-neg_ℤ}
use Rattle.std.proofs.lemmas.Nat.Gcd.{dvd-zero}
use Rattle.audit_types.specs.Truth.{number_at}
use Rattle.audit_types.specs.Form.{IsContent, pivot_entry}
use Rattle.audit_types.specs.PrimitiveLines.{number_at-times, same_rows, times}
use Rattle.audit_types.specs.Products.{times_assoc, neg-times, product_not_zero, size_of_factor, one-times}
use Rattle.audit_types.specs.Numbers.{size_positive, positive_not_zero, size_negated}
use Rattle.int_rows.specs.ContentLaws.{all-ones}
use Rattle.sum_basis.specs.declared.sparse.FreeEntry.{FreeEntry}
use Rattle.sum_basis.specs.Sparse.{entry_at, row_of, IsListed, scaled, IsOverContent, IsMadeList}
use Rattle.sum_basis.proofs.Remainders.{IsLine}
use Rattle.sum_basis.proofs.ListContents.{values, none, entry_at-scaled, listed_scaled}
use Rattle.sum_basis.proofs.ClearedLists.{content_of_row, positive_factor}
use Rattle.sum_basis.proofs.SparseRows.{number_at-row_of, length-row_of, pivot_entry-row_of}

-- minus a number
minus_one : (x : ℤ) → neg_ℤ (pos 1) *ℤ x ≡ neg_ℤ x
minus_one x = neg-times (pos 1) x ∙ ap neg_ℤ (one-times x)

-- an entry is the turned one of its turned one
pub turned : (e : FreeEntry) (x : ℤ) → x ≡ neg_ℤ e.value → e ≡ scaled (neg_ℤ (pos 1)) (record { place = e.place; value = x })
turned e x is = ap (λ (z : ℤ). record { place = e.place; value = z }) (sym (minus_one x ∙ ap neg_ℤ is ∙ neg_ℤ-neg_ℤ e.value))

-- the values of a list divided by a number are no greater
pub no_greater : (by : ℤ) (old made : List FreeEntry) (most : ℕ) → by ≢ pos 0 → old ≡ map (scaled by) made →
    AllByRecursion (λ (e : FreeEntry). unsigned_abs e.value ≤ most) old → AllByRecursion (λ (e : FreeEntry). unsigned_abs e.value ≤ most) made
no_greater by old made most n is all = go made (subst (AllByRecursion (λ (e : FreeEntry). unsigned_abs e.value ≤ most)) is all)
  where
    go : (es : List FreeEntry) → AllByRecursion (λ (e : FreeEntry). unsigned_abs e.value ≤ most) (map (scaled by) es) →
        AllByRecursion (λ (e : FreeEntry). unsigned_abs e.value ≤ most) es
    go [] h = tt
    go (e ∷ es) h = let least = size_of_factor by e.value n in let here = h.0 in (omega arith, go es h.1)

-- a multiple of a multiple
scaled_twice : (a b : ℤ) (es : List FreeEntry) → map (scaled a) (map (scaled b) es) ≡ map (scaled (a *ℤ b)) es
scaled_twice a b [] = refl
scaled_twice a b (e ∷ es) =
    ap (λ (z : ℤ). record { place = e.place; value = z } ∷ map (scaled a) (map (scaled b) es)) (sym (times_assoc a b e.value))
    ∙ ap (λ l. scaled (a *ℤ b) e ∷ l) (scaled_twice a b es)

-- a list divided by its content; the size of its first value is divided too
module _ (old mid : List FreeEntry) (size head : ℤ) (over : IsOverContent size old head mid) (some : 0 < length old)
    (size_is : size ≡ pos (unsigned_abs (get_or old 0 none).value)) where
  first_is : (get_or old 0 none).value ≡ over.by *ℤ (get_or mid 0 none).value
  first_is = ap (λ l. (get_or l 0 none).value) over.entries_are ∙ at mid (let l = ap length over.entries_are ∙ length-map mid (scaled over.by) in omega arith)
    where
      at : (es : List FreeEntry) → 0 < length es → (get_or (map (scaled over.by) es) 0 none).value ≡ over.by *ℤ (get_or es 0 none).value
      at [] h = absurd (omega arith)
      at (e ∷ es) h = refl

  same_size : unsigned_abs head ≡ unsigned_abs (get_or mid 0 none).value
  same_size =
      let one = sym (unsigned_abs-mul over.by head) ∙ ap unsigned_abs (sym over.head_is ∙ size_is) in
      let two = sym (unsigned_abs-mul over.by (get_or mid 0 none).value) ∙ ap unsigned_abs (sym first_is) in
      eq_of_mul-eq-mul_left (unsigned_abs over.by) (size_positive over.by over.positive) (unsigned_abs head) (unsigned_abs (get_or mid 0 none).value)
      (one ∙ sym two)

  -- the content of its values alone
  values_content : IsContent (values mid) 1
  values_content =
      record { divides = all-ones (values mid); greatest = λ d all. over.content.greatest d (subst (λ m. d ∣ m) (sym same_size) (first d mid all), all) }
    where
      first : (d : ℕ) (es : List FreeEntry) → AllByRecursion (λ x. d ∣ unsigned_abs x) (values es) → d ∣ unsigned_abs (get_or es 0 none).value
      first d [] h = dvd-zero d
      first d (e ∷ es) h = h.0

  -- its first value has the sign that it had
  pub made_as_it_is : pos 0 <ℤ (get_or old 0 none).value → IsMadeList old mid
  made_as_it_is leading = record {
    by = over.by;
    not_zero = positive_not_zero over.by over.positive;
    is_multiple = over.entries_are;
    content = values_content;
    leading = positive_factor over.by (get_or mid 0 none).value over.positive (subst (λ z. pos 0 <ℤ z) first_is leading);
  }

  -- and the other one, when all signs are turned
  module _ (new : List FreeEntry) (is : mid ≡ map (scaled (neg_ℤ (pos 1))) new) (negative : (get_or old 0 none).value <ℤ pos 0) where
    mid_first : (get_or mid 0 none).value ≡ neg_ℤ (get_or new 0 none).value
    mid_first = ap (λ l. (get_or l 0 none).value) is ∙ at new
      where
        at : (es : List FreeEntry) → (get_or (map (scaled (neg_ℤ (pos 1))) es) 0 none).value ≡ neg_ℤ (get_or es 0 none).value
        at [] = refl
        at (e ∷ es) = minus_one e.value

    new_leads : pos 0 <ℤ (get_or new 0 none).value
    new_leads = positive_factor over.by (get_or new 0 none).value over.positive
        (let first = first_is ∙ ap (λ z. over.by *ℤ z) mid_first ∙ *ℤ_comm over.by (neg_ℤ (get_or new 0 none).value)
        ∙ neg-times (get_or new 0 none).value over.by ∙ ap neg_ℤ (*ℤ_comm (get_or new 0 none).value over.by) in
        let low = negative in omega (arith, ints))

    new_content : IsContent (values new) 1
    new_content =
        record {
          divides = all-ones (values new);
          greatest =
              λ d all. values_content.greatest d (subst (λ l. AllByRecursion (λ x. d ∣ unsigned_abs x) (values l)) (sym is) (back d new all));
        }
      where
        back : (d : ℕ) (es : List FreeEntry) → AllByRecursion (λ x. d ∣ unsigned_abs x) (values es) →
            AllByRecursion (λ x. d ∣ unsigned_abs x) (values (map (scaled (neg_ℤ (pos 1))) es))
        back d [] h = tt
        back d (e ∷ es) h = (subst (λ m. d ∣ m) (sym (ap unsigned_abs (minus_one e.value) ∙ size_negated e.value)) h.0, back d es h.1)

    pub made_turned : IsMadeList old new
    made_turned = record {
      by = over.by *ℤ neg_ℤ (pos 1);
      not_zero = product_not_zero over.by (neg_ℤ (pos 1)) (positive_not_zero over.by over.positive) (λ z. absurd (omega (arith, ints)));
      is_multiple = over.entries_are ∙ ap (map (scaled over.by)) is ∙ scaled_twice over.by (neg_ℤ (pos 1)) new;
      content = new_content;
      leading = new_leads;
    }

-- a row and the list of its primitive row
module _ (n : ℕ) (row : List ℤ) (list made : List FreeEntry) (long : length row ≡ n) (listed : IsListed 0 (length row) list)
    (is : (j : ℕ) → entry_at list j ≡ number_at row j) (some : 0 < length list) (m : IsMadeList list made) where
  pub made_listed : IsListed 0 n made
  made_listed = listed_scaled m.by 0 n made (subst (IsListed 0 n) m.is_multiple (subst (λ k. IsListed 0 k list) long listed))

  pub made_some : 0 < length made
  made_some = let same = ap length m.is_multiple ∙ length-map made (scaled m.by) in omega arith

  pub made_line : IsLine n row (row_of n made)
  made_line = record {
    by = m.by;
    not_zero = m.not_zero;
    line = same_rows row (times m.by (row_of n made)) (long ∙ sym (length-map (row_of n made) (λ z. m.by *ℤ z) ∙ length-row_of n made))
        (λ j. sym (is j) ∙ ap (λ xs. entry_at xs j) m.is_multiple ∙ entry_at-scaled m.by made j
        ∙ ap (λ z. m.by *ℤ z) (sym (number_at-row_of 0 n made made_listed j)) ∙ sym (number_at-times m.by (row_of n made) j));
    primitive = record { one_each = length-row_of n made; content = content_of_row n made made_listed m.content; leading = leads made made_listed m.leading };
  }
    where
      leads : (es : List FreeEntry) → IsListed 0 n es → pos 0 <ℤ (get_or es 0 none).value → pos 0 <ℤ pivot_entry (row_of n es)
      leads [] h p = absurd (omega (arith, ints))
      leads (e ∷ es) h p = subst (λ z. pos 0 <ℤ z) (sym (pivot_entry-row_of 0 n e es h)) p
