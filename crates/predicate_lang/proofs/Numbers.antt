-- Numbers in decimal.
use Rattle.std.proofs.Common.{◌≡◌, ℕ, ◌+◌, ◌-◌, ◌*◌, ◌<◌, ◌≤◌, ◌^◌, List, [], ◌∷◌, length, get_or, drop, Some, None, cond, sym, ap, ◌∙◌, arith}
use Rattle.std.proofs.lemmas.Bool.{lt-leb}
use Rattle.std.proofs.lemmas.List.{drop_more}
use Rattle.audit_types.specs.Limits.{most_number}
use Rattle.schema_json.specs.Decimals.{decimal_after}
use Rattle.predicate_lang.specs.Tokens.{within_most}

-- digits never make a number smaller
pub decimal_after_grows : (bytes : List ℕ) (n : ℕ) → n ≤ decimal_after n bytes
decimal_after_grows [] n = omega arith
decimal_after_grows (b ∷ bytes) n = omega (arith, decimal_after_grows bytes (10 * n + (b - 48)))

-- one digit more
step_at : (digits : List ℕ) (i v d : ℕ) → i < length digits → d ≡ get_or digits i 0 →
    decimal_after v (drop i digits) ≡ decimal_after (10 * v + (d - 48)) (drop (i + 1) digits)
step_at digits i v d inside is =
    ap (decimal_after v) (drop_more digits i 0 inside) ∙ ap (λ b. decimal_after (10 * v + (b - 48)) (drop (i + 1) digits)) (sym is)

-- the number of all digits, after one more of them
pub one_digit : (digits : List ℕ) (i v d w : ℕ) → i < length digits → d ≡ get_or digits i 0 → w ≡ 10 * v + (d - 48)
    → decimal_after v (drop i digits) ≡ decimal_after 0 digits → decimal_after w (drop (i + 1) digits) ≡ decimal_after 0 digits
one_digit digits i v d w inside is more same =
    ap (λ n. decimal_after n (drop (i + 1) digits)) more ∙ sym (step_at digits i v d inside is) ∙ same

-- a number that is too large at some digit stays too large
pub too_large : (digits : List ℕ) (i v d : ℕ) → i < length digits → d ≡ get_or digits i 0 → decimal_after v (drop i digits) ≡ decimal_after 0 digits →
    10 ^ 12 < 10 * v + (d - 48) → within_most (decimal_after 0 digits) ≡ None
too_large digits i v d inside is same large =
    let grows : 10 * v + (d - 48) ≤ decimal_after 0 digits =
    omega (arith, decimal_after_grows (drop (i + 1) digits) (10 * v + (d - 48)), step_at digits i v d inside is, same) in
    ap (λ b. cond b (Some (decimal_after 0 digits)) None) (lt-leb (decimal_after 0 digits) most_number (omega (arith, grows, large)))
