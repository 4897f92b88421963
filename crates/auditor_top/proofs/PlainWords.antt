-- The plain spellings of the commands are commands, whatever number they hold.
use Rattle.std.proofs.Common.{◌≡◌, ℕ, ◌+◌, ◌≤◌, ◌<◌, ◌^◌, Bool, true, false, nat_le, List, [], ◌∷◌, ◌++◌, Option, Some, None, option_and_then, refl, codes, ap, subst, ◌∙◌, inl, inr, arith, cond}
use Rattle.std.specs.List.{list_all}
use Rattle.std.specs.Char.{is_ascii_digit}
use Rattle.std.proofs.lemmas.Bool.{cases_lt, and_parts, and_from, cond-true, le-leb, leb-true, lt-ltb}
use Rattle.clap.proofs.OnLiterals.{clap_on_literals}
use Rattle.audit_session.specs.Stops.{IsBatch}
use Rattle.auditor_top.specs.declared.words.Command.{Command}
use Rattle.auditor_top.specs.declared.words.Command.TheVariants.{Serve, Drill}
use Rattle.auditor_top.specs.Words.{command_of, number_of, serve_with, drill_with, twinned}

-- ---- without the flag

-- a command stays what it is
abbrev again : Option Command → Option Command
again found = option_and_then (λ (k : Command). Some k) found

same_again : (found : Option Command) → again found ≡ found
same_again (Some command) = refl
same_again None = refl

-- ---- `serve` with a batch

-- what follows `=` is the batch
in_one_word : (word : List ℕ) → command_of (codes "serve" ∷ (codes "--batch=" ++ word) ∷ []) ≡ again (serve_with (number_of word))
unfolding command_of clap_on_literals
in_one_word word = refl

-- and the flag before it asks for a second journal
twin_in_one_word : (word : List ℕ) → command_of (codes "serve" ∷ codes "--twin" ∷ (codes "--batch=" ++ word) ∷ []) ≡
    option_and_then twinned (serve_with (number_of word))
unfolding command_of clap_on_literals
twin_in_one_word word = refl

-- what holds of each digit holds of every byte between the first digit and the last
abbrev EachDigit : (ℕ → Type 0) → Type 0
EachDigit P = P 48 × P 49 × P 50 × P 51 × P 52 × P 53 × P 54 × P 55 × P 56 × P 57

each_digit : (P : ℕ → Type 0) → EachDigit P → (x : ℕ) → 48 ≤ x → x ≤ 57 → P x
each_digit P each =
    from 48 each.0 (from 49 each.1 (from 50 each.2
    (from 51 each.3 (from 52 each.4 (from 53 each.5 (from 54 each.6 (from 55 each.7 (from 56 each.8 (from 57 each.9
    (λ x least most. absurd (omega (arith, least, most))))))))))))
  where
    from : (k : ℕ) → P k → ((x : ℕ) → k + 1 ≤ x → x ≤ 57 → P x) → (x : ℕ) → k ≤ x → x ≤ 57 → P x
    from k at rest x least most =
        elim (cases_lt x (k + 1)) [
          | inl low ↦ let same : k ≡ x = omega (arith, least) in subst P same at
          | inr high ↦ rest x high most
        ]

-- a word that begins with a digit is the batch
served_at : (xs : List ℕ) → EachDigit (λ (k : ℕ). command_of (codes "serve" ∷ codes "--batch" ∷ (k ∷ xs) ∷ []) ≡ again (serve_with (number_of (k ∷ xs))))
unfolding command_of clap_on_literals
served_at xs = (refl, refl, refl, refl, refl, refl, refl, refl, refl, refl)

-- if a number is chosen, it is by the test
some_if : (b : Bool) (x y : ℕ) → cond b (Some x) None ≡ Some y → b ≡ true
some_if true x y is = refl
some_if false x y is = cc

-- a number begins with a digit
first_digit : (x : ℕ) (xs : List ℕ) (number : ℕ) → number_of (x ∷ xs) ≡ Some number → (48 ≤ x) × (x ≤ 57)
first_digit x xs number is =
    let digits : list_all is_ascii_digit (x ∷ xs) ≡ true = (and_parts _ _ (some_if _ _ _ is)).1 in
    let digit = and_parts (nat_le 48 x) (nat_le x 57) (and_parts _ _ digits).0 in
    (leb-true 48 x digit.0, leb-true x 57 digit.1)

in_next_word : (word : List ℕ) (batch : ℕ) → number_of word ≡ Some batch →
    command_of (codes "serve" ∷ codes "--batch" ∷ word ∷ []) ≡ again (serve_with (number_of word))
in_next_word [] batch is = cc
in_next_word (x ∷ xs) batch is =
    let digit = first_digit x xs batch is in
    each_digit (λ (k : ℕ). command_of (codes "serve" ∷ codes "--batch" ∷ (k ∷ xs) ∷ []) ≡ again (serve_with (number_of (k ∷ xs))))
    (served_at xs) x digit.0 digit.1

-- a number of 1 to 64 is a batch
is_served : (number : Option ℕ) (batch : ℕ) → number ≡ Some batch → IsBatch batch → serve_with number ≡ Some (Serve batch false)
is_served number batch is within = ap serve_with is ∙ cond-true _ _ _ (and_from _ _ (le-leb 1 batch within.0) (le-leb batch 64 within.1))

pub batch_is : (word : List ℕ) (batch : ℕ) → number_of word ≡ Some batch → IsBatch batch →
    command_of (codes "serve" ∷ codes "--batch" ∷ word ∷ []) ≡ Some (Serve batch false)
batch_is word batch is within = in_next_word word batch is ∙ same_again _ ∙ is_served (number_of word) batch is within

pub batch_in_one_is : (word : List ℕ) (batch : ℕ) → number_of word ≡ Some batch → IsBatch batch →
    command_of (codes "serve" ∷ (codes "--batch=" ++ word) ∷ []) ≡ Some (Serve batch false)
batch_in_one_is word batch is within = in_one_word word ∙ same_again _ ∙ is_served (number_of word) batch is within

pub twin_batch_is : (word : List ℕ) (batch : ℕ) → number_of word ≡ Some batch → IsBatch batch →
    command_of (codes "serve" ∷ codes "--twin" ∷ (codes "--batch=" ++ word) ∷ []) ≡ Some (Serve batch true)
twin_batch_is word batch is within = twin_in_one_word word ∙ ap (λ (k : Option Command). option_and_then twinned k) (is_served (number_of word) batch is within)

-- ---- `drill` with a number

-- a word that begins with a digit is the number
drilled_at : (xs : List ℕ) → EachDigit (λ (k : ℕ). command_of (codes "drill" ∷ (k ∷ xs) ∷ []) ≡ again (drill_with (number_of (k ∷ xs))))
unfolding command_of clap_on_literals
drilled_at xs = (refl, refl, refl, refl, refl, refl, refl, refl, refl, refl)

-- a number begins with a digit
with_number : (word : List ℕ) (number : ℕ) → number_of word ≡ Some number → command_of (codes "drill" ∷ word ∷ []) ≡ again (drill_with (number_of word))
with_number [] number is = cc
with_number (x ∷ xs) number is =
    let digit = first_digit x xs number is in
    each_digit (λ (k : ℕ). command_of (codes "drill" ∷ (k ∷ xs) ∷ []) ≡ again (drill_with (number_of (k ∷ xs))))
    (drilled_at xs) x digit.0 digit.1

is_drilled : (found : Option ℕ) (number : ℕ) → found ≡ Some number → number < 2 ^ 32 → drill_with found ≡ Some (Drill number)
is_drilled found number is small = ap drill_with is ∙ cond-true _ _ _ (lt-ltb number (2 ^ 32) small)

pub drill_is : (word : List ℕ) (number : ℕ) → number_of word ≡ Some number → number < 2 ^ 32 → command_of (codes "drill" ∷ word ∷ []) ≡ Some (Drill number)
drill_is word number is small = with_number word number is ∙ same_again _ ∙ is_drilled (number_of word) number is small
