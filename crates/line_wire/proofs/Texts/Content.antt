-- What a string's bytes mean is no longer than they are.
use Rattle.std.proofs.Common.{ℕ, ◌+◌, ◌≤◌, Bool, true, false, cond, ◌&&◌, ◌==◌, nat_lt, List, [], ◌∷◌, length, Option, Some, None, option_and_then, option_map, arith}
use Rattle.std.proofs.lemmas.List.{length-append}
use Rattle.std.specs.Prelude.{⊤}
use Rattle.std.specs.Char.{encode_utf8}
use Rattle.json.specs.Text.{code_unit, short_escape, is_high_surrogate, is_low_surrogate, surrogate_pair, Within, plain, after_backslash, after_u, after_high, prepend, content}

-- what is there is of at most this size
abbrev pub AtMost : {A : Type 0} → (A → ℕ) → ℕ → Option A → Type 0
AtMost size n None = ⊤
AtMost size n (Some a) = size a ≤ n

-- the size of one thing bounds that of what is made of it
pub AtMost-map : {A B : Type 0} (f : A → ℕ) (g : B → ℕ) (m n : ℕ) (h : A → B) → ((a : A) → f a ≤ m → g (h a) ≤ n) → (o : Option A) → AtMost f m o →
    AtMost g n (option_map h o)
AtMost-map f g m n h k None x = tt
AtMost-map f g m n h k (Some a) x = k a x

pub AtMost-and_then : {A B : Type 0} (f : A → ℕ) (g : B → ℕ) (m n : ℕ) (h : A → Option B) → ((a : A) → f a ≤ m → AtMost g n (h a)) → (o : Option A) →
    AtMost f m o → AtMost g n (option_and_then h o)
AtMost-and_then f g m n h k None x = tt
AtMost-and_then f g m n h k (Some a) x = k a x

-- either choice is of at most this size
pub either : {A : Type 0} (size : A → ℕ) (n : ℕ) (b : Bool) (x y : Option A) → AtMost size n x → AtMost size n y → AtMost size n (cond b x y)
either size n true x y first second = first
either size n false x y first second = second

-- whatever the number is
any_number : (n : ℕ) (f : ℕ → Option (List ℕ)) (o : Option ℕ) → ((u : ℕ) → AtMost length n (f u)) → AtMost length n (option_and_then f o)
any_number n f None each = tt
any_number n f (Some u) each = each u

more : (n m : ℕ) (r : Option (List ℕ)) → AtMost length m r → m ≤ n → AtMost length n r
more n m None within le = tt
more n m (Some s) within le = omega arith

longer : (n m : ℕ) (front : List ℕ) (r : Option (List ℕ)) → AtMost length m r → length front + m ≤ n → AtMost length n (prepend front r)
longer n m front None within le = tt
longer n m front (Some s) within le = omega (arith, length-append front s)

length-encode_utf8 : (u : ℕ) → length (encode_utf8 u) ≤ 4
unfolding encode_utf8
length-encode_utf8 u = grind arith

pub content-le : (w : Within) (xs : List ℕ) → AtMost length (length xs) (content w xs)
unfolding content
content-le plain [] = tt
content-le plain (x ∷ xs) =
    let n = length (x ∷ xs) in
    either length n (x == 34) _ _ (omega arith)
    (either length n (x == 92) _ _ (more n _ _ (content-le after_backslash xs) (omega arith))
    (either length n (nat_lt x 32) _ _ tt (longer n _ (x ∷ []) _ (content-le plain xs) (omega arith))))
content-le after_backslash [] = tt
content-le after_backslash (x ∷ xs) =
    let n = length (x ∷ xs) in
    either length n (x == 117) _ _ (more n _ _ (content-le after_u xs) (omega arith))
    (any_number n _ (short_escape x) (λ c. longer n _ (c ∷ []) _ (content-le plain xs) (omega arith)))
content-le after_u [] = tt
content-le after_u (a ∷ []) = tt
content-le after_u (a ∷ b ∷ []) = tt
content-le after_u (a ∷ b ∷ c ∷ []) = tt
content-le after_u (a ∷ b ∷ c ∷ d ∷ xs) =
    let n = length (a ∷ b ∷ c ∷ d ∷ xs) in
    any_number n _ (code_unit a b c d) (λ u. either length n (is_high_surrogate u) _ _ (more n _ _ (content-le (after_high u) xs) (omega arith))
    (either length n (is_low_surrogate u) _ _ tt (longer n _ (encode_utf8 u) _ (content-le plain xs) (omega (arith, length-encode_utf8 u)))))
content-le (after_high h) [] = tt
content-le (after_high h) (s ∷ []) = tt
content-le (after_high h) (s ∷ u ∷ []) = tt
content-le (after_high h) (s ∷ u ∷ a ∷ []) = tt
content-le (after_high h) (s ∷ u ∷ a ∷ b ∷ []) = tt
content-le (after_high h) (s ∷ u ∷ a ∷ b ∷ c ∷ []) = tt
content-le (after_high h) (s ∷ u ∷ a ∷ b ∷ c ∷ d ∷ xs) =
    let n = length (s ∷ u ∷ a ∷ b ∷ c ∷ d ∷ xs) in
    either length n ((s == 92) && (u == 117)) _ _ (any_number n _ (code_unit a b c d) (λ l. either length n (is_low_surrogate l) _ _
    (longer n _ (encode_utf8 (surrogate_pair h l)) _ (content-le plain xs) (omega (arith, length-encode_utf8 (surrogate_pair h l)))) tt)) tt
