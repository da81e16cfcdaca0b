-- The digits of a number: how many they are, which they are for the numbers below 100,000, and that they have its value.
-- Assumes nothing.
use mathlib.Core.Path.{◌≡◌, refl, ◌∙◌, ap}
use mathlib.Core.Bool.{Bool, true, false}
use mathlib.Core.List.{List, [], ◌∷◌, ◌++◌}
use Prim.Native.Nat.{ℕ, zero, suc, ◌+◌, ◌-◌, ◌*◌, ◌/◌, ◌%◌, ◌^◌, ◌≤◌, ◌<◌}
use native.Mathlib.Nat.{pow-suc}
use native.Mathlib.Omega.{arith}
use lib.Dec.{ltb}
use lib.ListN.{length, length-append}
use borrow.Author.Tests.{lt-ltb, le-ltb, ltb-false}
use Rattle.laws.specs.Choice.{pick}
use Rattle.listing_text.specs.Decimal.{digit, digits, decimal, decimal_value}

-- ---- how many

digits_length : (m n k : ℕ) → 1 ≤ k → n < 10 ^ k → length (digits m n) ≤ k
digits_length zero n k l h = omega arith
digits_length (suc m) n zero l h = absurd (let w : ⊥ = omega arith in w)
digits_length (suc m) n (suc k) l h = go (ltb n 10) refl k h (digits_length m (n / 10) k)
  where
    go : (b : Bool) → ltb n 10 ≡ b → (j : ℕ) → n < 10 ^ suc j → (1 ≤ j → n / 10 < 10 ^ j → length (digits m (n / 10)) ≤ j) →
        length (pick b (digit n ∷ []) (digits m (n / 10) ++ (digit (n % 10) ∷ []))) ≤ suc j
    go true q j p fewer = omega arith
    go false q zero p fewer = let t = ltb-false n 10 q in absurd (let w : ⊥ = omega arith in w)
    go false q (suc j) p fewer =
        let e = pow-suc 10 (suc j) in
        let f = fewer (omega arith) (omega arith) in
        omega (arith, length-append (digits m (n / 10)) (digit (n % 10) ∷ []))

pub decimal_length : (n k : ℕ) → 1 ≤ k → k ≤ 20 → n < 10 ^ k → length (decimal n) ≤ k
unfolding decimal
decimal_length n k l g h = digits_length 20 n k l h

-- ---- which

last_digit : (k n : ℕ) → n < 10 → digits (suc k) n ≡ digit n ∷ []
last_digit k n h = rw (lt-ltb n 10 h)

digits_before : (k n : ℕ) → 10 ≤ n → digits (suc k) n ≡ digits k (n / 10) ++ (digit (n % 10) ∷ [])
digits_before k n h = rw (le-ltb n 10 h)

-- the digits of n / 10, then the last one
behind : (k n : ℕ) (ds : List ℕ) → 10 ≤ n → digits k (n / 10) ≡ ds → digits (suc k) n ≡ ds ++ (digit (n % 10) ∷ [])
behind k n ds h e = digits_before k n h ∙ ap (λ (l : List ℕ). l ++ (digit (n % 10) ∷ [])) e

two : (k n : ℕ) → 10 ≤ n → n < 100 → digits (suc (suc k)) n ≡ digit (n / 10) ∷ digit (n % 10) ∷ []
two k n l h = behind (suc k) n (digit (n / 10) ∷ []) l (last_digit k (n / 10) (omega arith))

three : (k n : ℕ) → 100 ≤ n → n < 1000 → digits (suc (suc (suc k))) n ≡ digit (n / 100) ∷ digit (n / 10 % 10) ∷ digit (n % 10) ∷ []
three k n l h =
    let e : n / 100 ≡ n / 10 / 10 = omega arith in
    rw e (behind (suc (suc k)) n _ (omega arith) (two k (n / 10) (omega arith) (omega arith)))

four : (k n : ℕ) → 1000 ≤ n → n < 10000 →
    digits (suc (suc (suc (suc k)))) n ≡ digit (n / 1000) ∷ digit (n / 100 % 10) ∷ digit (n / 10 % 10) ∷ digit (n % 10) ∷ []
four k n l h =
    let e : n / 1000 ≡ n / 10 / 100 = omega arith in
    let f : n / 100 ≡ n / 10 / 10 = omega arith in
    rw (e, f) (behind (suc (suc (suc k))) n _ (omega arith) (three k (n / 10) (omega arith) (omega arith)))

five : (k n : ℕ) → 10000 ≤ n → n < 100000 →
    digits (suc (suc (suc (suc (suc k))))) n
    ≡ digit (n / 10000) ∷ digit (n / 1000 % 10) ∷ digit (n / 100 % 10) ∷ digit (n / 10 % 10) ∷ digit (n % 10) ∷ []
five k n l h =
    let e : n / 10000 ≡ n / 10 / 1000 = omega arith in
    let f : n / 1000 ≡ n / 10 / 100 = omega arith in
    let g : n / 100 ≡ n / 10 / 10 = omega arith in
    rw (e, f, g) (behind (suc (suc (suc (suc k)))) n _ (omega arith) (four k (n / 10) (omega arith) (omega arith)))

module _ (n : ℕ) where
  pub one_digit : n < 10 → decimal n ≡ digit n ∷ []
  unfolding decimal
  one_digit h = last_digit 19 n h

  pub two_digits : 10 ≤ n → n < 100 → decimal n ≡ digit (n / 10) ∷ digit (n % 10) ∷ []
  unfolding decimal
  two_digits l h = two 18 n l h

  pub three_digits : 100 ≤ n → n < 1000 → decimal n ≡ digit (n / 100) ∷ digit (n / 10 % 10) ∷ digit (n % 10) ∷ []
  unfolding decimal
  three_digits l h = three 17 n l h

  pub four_digits : 1000 ≤ n → n < 10000 →
      decimal n ≡ digit (n / 1000) ∷ digit (n / 100 % 10) ∷ digit (n / 10 % 10) ∷ digit (n % 10) ∷ []
  unfolding decimal
  four_digits l h = four 16 n l h

  pub five_digits : 10000 ≤ n → n < 100000 →
      decimal n ≡ digit (n / 10000) ∷ digit (n / 1000 % 10) ∷ digit (n / 100 % 10) ∷ digit (n / 10 % 10) ∷ digit (n % 10) ∷ []
  unfolding decimal
  five_digits l h = five 15 n l h

-- ---- their value

value_behind : (sofar : ℕ) (ds : List ℕ) (d : ℕ) → decimal_value sofar (ds ++ (d ∷ [])) ≡ 10 * decimal_value sofar ds + (d - 48)
value_behind sofar [] d = refl
value_behind sofar (c ∷ ds) d = value_behind (10 * sofar + (c - 48)) ds d

digits_value : (k n : ℕ) → n < 10 ^ k → decimal_value 0 (digits k n) ≡ n
digits_value zero n h = omega arith
digits_value (suc k) n h = go (ltb n 10) refl (digits_value k (n / 10))
  where
    go : (b : Bool) → ltb n 10 ≡ b → (n / 10 < 10 ^ k → decimal_value 0 (digits k (n / 10)) ≡ n / 10) →
        decimal_value 0 (pick b (digit n ∷ []) (digits k (n / 10) ++ (digit (n % 10) ∷ []))) ≡ n
    go true q fewer = omega arith
    go false q fewer =
        let e = pow-suc 10 k in
        let f = fewer (omega arith) in
        value_behind 0 (digits k (n / 10)) (digit (n % 10)) ∙ (let w : 10 * decimal_value 0 (digits k (n / 10)) + (48 + n % 10 - 48) ≡ n = omega arith in w)

pub decimal_value_lem : (n : ℕ) → n < 10 ^ 20 → decimal_value 0 (decimal n) ≡ n
unfolding decimal
decimal_value_lem n h = digits_value 20 n h
