-- The tests of code as the definitions have them, and what `both` and `either` say of their parts.
-- Assumes nothing.
use mathlib.Core.Path.{◌≡◌, refl, sym, ◌∙◌, ap}
use mathlib.Core.Bool.{Bool, true, false, not, not-not}
use Prim.Native.Nat.{ℕ, ◌≤◌, ◌<◌}
use native.Mathlib.Omega.{arith}
use lib.Dec.{leb, ltb, eqb}
use borrow.Author.Tests.{lt-ltb, le-ltb, le-leb, lt-leb, eq-eqb, ne_eqb, leb-true, leb-false, ltb-true, ltb-false, eqb-true, eqb-false}
use Rattle.laws.specs.Choice.{both, either}

pub ruleset tests = (lt-ltb, le-ltb, le-leb, lt-leb, eq-eqb, ne_eqb)

pub never : true ≡ false → ⊥
never e = let z : ◌≡◌ {A = ℕ} 0 1 = cc in omega arith

pub both_true : (a b : Bool) → both a b ≡ true → (a ≡ true) × (b ≡ true)
both_true true b e = (refl, e)
both_true false b e = absurd (never (cc))

pub both_with_true : (a : Bool) → both a true ≡ a
both_with_true true = refl
both_with_true false = refl

pub both_with_false : (a : Bool) → both a false ≡ false
both_with_false true = refl
both_with_false false = refl

pub either_with_true : (a : Bool) → either a true ≡ true
either_with_true true = refl
either_with_true false = refl

pub either_with_false : (a : Bool) → either a false ≡ a
either_with_false true = refl
either_with_false false = refl

pub either_false : (a b : Bool) → either a b ≡ false → (a ≡ false) × (b ≡ false)
either_false true b e = absurd (never e)
either_false false b e = (refl, e)

-- a test that fails is the converse one
pub not_leb : (m n : ℕ) → not (leb m n) ≡ ltb n m
not_leb m n = go (leb m n) refl
  where
    go : (x : Bool) → leb m n ≡ x → not x ≡ ltb n m
    go true e = sym (le-ltb n m (leb-true m n e))
    go false e = sym (lt-ltb n m (leb-false m n e))

pub not_ltb : (m n : ℕ) → not (ltb m n) ≡ leb n m
not_ltb m n = sym (ap not (not_leb n m)) ∙ not-not (leb n m)

-- two tests that pass and fail together
pub leb_same : (a b m n : ℕ) → (m ≤ n → a ≤ b) → (n < m → b < a) → leb a b ≡ leb m n
leb_same a b m n le lt = go (leb m n) refl
  where
    go : (x : Bool) → leb m n ≡ x → leb a b ≡ x
    go true e = le-leb a b (le (leb-true m n e))
    go false e = lt-leb a b (lt (leb-false m n e))

pub ltb_same : (a b m n : ℕ) → (m < n → a < b) → (n ≤ m → b ≤ a) → ltb a b ≡ ltb m n
ltb_same a b m n lt le = sym (not_leb b a) ∙ ap not (leb_same b a n m le lt) ∙ not_leb n m

pub eqb_same : (a b m n : ℕ) → (m ≡ n → a ≡ b) → (a ≡ b → m ≡ n) → eqb a b ≡ eqb m n
eqb_same a b m n to from = go (eqb m n) refl
  where
    go : (x : Bool) → eqb m n ≡ x → eqb a b ≡ x
    go true e = eq-eqb a b (to (eqb-true m n e))
    go false e = ne_eqb a b (λ q. eqb-false m n e (from q))
