-- A rule proved at every number below a bound by one test that antt computes.
-- Assumes nothing.
use mathlib.Core.Path.{◌≡◌, refl, sym, ◌∙◌}
use mathlib.Core.Bool.{Bool, true, false, not}
use Prim.Native.Nat.{ℕ, zero, suc, ◌<◌}
use native.Mathlib.Nat.{not-suc-le-zero}
use native.Mathlib.Omega.{arith}
use lib.Dec.{eqb}
use borrow.Author.Tests.{eqb-true, eqb-false}
use Rattle.laws.specs.Choice.{both, either, all, some}
use Rattle.laws.proofs.Tests.{both_true, both_with_false}

pub all_at : (f : ℕ → Bool) (n : ℕ) → all f n ≡ true → (k : ℕ) → k < n → f k ≡ true
all_at f zero e k h = absurd (not-suc-le-zero h)
all_at f (suc n) e k h = go (eqb k n) refl (all_at f n (both_true (f n) (all f n) e).1 k)
  where
    go : (b : Bool) → eqb k n ≡ b → (k < n → f k ≡ true) → f k ≡ true
    go true q r = rw (eqb-true k n q) (both_true (f n) (all f n) e).0
    go false q r = r (omega (arith, eqb-false k n q))

-- the same test at every number
pub all_same : (f g : ℕ → Bool) (n : ℕ) → ((i : ℕ) → f i ≡ g i) → all f n ≡ all g n
all_same f g zero e = refl
all_same f g (suc n) e = rw (e n, all_same f g n e)

both_exchange : (a b c d : Bool) → both (both a b) (both c d) ≡ both (both a c) (both b d)
both_exchange true b true d = refl
both_exchange true b false d = both_with_false b
both_exchange false b c d = refl

-- two tests pass at every number where both do
pub all_both : (f g : ℕ → Bool) (n : ℕ) → both (all f n) (all g n) ≡ all (λ (i : ℕ). both (f i) (g i)) n
all_both f g zero = refl
all_both f g (suc n) = both_exchange (f n) (all f n) (g n) (all g n) ∙ rw (all_both f g n)

not_either : (a b : Bool) → not (either a b) ≡ both (not b) (not a)
not_either true b = sym (both_with_false (not b))
not_either false true = refl
not_either false false = refl

-- a test that passes at no number fails at every one
pub not_some : (f : ℕ → Bool) (n : ℕ) → not (some f n) ≡ all (λ (i : ℕ). not (f i)) n
not_some f zero = refl
not_some f (suc n) = not_either (some f n) (f n) ∙ rw (not_some f n)
