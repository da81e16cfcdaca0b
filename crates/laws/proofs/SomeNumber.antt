-- A test that passes at some or at no number below a bound.
-- Assumes nothing.
use mathlib.Core.Path.{◌≡◌, refl}
use mathlib.Core.Bool.{Bool, true, false}
use Prim.Native.Nat.{ℕ, zero, suc, ◌<◌}
use native.Mathlib.Nat.{not-suc-le-zero}
use native.Mathlib.Omega.{arith}
use lib.Dec.{eqb}
use borrow.Author.Tests.{eqb-true, eqb-false}
use Rattle.laws.specs.Choice.{some}
use Rattle.laws.proofs.Tests.{either_false}

pub some_none : (f : ℕ → Bool) (n : ℕ) → some f n ≡ false → (k : ℕ) → k < n → f k ≡ false
some_none f zero e k h = absurd (not-suc-le-zero h)
some_none f (suc n) e k h = go (eqb k n) refl (some_none f n (either_false (some f n) (f n) e).0 k)
  where
    go : (b : Bool) → eqb k n ≡ b → (k < n → f k ≡ false) → f k ≡ false
    go true q r = rw (eqb-true k n q) (either_false (some f n) (f n) e).1
    go false q r = r (omega (arith, eqb-false k n q))

-- the same test at every number
pub some_same : (f g : ℕ → Bool) (n : ℕ) → ((i : ℕ) → f i ≡ g i) → some f n ≡ some g n
some_same f g zero e = refl
some_same f g (suc n) e = rw (e n, some_same f g n e)
