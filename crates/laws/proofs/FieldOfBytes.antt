-- A field of a byte string is read from the three bytes that end where it ends.
-- Assumes nothing.
use mathlib.Core.Path.{◌≡◌, refl, sym, ◌∙◌, ap}
use mathlib.Core.List.{List, [], ◌∷◌}
use Prim.Native.Nat.{ℕ, zero, suc, ◌+◌, ◌-◌, ◌*◌, ◌/◌, ◌%◌, ◌^◌, ◌≤◌}
use native.Mathlib.Nat.{add-suc, add-zero, mul-suc, div-one, add_comm, mul_comm, mul_assoc, add-mul, add_assoc}
use native.Mathlib.Omega.{arith}
use lib.ListN.{length, get_or}
use lib.Pow.{pow-add, high, shr-shr, field, mod-mod-pow}
use borrow.Author.Tests.{le-leb}
use Rattle.laws.specs.Layout.{total, pack, Fit, bytes, leading, AreBytes, before}

leading_cons : (b : ℕ) (s : List ℕ) (k : ℕ) → leading (b ∷ s) (suc k) ≡ b * 2 ^ total (bytes k) + leading s k
leading_cons b s zero = omega arith
leading_cons b s (suc k) =
    rw (leading_cons b s k, pow-add 2 8 (total (bytes k)), add-mul (b * 2 ^ total (bytes k)) (leading s k) 256, mul_assoc b (2 ^ total (bytes k)) 256, mul_comm (2 ^ total (bytes k)) 256)
    (add_assoc _ _ _)

pub leading_all : (s : List ℕ) → leading s (length s) ≡ pack (bytes (length s)) s
leading_all [] = refl
leading_all (b ∷ s) = leading_cons b s (length s) ∙ rw (leading_all s)

-- the last k bytes divided away
leading_shift : (s : List ℕ) → AreBytes s → (n k : ℕ) → leading s (n + k) / 2 ^ (8 * k) ≡ leading s n
leading_shift s b n zero = rw (add-zero n) (div-one (leading s n))
leading_shift s b n (suc k) =
    rw (add-suc n k, mul-suc 8 k, add_comm (8 * k) 8, ← shr-shr (leading s (suc (n + k))) 8 (8 * k), high (leading s (n + k)) 8 (b (n + k)))
    (leading_shift s b n k)

before_at : (s : List ℕ) (i k j : ℕ) → k ≡ i + j → before s k j ≡ get_or s i 0
before_at s i k j e = rw (le-leb j k (omega arith)) (ap (λ (n : ℕ). get_or s n 0) (omega arith))

pub three_last : (s : List ℕ) → AreBytes s → (k : ℕ) → before s k 3 * 65536 + before s k 2 * 256 + before s k 1 ≡ leading s k % 2 ^ 24
three_last s b zero = refl
three_last s b (suc zero) = omega (arith, b 0)
three_last s b (suc (suc zero)) = omega (arith, b 0, b 1)
three_last s b (suc (suc (suc k))) =
    rw (before_at s k (suc (suc (suc k))) 3 (omega arith), before_at s (suc k) (suc (suc (suc k))) 2 (omega arith), before_at s (suc (suc k)) (suc (suc (suc k))) 1 (omega arith))
    (omega (arith, b k, b (suc k), b (suc (suc k))))

-- a field that ends shift bits above the end of the first k bytes
pub field_at_lem : (s : List ℕ) → AreBytes s → (k rest shift width : ℕ) → shift + width ≤ 24 →
    leading s k % 2 ^ 24 / 2 ^ shift % 2 ^ width ≡ leading s (k + rest) / 2 ^ (8 * rest + shift) % 2 ^ width
field_at_lem s b k rest shift width h =
    rw (← shr-shr (leading s (k + rest)) (8 * rest) shift, leading_shift s b k rest) (cut (24 - shift) (omega arith) (omega arith))
  where
    cut : (j : ℕ) → j + shift ≡ 24 → width ≤ j → leading s k % 2 ^ 24 / 2 ^ shift % 2 ^ width ≡ leading s k / 2 ^ shift % 2 ^ width
    cut j e l =
        ap (λ (n : ℕ). leading s k % 2 ^ n / 2 ^ shift % 2 ^ width) (sym e)
        ∙ rw (field (leading s k) j shift) (narrow (j - width) (omega arith))
      where
        narrow : (i : ℕ) → i + width ≡ j → leading s k / 2 ^ shift % 2 ^ j % 2 ^ width ≡ leading s k / 2 ^ shift % 2 ^ width
        narrow i q = rw (← q) (mod-mod-pow (leading s k / 2 ^ shift) i width)

pub bytes_fit : (s : List ℕ) → AreBytes s → Fit (bytes (length s)) s
bytes_fit [] b = tt
bytes_fit (x ∷ s) b = (b 0, bytes_fit s (λ k. b (suc k)))
