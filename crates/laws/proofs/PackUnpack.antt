-- Packing and unpacking undo each other, for every layout.
-- Assumes nothing.
use mathlib.Core.Path.{◌≡◌, refl, sym, ◌∙◌, ap, ap₂}
use mathlib.Core.List.{List, [], ◌∷◌}
use Prim.Native.Nat.{ℕ, ◌+◌, ◌*◌, ◌/◌, ◌%◌, ◌^◌, ◌<◌}
use native.Mathlib.Nat.{mod-one, mod-eq_of_lt, zero-add, add_assoc}
use native.Mathlib.Omega.{arith}
use lib.Pow.{pow-add, high, low, mod-pow-add, field, mod-mod-pow}
use lib.Arith.{digits_lt}
use Rattle.laws.specs.Layout.{total, pack, unpack, Fit}

pub pack_lt : (ws vs : List ℕ) → Fit ws vs → pack ws vs < 2 ^ total ws
pack_lt [] [] f = omega arith
pack_lt [] (v ∷ vs) f = absurd f
pack_lt (w ∷ ws) [] f = absurd f
pack_lt (w ∷ ws) (v ∷ vs) f = rw (pow-add 2 w (total ws)) (digits_lt f.0 (pack_lt ws vs f.1))

-- j bits above the layout change nothing
unpack_mod : (ws : List ℕ) (j n : ℕ) → unpack ws (n % 2 ^ (j + total ws)) ≡ unpack ws n
unpack_mod [] j n = refl
unpack_mod (w ∷ ws) j n = rw (← add_assoc j w (total ws)) (ap₂ ◌∷◌ first (unpack_mod ws (j + w) n))
  where
    first : n % 2 ^ ((j + w) + total ws) / 2 ^ total ws % 2 ^ w ≡ n / 2 ^ total ws % 2 ^ w
    first = ap (λ (x : ℕ). x % 2 ^ w) (field n (j + w) (total ws)) ∙ mod-mod-pow (n / 2 ^ total ws) j w

-- the fields of the low part of a number are the number's
pub unpack_low : (ws : List ℕ) (hi lo : ℕ) → lo < 2 ^ total ws → unpack ws (hi * 2 ^ total ws + lo) ≡ unpack ws lo
unpack_low ws hi lo below =
    sym (unpack_mod ws 0 (hi * 2 ^ total ws + lo)) ∙ ap (λ (n : ℕ). unpack ws n) (rw (zero-add (total ws)) (low hi (total ws) below))

pub unpack_pack : (ws vs : List ℕ) → Fit ws vs → unpack ws (pack ws vs) ≡ vs
unpack_pack [] [] f = refl
unpack_pack [] (v ∷ vs) f = absurd f
unpack_pack (w ∷ ws) [] f = absurd f
unpack_pack (w ∷ ws) (v ∷ vs) f = ap₂ ◌∷◌ first (unpack_low ws v (pack ws vs) below ∙ unpack_pack ws vs f.1)
  where
    below : pack ws vs < 2 ^ total ws
    below = pack_lt ws vs f.1

    first : (v * 2 ^ total ws + pack ws vs) / 2 ^ total ws % 2 ^ w ≡ v
    first = rw (high v (total ws) below) (mod-eq_of_lt f.0)

pub pack_unpack_mod : (ws : List ℕ) (n : ℕ) → pack ws (unpack ws n) ≡ n % 2 ^ total ws
pack_unpack_mod [] n = sym (mod-one n)
pack_unpack_mod (w ∷ ws) n = rw (pack_unpack_mod ws n) (sym (mod-pow-add n w (total ws)))

pub pack_unpack : (ws : List ℕ) (n : ℕ) → n < 2 ^ total ws → pack ws (unpack ws n) ≡ n
pack_unpack ws n h = pack_unpack_mod ws n ∙ mod-eq_of_lt h
