-- A layout in two parts: its number is the first part's above the second's, and its fields are those of both parts.
-- Assumes nothing.
use mathlib.Core.Path.{◌≡◌, refl, sym}
use mathlib.Core.List.{List, [], ◌∷◌, ◌++◌}
use Prim.Native.Nat.{ℕ, ◌+◌, ◌*◌, ◌/◌, ◌^◌, ◌<◌}
use native.Mathlib.Nat.{zero-mul, zero-add, add_assoc, add_comm, mul_assoc, add-mul}
use lib.Pow.{pow-add, shr-shr, high}
use Rattle.laws.specs.Layout.{total, pack, unpack, Fit}
use Rattle.laws.proofs.PackUnpack.{unpack_low}

total_append : (ws xs : List ℕ) → total (ws ++ xs) ≡ total ws + total xs
total_append [] xs = sym (zero-add (total xs))
total_append (w ∷ ws) xs = rw (total_append ws xs) (sym (add_assoc w (total ws) (total xs)))

pub pack_append : (ws xs vs us : List ℕ) → Fit ws vs → pack (ws ++ xs) (vs ++ us) ≡ pack ws vs * 2 ^ total xs + pack xs us
pack_append [] xs [] us f = rw (zero-mul (2 ^ total xs), zero-add (pack xs us))
pack_append [] xs (v ∷ vs) us f = absurd f
pack_append (w ∷ ws) xs [] us f = absurd f
pack_append (w ∷ ws) xs (v ∷ vs) us f =
    rw (total_append ws xs, pow-add 2 (total ws) (total xs), pack_append ws xs vs us f.1, add-mul (v * 2 ^ total ws) (pack ws vs) (2 ^ total xs), mul_assoc v (2 ^ total ws) (2 ^ total xs), add_assoc)

pub unpack_append : (ws xs : List ℕ) (n : ℕ) → unpack (ws ++ xs) n ≡ unpack ws (n / 2 ^ total xs) ++ unpack xs n
unpack_append [] xs n = refl
unpack_append (w ∷ ws) xs n =
    rw (total_append ws xs, add_comm (total ws) (total xs), ← shr-shr n (total xs) (total ws), unpack_append ws xs n)

-- a number made of two parts has the fields of both
pub unpack_parts : (ws xs : List ℕ) (hi lo : ℕ) → lo < 2 ^ total xs →
    unpack (ws ++ xs) (hi * 2 ^ total xs + lo) ≡ unpack ws hi ++ unpack xs lo
unpack_parts ws xs hi lo h = rw (unpack_append ws xs (hi * 2 ^ total xs + lo), high hi (total xs) h, unpack_low xs hi lo h)

pub fit_append : (ws xs vs us : List ℕ) → Fit ws vs → Fit xs us → Fit (ws ++ xs) (vs ++ us)
fit_append [] xs [] us f g = g
fit_append [] xs (v ∷ vs) us f g = absurd f
fit_append (w ∷ ws) xs [] us f g = absurd f
fit_append (w ∷ ws) xs (v ∷ vs) us f g = (f.0, fit_append ws xs vs us f.1 g)
