-- A list by its elements.
-- Assumes nothing.
use mathlib.Core.Path.{◌≡◌, refl, ◌∙◌, ap}
use mathlib.Core.List.{List, [], ◌∷◌}
use Prim.Native.Nat.{ℕ, zero, suc}
use lib.ListN.{get_or, length}

-- k elements of a list from a place on
abbrev pub part : {A : Type 0} → A → List A → ℕ → ℕ → List A
part d s i zero = []
part d s i (suc k) = get_or s i d ∷ part d s (suc i) k

part_shift : {A : Type 0} (d x : A) (s : List A) (i k : ℕ) → part d (x ∷ s) (suc i) k ≡ part d s i k
part_shift d x s i zero = refl
part_shift d x s i (suc k) = ap (λ (l : List _). get_or s i d ∷ l) (part_shift d x s (suc i) k)

part_whole : {A : Type 0} (d : A) (s : List A) → part d s 0 (length s) ≡ s
part_whole d [] = refl
part_whole d (x ∷ s) = ap (λ (l : List _). x ∷ l) (part_shift d x s 0 (length s) ∙ part_whole d s)

-- a list of n elements by its elements
pub whole : {A : Type 0} (d : A) (s : List A) (n : ℕ) → length s ≡ n → part d s 0 n ≡ s
whole d s n e = rw (← e) (part_whole d s)
