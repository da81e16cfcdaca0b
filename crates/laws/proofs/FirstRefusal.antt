-- The first refusal of a list that meets: which it is, and when there is none.
-- Assumes nothing.
use mathlib.Core.Path.{◌≡◌, refl}
use mathlib.Core.Bool.{Bool, true, false}
use mathlib.Core.List.{List, [], ◌∷◌, ◌++◌}
use mathlib.Core.Logic.{◌↔◌}
use Prim.Native.Nat.{ℕ}
use native.Mathlib.Omega.{arith}
use lib.Dec.{eqb}
use borrow.Author.Tests.{eqb-true, eqb-false, ne_eqb}
use Rattle.laws.specs.Choice.{pick}
use Rattle.laws.specs.Refusals.{Refusal, first, NoneMeets, Stops, here, later, Each, Numbered, FirstLaws}
use Rattle.laws.proofs.Tests.{never}

pub none_meets : (rs : List Refusal) → Numbered rs → (first rs ≡ 0) ↔ NoneMeets rs
none_meets [] n = (λ e. tt, λ h. refl)
none_meets (r ∷ rs) n = go r.meets (none_meets rs n.1)
  where
    go : (m : Bool) → (first rs ≡ 0) ↔ NoneMeets rs → (pick m r.number (first rs) ≡ 0) ↔ ((m ≡ false) × NoneMeets rs)
    go true rest = (λ e. absurd (let w : ⊥ = omega (arith, n.0) in w), λ h. absurd (never h.0))
    go false rest = (λ e. (refl, rest.0 e), λ h. rest.1 h.1)

pub one_given : (rs : List Refusal) → (first rs ≡ 0 → ⊥) → Stops rs (first rs)
one_given [] n = absurd (n refl)
one_given (r ∷ rs) n = go r.meets refl n (one_given rs)
  where
    go : (m : Bool) → r.meets ≡ m → (pick m r.number (first rs) ≡ 0 → ⊥) → ((first rs ≡ 0 → ⊥) → Stops rs (first rs)) →
        Stops (r ∷ rs) (pick m r.number (first rs))
    go true q n rest = here q
    go false q n rest = later q (rest n)

pub first_stops : {rs : List Refusal} {n : ℕ} → Stops rs n → first rs ≡ n
first_stops (here q) = rw q
first_stops (later q s) = rw q (first_stops s)

pub among : (P : ℕ → Type 0) (rs : List Refusal) → P 0 → Each P rs → P (first rs)
among P [] z e = z
among P (r ∷ rs) z e = go r.meets (among P rs z e.1)
  where
    go : (m : Bool) → P (first rs) → P (pick m r.number (first rs))
    go true p = e.0
    go false p = p

pub each_append : (P : ℕ → Type 0) (rs qs : List Refusal) → Each P rs → Each P qs → Each P (rs ++ qs)
each_append P [] qs e f = f
each_append P (r ∷ rs) qs e f = (e.0, each_append P rs qs e.1 f)

pub first_append : (rs qs : List Refusal) → Numbered rs → first (rs ++ qs) ≡ pick (eqb (first rs) 0) (first qs) (first rs)
first_append [] qs n = refl
first_append (r ∷ rs) qs n = go r.meets (first_append rs qs n.1)
  where
    go : (m : Bool) → first (rs ++ qs) ≡ pick (eqb (first rs) 0) (first qs) (first rs) →
        pick m r.number (first (rs ++ qs)) ≡ pick (eqb (pick m r.number (first rs)) 0) (first qs) (pick m r.number (first rs))
    go true e = rw (ne_eqb r.number 0 (λ z. let w : ⊥ = omega (arith, n.0) in w))
    go false e = e

-- no refusal of two lists: none of either
pub none_of_both : (rs qs : List Refusal) → Numbered rs → (first (rs ++ qs) ≡ 0) ↔ ((first rs ≡ 0) × (first qs ≡ 0))
none_of_both rs qs n = rw (first_append rs qs n) (go (eqb (first rs) 0) refl)
  where
    go : (x : Bool) → eqb (first rs) 0 ≡ x → (pick x (first qs) (first rs) ≡ 0) ↔ ((first rs ≡ 0) × (first qs ≡ 0))
    go true q = (λ e. (eqb-true (first rs) 0 q, e), λ e. e.1)
    go false q = (λ e. absurd (eqb-false (first rs) 0 q e), λ e. e.0)

pub first_laws : FirstLaws
first_laws = record { none = none_meets; given = one_given; stops = λ rs n s. first_stops s; among = among; append = first_append }
