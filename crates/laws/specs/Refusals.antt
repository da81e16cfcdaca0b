-- Document 01, "Where a call stops": the refusals of a place as one list in its order, each a number and the condition that it meets on. The first that
-- meets is answered.
-- Assumes nothing.
use Rattle.std.specs.Prelude.{◌≡◌, Bool, true, false, List, [], ◌∷◌, ◌++◌, ◌↔◌, ℕ, ◌≤◌, eqb}
use Rattle.laws.specs.Choice.{pick}

pub record Refusal : Type 0 where
  pub number : ℕ
  pub meets : Bool

infix 70 ◌when◌
abbrev pub ◌when◌ : ℕ → Bool → Refusal
◌when◌ n condition = record { number = n; meets = condition }

-- the number of the first that meets; 0, which no refusal has, where none does
abbrev pub first : List Refusal → ℕ
first [] = 0
first (r ∷ rs) = pick r.meets r.number (first rs)

abbrev pub NoneMeets : List Refusal → Type 0
NoneMeets [] = Unit {0}
NoneMeets (r ∷ rs) = (r.meets ≡ false) × NoneMeets rs

-- the refusal with this number meets, and none before it does
pub data Stops : List Refusal → ℕ → Type 0 where
  here : {r : Refusal} {rs : List Refusal} → r.meets ≡ true → Stops (r ∷ rs) r.number
  later : {r : Refusal} {rs : List Refusal} {n : ℕ} → r.meets ≡ false → Stops rs n → Stops (r ∷ rs) n

-- of the number of each
abbrev pub Each : (ℕ → Type 0) → List Refusal → Type 0
Each P [] = Unit {0}
Each P (r ∷ rs) = P r.number × Each P rs

-- no number is 0
abbrev pub Numbered : List Refusal → Type 0
Numbered = Each (λ (n : ℕ). 1 ≤ n)

-- proved in proofs/FirstRefusal.antt
pub record FirstLaws : Type 1 where
  -- none exactly when no condition holds
  pub none : (rs : List Refusal) → Numbered rs → (first rs ≡ 0) ↔ NoneMeets rs
  -- the one that it gives holds, and none before it does; and that one it gives
  pub given : (rs : List Refusal) → (first rs ≡ 0 → ⊥) → Stops rs (first rs)
  pub stops : (rs : List Refusal) (n : ℕ) → Stops rs n → first rs ≡ n
  -- which numbers it can give: what holds of 0 and of the number of each holds of it
  pub among : (P : ℕ → Type 0) (rs : List Refusal) → P 0 → Each P rs → P (first rs)
  -- of two lists, the first one's where it gives one
  pub append : (rs qs : List Refusal) → Numbered rs → first (rs ++ qs) ≡ pick (eqb (first rs) 0) (first qs) (first rs)
