-- Document 01, every section: its "and", "or", "first that applies", "every" and "some" as tests on Bool values.
-- Assumes nothing.
use Rattle.std.specs.Prelude.{ℕ, zero, suc, Bool, true, false}

abbrev pub both : Bool → Bool → Bool
both true b = b
both false b = false

abbrev pub either : Bool → Bool → Bool
either true b = true
either false b = b

abbrev pub pick : {A : Type 0} → Bool → A → A → A
pick true a b = a
pick false a b = b

-- f passes at every number below n
abbrev pub all : (ℕ → Bool) → ℕ → Bool
all f zero = true
all f (suc n) = both (f n) (all f n)

-- f passes at some number below n
abbrev pub some : (ℕ → Bool) → ℕ → Bool
some f zero = false
some f (suc n) = either (some f n) (f n)
