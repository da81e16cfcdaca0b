-- Document 01, "Dates and records": fields bit-packed, most significant first. A layout is the list of the fields' widths in bits.
-- Assumes nothing.
use Rattle.std.specs.Prelude.{ℕ, zero, suc, ◌+◌, ◌-◌, ◌*◌, ◌/◌, ◌%◌, ◌^◌, ◌<◌, List, [], ◌∷◌, leb, get_or}
use Rattle.laws.specs.Choice.{pick}

-- the bits of a layout
abbrev pub total : List ℕ → ℕ
total [] = 0
total (w ∷ ws) = w + total ws

-- the fields' values as one number
abbrev pub pack : List ℕ → List ℕ → ℕ
pack [] vs = 0
pack (w ∷ ws) [] = 0
pack (w ∷ ws) (v ∷ vs) = v * 2 ^ total ws + pack ws vs

-- the values of a number's fields
abbrev pub unpack : List ℕ → ℕ → List ℕ
unpack [] n = []
unpack (w ∷ ws) n = n / 2 ^ total ws % 2 ^ w ∷ unpack ws n

-- one value for each field, with no more bits than the field
abbrev pub Fit : List ℕ → List ℕ → Type 0
Fit [] [] = Unit {0}
Fit [] (v ∷ vs) = ⊥
Fit (w ∷ ws) [] = ⊥
Fit (w ∷ ws) (v ∷ vs) = (v < 2 ^ w) × Fit ws vs

-- the layout of k bytes
abbrev pub bytes : ℕ → List ℕ
bytes zero = []
bytes (suc k) = 8 ∷ bytes k

-- the number of the first k bytes of a list
abbrev pub leading : List ℕ → ℕ → ℕ
leading s zero = 0
leading s (suc k) = leading s k * 256 + get_or s k 0

-- what a list of `u8` is
abbrev pub AreBytes : List ℕ → Type 0
AreBytes s = (k : ℕ) → get_or s k 0 < 256

-- byte j before the end of the first k bytes; 0 before the first byte
abbrev pub before : List ℕ → ℕ → ℕ → ℕ
before s k j = pick (leb j k) (get_or s (k - j) 0) 0
