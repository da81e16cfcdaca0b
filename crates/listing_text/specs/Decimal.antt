-- Document 01, "Change in size, file and listing": numbers in decimal, in ASCII.
-- Assumes nothing.
use Rattle.std.specs.Prelude.{ℕ, zero, suc, ◌+◌, ◌-◌, ◌*◌, ◌/◌, ◌%◌, List, [], ◌∷◌, ◌++◌, ltb}
use Rattle.laws.specs.Choice.{pick}

-- the digit 0 is 48
abbrev pub digit : ℕ → ℕ
digit n = 48 + n

-- at most k digits of n, with no zero in front
abbrev pub digits : ℕ → ℕ → List ℕ
digits zero n = []
digits (suc k) n = pick (ltb n 10) (digit n ∷ []) (digits k (n / 10) ++ (digit (n % 10) ∷ []))

-- 20 digits are enough for every number that is listed
unfoldable pub decimal : ℕ → List ℕ
decimal n = digits 20 n

-- the number that digits stand for, read from the left behind those read so far
abbrev pub decimal_value : ℕ → List ℕ → ℕ
decimal_value sofar [] = sofar
decimal_value sofar (d ∷ ds) = decimal_value (10 * sofar + (d - 48)) ds
