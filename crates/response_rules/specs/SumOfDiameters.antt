-- Document 01, "Visit responses": sums of sizes, and visits with every target measured. The targets of a subject are the first of the five
-- places, as many as the baseline counts; a count over 5 is taken as 5.
-- Assumes nothing.
use Rattle.std.specs.Prelude.{ℕ, zero, suc, ◌+◌, Bool, false, List, ltb, leb, get_or}
use Rattle.laws.specs.Choice.{either, pick, all}
use Rattle.records.specs.Refusals.{most_targets}

-- the sum of the sizes at the marked ones of the first n places
abbrev pub sum_where : (ℕ → Bool) → List ℕ → ℕ → ℕ
sum_where marked sizes zero = 0
sum_where marked sizes (suc n) = sum_where marked sizes n + pick (marked n) (get_or sizes n 0) 0

-- sum of diameters, RECIST 1.1's term: document 01's sum of the measured; a visit that fits its baseline has none beyond the count
unfoldable pub sum_of_diameters : List Bool → List ℕ → ℕ
sum_of_diameters measured sizes = sum_where (λ (i : ℕ). get_or measured i false) sizes most_targets

-- the baseline sum, by the target count and the sizes
unfoldable pub baseline_sum : ℕ → List ℕ → ℕ
baseline_sum count sizes = sum_where (λ (i : ℕ). ltb i count) sizes most_targets

unfoldable pub all_measured : ℕ → List Bool → Bool
all_measured count measured = all (λ (i : ℕ). either (leb count i) (get_or measured i false)) most_targets
