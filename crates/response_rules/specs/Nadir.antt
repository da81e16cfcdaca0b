-- Document 01, "Visit responses": what earlier visits leave for judging the next one, and the nadir. Lists of visits have the newest first.
-- Assumes nothing.
use Rattle.std.specs.Prelude.{ℕ, min, List, [], ◌∷◌}
use Rattle.laws.specs.Choice.{pick}
use Rattle.response_rules.specs.SumOfDiameters.{sum_of_diameters, all_measured}
use Rattle.response_rules.specs.Inputs.{Visit}
use Rattle.response_rules.specs.declared.BaselineDisease.{BaselineDisease}
use Rattle.response_rules.specs.declared.Earlier.{Earlier}

-- what is left after one visit more: its sum, where every target was measured, and the nadir before it, whichever is less
unfoldable pub after_visit : BaselineDisease → Earlier → Visit → Earlier
after_visit b earlier v =
    record { nadir = pick (all_measured b.count v.measured) (min (sum_of_diameters v.measured v.sizes) earlier.nadir) earlier.nadir }

-- what earlier visits leave, from the baseline on, each visit after those before it; later therapy or progression takes no visit from the list
abbrev pub earlier_of : BaselineDisease → List Visit → Earlier
earlier_of b [] = record { nadir = b.baselinesum }
earlier_of b (v ∷ earlier) = after_visit b (earlier_of b earlier) v

-- the sums of the visits with every target measured
abbrev pub complete_sums : ℕ → List Visit → List ℕ
complete_sums count [] = []
complete_sums count (v ∷ vs) =
    pick (all_measured count v.measured) (sum_of_diameters v.measured v.sizes ∷ complete_sums count vs) (complete_sums count vs)

abbrev pub least_of : ℕ → List ℕ → ℕ
least_of n [] = n
least_of n (m ∷ ms) = min m (least_of n ms)

-- nadir, a term of document 01: the least of the baseline sum and the sums of all earlier visits with every target measured. That it is what is left is a
-- law (`NadirLaws`).
unfoldable pub nadir_of : BaselineDisease → List Visit → ℕ
nadir_of b earlier = least_of b.baselinesum (complete_sums b.count earlier)
