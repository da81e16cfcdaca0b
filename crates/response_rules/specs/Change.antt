-- Document 01, "Change in size, file and listing": the change from baseline.
-- Assumes nothing.
use Rattle.std.specs.Prelude.{ℕ, ◌+◌, ◌-◌, ◌*◌, ◌/◌, Bool, true, false, not, Option, None, Some, ltb, eqb}
use Rattle.laws.specs.Choice.{both, either, pick}
use Rattle.response_rules.specs.Inputs.{Visit}
use Rattle.response_rules.specs.SumOfDiameters.{sum_of_diameters, all_measured}
use Rattle.response_rules.specs.declared.BaselineDisease.{BaselineDisease}
use Rattle.response_rules.specs.declared.Change.{Change}
use Rattle.response_rules.specs.declared.Change.TheVariants.{Increase, Decrease}

-- tenths of a percent with their sign; zero has none, and all is zero where there is no change
pub record Tenths : Type 0 where
  pub known : Bool
  pub negative : Bool
  pub tenths : ℕ

abbrev pub none : Tenths
none = record { known = false; negative = false; tenths = 0 }

abbrev pub signed : Bool → ℕ → Tenths
signed negative n = record { known = true; negative = negative; tenths = n }

abbrev pub change_values : Option Change → Tenths
change_values None = none
change_values (Some (Increase n)) = signed false n
change_values (Some (Decrease n)) = signed true n

-- the whole number nearest to n / d, the larger of two equally near
abbrev pub nearest : ℕ → ℕ → ℕ
nearest n d = (2 * n + d) / (2 * d)

-- 1000 × (sum − baseline sum) / baseline sum, from the difference either way, of which one is 0
abbrev pub rounded_change : ℕ → ℕ → ℕ
rounded_change baseline sum = nearest (1000 * ((sum - baseline) + (baseline - sum))) baseline

unfoldable pub change_between : ℕ → ℕ → Tenths
change_between baseline sum = signed (both (ltb sum baseline) (ltb 0 (rounded_change baseline sum))) (rounded_change baseline sum)

-- at a visit with targets, all measured; else none, and none where a baseline sum is 0, as no accepted baseline with targets has it
unfoldable pub change_of : BaselineDisease → Visit → Tenths
change_of b v =
    pick (either (eqb b.count 0) (either (not (all_measured b.count v.measured)) (eqb b.baselinesum 0))) none
    (change_between b.baselinesum (sum_of_diameters v.measured v.sizes))
