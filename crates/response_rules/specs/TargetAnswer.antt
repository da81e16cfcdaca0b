-- Document 01, "Visit responses", and document 02, request 1, for normal nodes: the target answer.
-- Assumes nothing.
use Rattle.std.specs.Prelude.{ℕ, ◌+◌, ◌*◌, Bool, false, not, List, ltb, leb, eqb, get_or}
use Rattle.laws.specs.Choice.{both, either, pick, all}
use Rattle.records.specs.Refusals.{most_targets}
use Rattle.response_rules.specs.Words.{Word, CR, PR, SD, PD, NE, NA}
use Rattle.response_rules.specs.Inputs.{Visit}
use Rattle.response_rules.specs.SumOfDiameters.{sum_of_diameters, all_measured}
use Rattle.response_rules.specs.declared.BaselineDisease.{BaselineDisease}
use Rattle.response_rules.specs.declared.Earlier.{Earlier}

-- progression: fifths of the nadir
abbrev pub progression_fifths : ℕ
progression_fifths = 6

-- a partial response: tenths of the baseline sum, which is 30 % less
abbrev pub partial_response_tenths : ℕ
partial_response_tenths = 7

-- 10 × sum at most 7 × baseline sum
unfoldable pub partial_response : ℕ → ℕ → Bool
partial_response baseline sum = leb (10 * sum) (partial_response_tenths * baseline)

-- by sizes of which a millimetre has so many units
module _ (unit : ℕ) where
  -- the short axis below which a node is normal, a term of document 02: 10 mm
  abbrev pub normal_below : ℕ
  normal_below = 10 * unit

  -- progression: 5 mm above the nadir
  abbrev pub progression_increase : ℕ
  progression_increase = 5 * unit

  -- disappeared, a term of our own for both halves of CR: a size of 0, or a normal node
  abbrev pub disappeared : Bool → ℕ → Bool
  disappeared node size = either (eqb size 0) (both node (ltb size normal_below))

  -- every node normal, every other 0
  unfoldable pub all_disappeared : ℕ → List Bool → List ℕ → Bool
  all_disappeared count nodes sizes = all (λ (i : ℕ). either (leb count i) (disappeared (get_or nodes i false) (get_or sizes i 0))) most_targets

  -- the sum is at least nadir + 5 mm, and 5 × sum is at least 6 × nadir
  unfoldable pub progression_from_nadir : ℕ → ℕ → Bool
  progression_from_nadir nadir sum = both (leb (nadir + progression_increase) sum) (leb (progression_fifths * nadir) (5 * sum))

  -- after what earlier visits leave, the first that applies
  unfoldable pub target_answer : BaselineDisease → Earlier → Visit → Word
  target_answer b earlier v =
      pick (eqb b.count 0) NA
      (pick (both (all_measured b.count v.measured) (all_disappeared b.count b.nodes v.sizes)) CR
      (pick (progression_from_nadir earlier.nadir (sum_of_diameters v.measured v.sizes)) PD
      (pick (not (all_measured b.count v.measured)) NE
      (pick (partial_response b.baselinesum (sum_of_diameters v.measured v.sizes)) PR
      SD))))
