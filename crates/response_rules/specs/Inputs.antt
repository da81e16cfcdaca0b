-- Document 01, "Visit responses": what the rules take, a baseline and a visit without their dates.
-- Assumes nothing.
use Rattle.std.specs.Prelude.{ℕ, Bool, List}
use Rattle.records.specs.declared.BaselineEntry.{BaselineEntry}
use Rattle.records.specs.declared.Status.{Status}
use Rattle.records.specs.declared.VisitEntry.{VisitEntry}
use Rattle.response_rules.specs.SumOfDiameters.{baseline_sum}
use Rattle.response_rules.specs.declared.BaselineDisease.{BaselineDisease}

-- what a baseline with these nodes and sizes leaves for judging visits
abbrev pub disease_of : BaselineEntry → List Bool → List ℕ → BaselineDisease
disease_of b nodes sizes = record { assessed = b.assessed; count = b.count; nodes = nodes; baselinesum = baseline_sum b.count sizes }

-- what a visit has for the rules, as one value
pub record Visit : Type 0 where
  pub status : Status
  pub new_lesion : Bool
  pub measured : List Bool
  pub sizes : List ℕ

abbrev pub visit_of : VisitEntry → List Bool → List ℕ → Visit
visit_of v measured sizes = record { status = v.status; new_lesion = v.newlesion; measured = measured; sizes = sizes }
