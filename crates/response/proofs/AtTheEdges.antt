-- The examples are computed by the definitions. By its name this file is checked first, so that a wrong definition is refused at an example.
-- Assumes nothing.
use mathlib.Core.Path.{refl}
use Rattle.response_rules.specs.SumOfDiameters.{sum_of_diameters, baseline_sum, all_measured}
use Rattle.response_rules.specs.TargetAnswer.{all_disappeared, progression_from_nadir, partial_response, target_answer}
use Rattle.response_rules.specs.Nadir.{after_visit}
use Rattle.response_rules.specs.OverallAnswer.{overall_by}
use Rattle.response_rules.specs.Change.{change_between, change_of}
use Rattle.response_rules.specs.VisitAnswers.{overall_answer}
use Rattle.response.specs.Examples.{JudgedVisits}

pub judged_visits : JudgedVisits
unfolding sum_of_diameters baseline_sum all_measured all_disappeared progression_from_nadir partial_response target_answer after_visit overall_by overall_answer change_between change_of
judged_visits =
    record {
      day43 = record { target = refl; overall = refl; change = refl; after = refl };
      day85 = record { target = refl; overall = refl; change = refl; after = refl };
      day127 = record { target = refl; overall = refl; change = refl; after = refl };
      node_unmeasured = record { target = refl; overall = refl; change = refl; after = refl };
      other_left = record { target = refl; overall = refl; change = refl; after = refl };
    }
