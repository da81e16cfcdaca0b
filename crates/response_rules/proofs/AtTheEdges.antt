-- Each example is computed by the definitions.
-- Assumes nothing.
use mathlib.Core.Path.{refl}
use Rattle.response_rules.specs.SumOfDiameters.{sum_of_diameters, baseline_sum, all_measured}
use Rattle.response_rules.specs.TargetAnswer.{all_disappeared, progression_from_nadir, partial_response, target_answer}
use Rattle.response_rules.specs.Nadir.{after_visit, nadir_of}
use Rattle.response_rules.specs.OverallAnswer.{overall_by}
use Rattle.response_rules.specs.Change.{change_between, change_of}
use Rattle.response_rules.specs.VisitAnswers.{overall_answer}
use Rattle.response_rules.specs.Examples.{Edges, OrdersAndPlaces, GridRows, OverallAlone, Nadirs, NadirsByTheTerm, WrongReadings, Printed, Changes, InMillimetres, TimesTen, WordsOfCases}

pub edges : Edges
unfolding sum_of_diameters baseline_sum all_measured all_disappeared progression_from_nadir partial_response target_answer after_visit
edges =
    record {
      sum70 = refl;
      sum71 = refl;
      sum701 = refl;
      sum24 = refl;
      sum25 = refl;
      grown_by49 = refl;
      grown_by50 = refl;
      sum59 = refl;
      sum60 = refl;
      sum599 = refl;
      node9 = refl;
      node10 = refl;
      node99 = refl;
      one_measured = refl;
    }

pub orders_and_places : OrdersAndPlaces
unfolding sum_of_diameters baseline_sum all_measured all_disappeared progression_from_nadir partial_response target_answer after_visit
orders_and_places =
    record {
      no_targets = refl;
      complete_first = refl;
      other_of1 = refl;
      five70 = refl;
      five71 = refl;
      fifth_unmeasured = refl;
      fifth_left = refl;
      within_count = refl;
      measured_alone = refl;
      evaluables = refl;
      seen_again = refl;
    }

pub grid_rows : GridRows
unfolding overall_by
grid_rows = record { over_cr = refl; over_na = refl; over_pr = refl; over_sd = refl; over_ne = refl }

pub overall_alone : OverallAlone
unfolding sum_of_diameters baseline_sum all_measured all_disappeared progression_from_nadir partial_response target_answer after_visit overall_by overall_answer
overall_alone = record { new_lesion = refl; nontarget_pd = refl; without_nontarget = refl; missing = refl; missing_new_lesion = refl }

pub nadirs : Nadirs
unfolding sum_of_diameters baseline_sum all_measured all_disappeared progression_from_nadir partial_response target_answer after_visit
nadirs =
    record {
      least_of_all = refl;
      before_incomplete = refl;
      baseline_least = refl;
      lesser = refl;
      larger = refl;
      incomplete = refl;
    }

pub nadirs_by_the_term : NadirsByTheTerm
unfolding sum_of_diameters baseline_sum all_measured nadir_of
nadirs_by_the_term =
    record {
      no_visit = refl;
      none_complete = refl;
      baseline_least = refl;
      last_least = refl;
      first_least = refl;
      between_least = refl;
      incomplete_between = refl;
      incomplete_first = refl;
    }

pub wrong_readings : WrongReadings
unfolding sum_of_diameters baseline_sum all_measured all_disappeared progression_from_nadir partial_response target_answer after_visit overall_by overall_answer
wrong_readings = record { against_nadir = refl; progression_first = refl; incomplete_sum = refl; one_disappeared = refl }

pub printed_visits : Printed
unfolding sum_of_diameters baseline_sum all_measured all_disappeared progression_from_nadir partial_response target_answer after_visit overall_by overall_answer change_between change_of
printed_visits =
    record {
      target43 = refl;
      overall43 = refl;
      change43 = refl;
      target85 = refl;
      overall85 = refl;
      change85 = refl;
      target127 = refl;
      overall127 = refl;
      change127 = refl;
    }

pub changes : Changes
unfolding sum_of_diameters baseline_sum all_measured change_between change_of
changes =
    record {
      one_target = refl;
      no_targets = refl;
      one_unmeasured = refl;
      upwards = refl;
      downwards = refl;
      half = refl;
      less_than_half = refl;
      barely_less = refl;
    }

pub in_millimetres : InMillimetres
unfolding sum_of_diameters baseline_sum all_measured all_disappeared progression_from_nadir partial_response target_answer after_visit
in_millimetres = record { node9 = refl; node10 = refl; sum24 = refl; sum25 = refl; sum70 = refl; sum71 = refl }

pub times_ten_lem : TimesTen
unfolding baseline_sum
times_ten_lem = record { baseline = refl; missing = refl; visit = refl; new_lesion = refl }

pub words_of_cases : WordsOfCases
words_of_cases = record { targets = refl; nontargets = refl; overalls = refl; changes = refl }
