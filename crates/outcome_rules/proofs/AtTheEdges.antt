-- The examples are computed by the definitions. By its name this file is checked first, so that a wrong definition is refused at an example.
-- Assumes nothing.
use mathlib.Core.Path.{refl}
use Rattle.dates.specs.Calendar.{leap_year, days_in_month, date_exists, days_of_years, days_of_months, day_number}
use Rattle.dates.specs.Answers.{study_day_of}
use Rattle.records.specs.Refusals.{size_outside_limits, measured_outside_limits, not_zero_beyond_count, not_zero_unmeasured, without_disease, outside_limits, not_zero, refusals_of_read}
use Rattle.response_rules.specs.SumOfDiameters.{sum_of_diameters, baseline_sum, all_measured}
use Rattle.response_rules.specs.TargetAnswer.{all_disappeared, progression_from_nadir, partial_response, target_answer}
use Rattle.response_rules.specs.Nadir.{after_visit}
use Rattle.response_rules.specs.OverallAnswer.{overall_by}
use Rattle.response_rules.specs.VisitAnswers.{overall_answer}
use Rattle.response_rules.specs.Change.{change_between, change_of}
use Rattle.outcome_rules.specs.StudyRecords.{entry_passes}
use Rattle.outcome_rules.specs.LawfulLists.{measured_beyond, fits_by, fits}
use Rattle.outcome_rules.specs.Course.{overall_at}
use Rattle.outcome_rules.specs.Pfs.{gap_limit, early_death_limit, pfs}
use Rattle.outcome_rules.specs.BestResponse.{best}
use Rattle.outcome_rules.specs.Duration.{duration}
use Rattle.outcome_rules.specs.VisitLines.{line_of_visit}
use Rattle.outcome_rules.specs.Settled.{settled_from, pfs_settled_by, best_settled_by, duration_settled_by, pfs_settled, best_settled, duration_settled}
use Rattle.outcome_rules.specs.Adding.{refusals_of_study_record, refusals_of_opening, refusals_of_adding}
use Rattle.outcome_rules.specs.StarredExamples.{starred, Hold}
use Rattle.outcome_rules.specs.FurtherExamples.{WordsOfCases, CoursesOfRecords, further, PrintedLines, FieldsThatPass}
use Rattle.outcome_rules.specs.AddingExamples.{Unlawful, FittingStatuses, OnStudyDays, TimesTen, FirstRefusals, RepliedOfVisits}

pub examples_hold : Hold starred × Hold further
unfolding starred further entry_passes size_outside_limits measured_outside_limits not_zero_beyond_count not_zero_unmeasured without_disease outside_limits not_zero measured_beyond fits_by fits sum_of_diameters baseline_sum all_measured all_disappeared progression_from_nadir partial_response target_answer after_visit overall_by overall_answer overall_at gap_limit early_death_limit pfs best duration settled_from pfs_settled_by best_settled_by duration_settled_by pfs_settled best_settled duration_settled
examples_hold = (record { lists = refl; visits = refl; answers = refl }, record { lists = refl; visits = refl; answers = refl })

pub words_of_cases : WordsOfCases
words_of_cases = record { days = refl; statuses = refl; pfs = refl; best = refl; judged = refl; durations = refl }

pub courses_of_records : CoursesOfRecords
unfolding sum_of_diameters baseline_sum all_measured all_disappeared progression_from_nadir partial_response target_answer after_visit overall_by overall_answer overall_at
courses_of_records =
    record {
      each_kind = refl;
      randomisation = refl;
      latest = refl;
      latest_of_course = refl;
      after_therapy = refl;
      without_therapy = refl;
    }

pub unlawful : Unlawful
unfolding measured_beyond fits_by fits
unlawful =
    record {
      nothing = refl;
      visit_first = refl;
      therapy_first = refl;
      death_first = refl;
      second_baseline = refl;
      after_death = refl;
      early_therapy = refl;
      early_death = refl;
      visit_on_latest = refl;
      visit_on_earlier_latest = refl;
      visit_on_day1 = refl;
      beyond_count = refl;
      third_beyond_count = refl;
      fifth_beyond_count = refl;
      status_without_lesions = refl;
      lesions_without_status = refl;
    }

pub fitting_statuses : FittingStatuses
unfolding measured_beyond fits_by fits
fitting_statuses = record { with_lesions = refl; without_lesions = refl }

pub printed_lines : PrintedLines
unfolding line_of_visit overall_at sum_of_diameters baseline_sum all_measured all_disappeared progression_from_nadir partial_response target_answer after_visit overall_by overall_answer change_between change_of
printed_lines = record { in_order = refl; after_progression = refl }

pub fields_that_pass : FieldsThatPass
unfolding entry_passes size_outside_limits measured_outside_limits not_zero_beyond_count not_zero_unmeasured without_disease outside_limits not_zero
fields_that_pass =
    record {
      largest = refl;
      too_large = refl;
      size_unmeasured = refl;
      four_sizes = refl;
      four_marks = refl;
      every_record = refl;
      without_disease = refl;
    }

pub on_study_days_lem : OnStudyDays
unfolding date_exists days_in_month leap_year days_of_years days_of_months day_number study_day_of
on_study_days_lem =
    record {
      each_kind = refl;
      without_lesions = refl;
    }

pub times_ten_lem : TimesTen
times_ten_lem = record { each_kind = refl; any_unit = refl }

pub first_refusals : FirstRefusals
unfolding refusals_of_opening refusals_of_adding refusals_of_study_record refusals_of_read date_exists days_in_month leap_year days_of_years days_of_months day_number study_day_of measured_beyond fits_by fits size_outside_limits measured_outside_limits not_zero_beyond_count not_zero_unmeasured without_disease outside_limits not_zero
first_refusals =
    record {
      opens = refl;
      opens_missing = refl;
      opens_without_date = refl;
      opens_with_large_visit = refl;
      opens_without_disease = refl;
      opens_missing_with_count = refl;
      opens_with_visit = refl;
      opens_with_therapy = refl;
      without_date = refl;
      large_size = refl;
      size_unmeasured = refl;
      second_baseline = refl;
      after_death = refl;
      day_before = refl;
      therapy_on_day1 = refl;
      visit_on_day1 = refl;
      therapy_on_latest = refl;
      death_on_latest = refl;
      death_before_latest = refl;
      visit_on_latest = refl;
      misfit_on_latest = refl;
      status_na = refl;
      beyond_count = refl;
      fitting = refl;
      after_therapy = refl;
      after_progression = refl;
      calls = refl;
    }

pub replied_of_visits : RepliedOfVisits
unfolding refusals_of_adding refusals_of_study_record refusals_of_read date_exists days_in_month leap_year days_of_years days_of_months day_number study_day_of measured_beyond fits_by fits size_outside_limits measured_outside_limits not_zero_beyond_count not_zero_unmeasured without_disease outside_limits not_zero line_of_visit overall_at sum_of_diameters baseline_sum all_measured all_disappeared progression_from_nadir partial_response target_answer after_visit overall_by overall_answer change_between change_of
replied_of_visits =
    record {
      visit = refl;
      after_therapy = refl;
      after_progression = refl;
      second = refl;
      third = refl;
      therapy = refl;
      death = refl;
      again = refl;
      misfit = refl;
    }
