-- The examples are computed by the definitions. By its name this file is checked behind the theorems on the list of the records, so that a subject that
-- does not follow the list is refused there.
-- Assumes nothing.
use mathlib.Core.Path.{refl}
use Rattle.dates.specs.Calendar.{leap_year, days_in_month, date_exists, days_of_years, days_of_months, day_number}
use Rattle.dates.specs.Answers.{study_day_of}
use Rattle.records.specs.Refusals.{size_outside_limits, measured_outside_limits, not_zero_beyond_count, not_zero_unmeasured, without_disease, outside_limits, not_zero, refusals_of_read}
use Rattle.response_rules.specs.SumOfDiameters.{sum_of_diameters, baseline_sum, all_measured}
use Rattle.response_rules.specs.TargetAnswer.{all_disappeared, progression_from_nadir, partial_response, target_answer}
use Rattle.response_rules.specs.Nadir.{after_visit}
use Rattle.response_rules.specs.OverallAnswer.{overall_by}
use Rattle.response_rules.specs.VisitAnswers.{overall_answer}
use Rattle.response_rules.specs.Change.{change_between, change_of}
use Rattle.outcome_rules.specs.VisitLines.{line_of_visit}
use Rattle.outcome_rules.specs.LawfulLists.{measured_beyond, fits_by, fits}
use Rattle.outcome_rules.specs.Course.{overall_at}
use Rattle.outcome_rules.specs.Pfs.{gap_limit, early_death_limit, pfs}
use Rattle.outcome_rules.specs.BestResponse.{best}
use Rattle.outcome_rules.specs.Duration.{duration}
use Rattle.outcome_rules.specs.Settled.{settled_from, pfs_settled_by, best_settled_by, duration_settled_by, pfs_settled, best_settled, duration_settled}
use Rattle.outcome_rules.specs.Adding.{refusals_of_study_record, refusals_of_adding}
use Rattle.subject.specs.Range.{enrolment_in_range, follow_up_in_range, in_range}
use Rattle.subject.specs.OneVisitMore.{event_after, counting_after}
use Rattle.subject.specs.Opening.{blank_subject}
use Rattle.adding.specs.OneRecordMore.{overall_held, visit_added}
use Rattle.adding.specs.Refusals.{refusals_of_entry_held}
use Rattle.adding.specs.Promises.{refusal_of_adding_held}
use Rattle.outcome.specs.ReadingOutcome.{outcome_of, reading_of}
use Rattle.outcome.specs.Examples.{FirstRefusals, ReadAtTheEdges, RepliesAtTheEdges, ValuesOfCases}

pub first_refusals : FirstRefusals
unfolding leap_year days_in_month date_exists days_of_years days_of_months day_number study_day_of size_outside_limits measured_outside_limits not_zero_beyond_count not_zero_unmeasured without_disease outside_limits not_zero refusals_of_read sum_of_diameters all_measured all_disappeared progression_from_nadir partial_response target_answer after_visit overall_by overall_answer measured_beyond fits_by enrolment_in_range follow_up_in_range in_range event_after counting_after blank_subject overall_held visit_added refusals_of_entry_held refusal_of_adding_held reading_of
first_refusals =
    record {
      out_of_range = refl;
      without_date = refl;
      size_unmeasured = refl;
      second_baseline = refl;
      fitting = refl;
      kept_early = refl;
      kept_unmeasured = refl;
      kept_out_of_range = refl;
      next = refl;
      read_out_of_range = refl;
    }

pub read_at_the_edges : ReadAtTheEdges
unfolding leap_year days_in_month date_exists gap_limit early_death_limit settled_from pfs_settled_by best_settled_by duration_settled_by enrolment_in_range follow_up_in_range in_range outcome_of reading_of
read_at_the_edges =
    record {
      opened = refl;
      after_therapy = refl;
      after_death = refl;
      responded = refl;
      late = refl;
      complete = refl;
      progressed = refl;
      printed = refl;
      missing_alone = refl;
      missing_death = refl;
      missing92 = refl;
      missing93 = refl;
      late_death = refl;
    }

pub replies_at_the_edges : RepliesAtTheEdges
unfolding leap_year days_in_month date_exists days_of_years days_of_months day_number study_day_of size_outside_limits measured_outside_limits not_zero_beyond_count not_zero_unmeasured without_disease outside_limits not_zero refusals_of_read sum_of_diameters baseline_sum all_measured all_disappeared progression_from_nadir partial_response target_answer after_visit overall_by overall_answer measured_beyond fits_by fits overall_at gap_limit early_death_limit pfs best duration settled_from pfs_settled_by best_settled_by duration_settled_by pfs_settled best_settled duration_settled refusals_of_study_record refusals_of_adding change_between change_of line_of_visit
replies_at_the_edges = record { replied = refl; tenths = refl }

pub values_of_cases : ValuesOfCases
values_of_cases = record { out_of_range = refl; pfs_settled = refl; best_settled = refl; duration_settled = refl }
