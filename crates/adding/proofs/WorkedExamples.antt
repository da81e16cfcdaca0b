-- The examples are computed by the definitions. By its name this file is checked behind the theorems on the list of the records, so that a subject that
-- does not follow the list is refused there.
-- Assumes nothing.
use mathlib.Core.Path.{refl}
use Rattle.dates.specs.Calendar.{leap_year, days_in_month, date_exists, days_of_years, days_of_months, day_number}
use Rattle.dates.specs.Answers.{study_day_of}
use Rattle.records.specs.Refusals.{size_outside_limits, measured_outside_limits, not_zero_beyond_count, not_zero_unmeasured, without_disease, outside_limits, not_zero, refusals_of_read}
use Rattle.codec.specs.Bytes.{bytes_number}
use Rattle.codec.specs.Reading.{status_from, baseline_in, visit_in, spare_in, raw_in, refusals_of_record_number, refusals_of_bytes, record_of_bytes}
use Rattle.response_rules.specs.SumOfDiameters.{sum_of_diameters, all_measured}
use Rattle.response_rules.specs.TargetAnswer.{all_disappeared, progression_from_nadir, partial_response, target_answer}
use Rattle.response_rules.specs.Nadir.{after_visit}
use Rattle.response_rules.specs.OverallAnswer.{overall_by}
use Rattle.response_rules.specs.VisitAnswers.{overall_answer}
use Rattle.response_rules.specs.Change.{change_between, change_of}
use Rattle.outcome_rules.specs.LawfulLists.{measured_beyond, fits_by}
use Rattle.subject.specs.Range.{enrolment_in_range, follow_up_in_range, in_range}
use Rattle.subject.specs.OneVisitMore.{event_after, counting_after}
use Rattle.adding.specs.OneRecordMore.{overall_held, visit_added, therapy_added, death_added}
use Rattle.adding.specs.Refusals.{refusals_of_entry_held}
use Rattle.adding.specs.Promises.{refusal_of_adding_held, refusal_of_adding_bytes_held}
use Rattle.adding.specs.Examples.{NumbersOfCases, FirstRefusals, AddedAtTheEdges, LinesAtTheEdges, OrderByValue, OrderFromBytes, BesideNumbers}

pub numbers_of_cases : NumbersOfCases
numbers_of_cases = record { additions = refl; responses = refl }

pub first_refusals : FirstRefusals
unfolding leap_year days_in_month date_exists days_of_years days_of_months day_number study_day_of measured_beyond fits_by refusals_of_entry_held
first_refusals =
    record {
      fitting = refl;
      second_baseline = refl;
      after_death = refl;
      visit_on_latest = refl;
      therapy_before = refl;
      therapy_on_latest = refl;
      death_before = refl;
      death_on_latest = refl;
      before_randomisation = refl;
      misfit_on_latest = refl;
      status_na = refl;
      status_without_lesions = refl;
      beyond_count = refl;
    }

pub added_at_the_edges : AddedAtTheEdges
unfolding leap_year days_in_month date_exists days_of_years days_of_months day_number study_day_of sum_of_diameters all_measured all_disappeared progression_from_nadir partial_response target_answer after_visit overall_by overall_answer event_after counting_after overall_held visit_added therapy_added death_added
added_at_the_edges =
    record {
      visit = refl;
      therapy = refl;
      death = refl;
      after_therapy = refl;
      after_progression = refl;
      death_after_therapy = refl;
    }

pub lines_at_the_edges : LinesAtTheEdges
unfolding leap_year days_in_month date_exists days_of_years days_of_months day_number study_day_of sum_of_diameters all_measured all_disappeared progression_from_nadir partial_response target_answer overall_by overall_answer change_between change_of overall_held
lines_at_the_edges = record { visit = refl; therapy = refl; death = refl; after_progression = refl; missing = refl; new_lesion = refl; node99 = refl; node100 = refl }

pub order_by_value : OrderByValue
unfolding leap_year days_in_month date_exists days_of_years days_of_months day_number study_day_of size_outside_limits measured_outside_limits not_zero_beyond_count not_zero_unmeasured without_disease outside_limits not_zero refusals_of_read measured_beyond fits_by enrolment_in_range follow_up_in_range in_range refusals_of_entry_held refusal_of_adding_held
order_by_value = record { outside_first = refl; date_before_baseline = refl; second_baseline = refl; visit = refl; sizes = refl }

pub order_from_bytes : OrderFromBytes
unfolding leap_year days_in_month date_exists days_of_years days_of_months day_number study_day_of size_outside_limits measured_outside_limits not_zero_beyond_count not_zero_unmeasured without_disease outside_limits not_zero refusals_of_read bytes_number status_from baseline_in visit_in spare_in raw_in refusals_of_record_number refusals_of_bytes record_of_bytes measured_beyond fits_by enrolment_in_range follow_up_in_range in_range refusals_of_entry_held refusal_of_adding_bytes_held
order_from_bytes =
    record {
      outside_first = refl;
      outside_therapy = refl;
      short = refl;
      no_kind = refl;
      no_date = refl;
      spare_before_baseline = refl;
      second_baseline = refl;
      visit = refl;
      visit_again = refl;
    }

pub beside_numbers : BesideNumbers
unfolding leap_year days_in_month date_exists days_of_years days_of_months day_number study_day_of sum_of_diameters all_measured all_disappeared progression_from_nadir partial_response target_answer after_visit overall_by overall_answer change_between change_of event_after counting_after overall_held visit_added
beside_numbers = record { done = refl; next = refl; refused = refl; same = refl }
