-- The examples are computed by the definitions. By its name this file is checked first, so that a wrong definition is refused at an example.
-- Assumes nothing.
use mathlib.Core.Path.{refl}
use Rattle.dates.specs.Calendar.{leap_year, days_in_month, date_exists, days_of_years, days_of_months, day_number}
use Rattle.dates.specs.Answers.{study_day_of}
use Rattle.records.specs.Refusals.{size_outside_limits, measured_outside_limits, not_zero_beyond_count, not_zero_unmeasured, without_disease, outside_limits, not_zero, refusals_of_read}
use Rattle.codec.specs.Bytes.{bytes_number, record_number, bytes_of}
use Rattle.codec.specs.Reading.{status_from, baseline_in, visit_in, raw_in, refusals_of_record_number, refusals_of_bytes, record_of_bytes, spare_in}
use Rattle.codec.specs.Parts.{bad_length}
use Rattle.response_rules.specs.SumOfDiameters.{sum_of_diameters, baseline_sum, all_measured}
use Rattle.response_rules.specs.TargetAnswer.{all_disappeared, progression_from_nadir, partial_response, target_answer}
use Rattle.response_rules.specs.Nadir.{after_visit}
use Rattle.response_rules.specs.OverallAnswer.{overall_by}
use Rattle.response_rules.specs.VisitAnswers.{overall_answer}
use Rattle.response_rules.specs.Change.{change_between, change_of}
use Rattle.outcome_rules.specs.LawfulLists.{measured_beyond, fits_by, fits}
use Rattle.outcome_rules.specs.Course.{overall_at}
use Rattle.outcome_rules.specs.Pfs.{gap_limit, pfs}
use Rattle.outcome_rules.specs.BestResponse.{best}
use Rattle.outcome_rules.specs.Duration.{duration}
use Rattle.outcome_rules.specs.VisitLines.{line_of_visit}
use Rattle.outcome_rules.specs.Settled.{pfs_settled_by, best_settled_by, duration_settled_by, pfs_settled, best_settled, duration_settled}
use Rattle.outcome_rules.specs.Adding.{refusals_of_study_record, refusals_of_opening, refusals_of_adding}
use Rattle.file.specs.Verdict.{starts_late, verdict_of}
use Rattle.listing_text.specs.Decimal.{decimal}
use Rattle.listing_text.specs.Text.{tenths_text, visit_text, pfs_text, best_text, duration_text, settled_text, outcome_text, refusal_text, listing_of}
use Rattle.converter.specs.Conversion.{converted, conversion_of, output_of}
use Rattle.converter.specs.Examples.{OldFiles, ConversionsAtTheEdges}

pub old_files : OldFiles
unfolding leap_year days_in_month date_exists days_of_years days_of_months day_number study_day_of size_outside_limits measured_outside_limits not_zero_beyond_count not_zero_unmeasured without_disease outside_limits not_zero refusals_of_read bytes_number status_from baseline_in visit_in raw_in refusals_of_record_number refusals_of_bytes record_of_bytes bad_length sum_of_diameters baseline_sum all_measured all_disappeared progression_from_nadir partial_response target_answer after_visit overall_by overall_answer change_between change_of measured_beyond fits_by fits overall_at gap_limit pfs best duration line_of_visit pfs_settled_by best_settled_by duration_settled_by pfs_settled best_settled duration_settled refusals_of_study_record refusals_of_opening refusals_of_adding starts_late verdict_of decimal tenths_text visit_text pfs_text best_text duration_text settled_text outcome_text refusal_text listing_of spare_in
old_files = record { verdict = refl; listing = refl; thirteen_bytes = refl; kind0 = refl; therapy_first = refl; second_baseline = refl; reading_first = refl }

pub conversions_at_the_edges : ConversionsAtTheEdges
unfolding leap_year days_in_month date_exists days_of_years days_of_months day_number study_day_of size_outside_limits measured_outside_limits not_zero_beyond_count not_zero_unmeasured without_disease outside_limits not_zero refusals_of_read bytes_number status_from baseline_in visit_in raw_in refusals_of_record_number refusals_of_bytes record_of_bytes bad_length sum_of_diameters baseline_sum all_measured all_disappeared progression_from_nadir partial_response target_answer after_visit overall_by overall_answer change_between change_of measured_beyond fits_by fits overall_at gap_limit pfs best duration line_of_visit pfs_settled_by best_settled_by duration_settled_by pfs_settled best_settled duration_settled refusals_of_study_record refusals_of_opening refusals_of_adding starts_late verdict_of decimal tenths_text visit_text pfs_text best_text duration_text settled_text outcome_text refusal_text listing_of spare_in record_number bytes_of converted conversion_of output_of
conversions_at_the_edges =
    record {
      printed = refl;
      room = refl;
      too_short = refl;
      seven = refl;
      thirteen = refl;
      eight = refl;
      past = refl;
      left = refl;
      left_of_refused = refl;
      left_of_late = refl;
      values = refl;
    }
