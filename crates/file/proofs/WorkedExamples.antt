-- Whole files, by computation. By its name this file is checked behind the theorem that ties a file to the additions, so that a file judged otherwise is
-- refused there.
-- Assumes nothing.
use mathlib.Core.Path.{refl}
use Rattle.dates.specs.Calendar.{leap_year, days_in_month, date_exists, days_of_years, days_of_months, day_number}
use Rattle.dates.specs.Answers.{study_day_of}
use Rattle.records.specs.Refusals.{size_outside_limits, measured_outside_limits, not_zero_beyond_count, not_zero_unmeasured, without_disease, outside_limits, not_zero, refusals_of_read}
use Rattle.codec.specs.Bytes.{bytes_number}
use Rattle.codec.specs.Reading.{status_from, baseline_in, visit_in, spare_in, raw_in, refusals_of_record_number, refusals_of_bytes, record_of_bytes}
use Rattle.codec.specs.Parts.{bad_length}
use Rattle.response_rules.specs.SumOfDiameters.{sum_of_diameters, baseline_sum, all_measured}
use Rattle.response_rules.specs.TargetAnswer.{all_disappeared, progression_from_nadir, partial_response, target_answer}
use Rattle.response_rules.specs.Nadir.{after_visit}
use Rattle.response_rules.specs.OverallAnswer.{overall_by}
use Rattle.response_rules.specs.VisitAnswers.{overall_answer}
use Rattle.outcome_rules.specs.LawfulLists.{measured_beyond, fits_by, fits}
use Rattle.outcome_rules.specs.Course.{overall_at}
use Rattle.outcome_rules.specs.Pfs.{gap_limit, early_death_limit, pfs}
use Rattle.outcome_rules.specs.BestResponse.{best}
use Rattle.outcome_rules.specs.Duration.{duration}
use Rattle.outcome_rules.specs.Settled.{settled_from, pfs_settled_by, best_settled_by, duration_settled_by, pfs_settled, best_settled, duration_settled}
use Rattle.outcome_rules.specs.Adding.{refusals_of_study_record, refusals_of_opening, refusals_of_adding}
use Rattle.file.specs.Verdict.{starts_late, verdict_of}
use Rattle.file.specs.Examples.{WholeFiles}

pub whole_files : WholeFiles
unfolding leap_year days_in_month date_exists days_of_years days_of_months day_number study_day_of size_outside_limits measured_outside_limits not_zero_beyond_count not_zero_unmeasured without_disease outside_limits not_zero refusals_of_read bytes_number status_from baseline_in visit_in spare_in raw_in refusals_of_record_number refusals_of_bytes record_of_bytes bad_length sum_of_diameters baseline_sum all_measured all_disappeared progression_from_nadir partial_response target_answer after_visit overall_by overall_answer measured_beyond fits_by fits overall_at gap_limit early_death_limit pfs best duration settled_from pfs_settled_by best_settled_by duration_settled_by pfs_settled best_settled duration_settled refusals_of_study_record refusals_of_opening refusals_of_adding starts_late verdict_of
whole_files =
    record {
      printed = refl;
      missing = refl;
      fourteen_bytes = refl;
      kind0 = refl;
      visit_first = refl;
      visit_before_baseline = refl;
      later_kind0 = refl;
      second_baseline = refl;
      least_target = refl;
      after_death = refl;
      same_day = refl;
      misfit = refl;
      first_bad = refl;
    }
