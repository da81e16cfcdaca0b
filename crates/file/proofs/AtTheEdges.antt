-- 13 of an empty file, 14 at the edges, the first refusal of calls and the values of cases, by computation; checked first, by its name.
-- Assumes nothing.
use mathlib.Core.Path.{refl}
use Rattle.dates.specs.Calendar.{leap_year, days_in_month, date_exists, days_of_years, days_of_months, day_number}
use Rattle.dates.specs.Answers.{study_day_of}
use Rattle.codec.specs.Parts.{bad_length}
use Rattle.response_rules.specs.SumOfDiameters.{sum_of_diameters, baseline_sum, all_measured}
use Rattle.response_rules.specs.TargetAnswer.{all_disappeared, progression_from_nadir, partial_response, target_answer}
use Rattle.response_rules.specs.Nadir.{after_visit}
use Rattle.response_rules.specs.OverallAnswer.{overall_by}
use Rattle.response_rules.specs.VisitAnswers.{overall_answer}
use Rattle.outcome_rules.specs.Course.{overall_at}
use Rattle.outcome_rules.specs.Pfs.{pfs}
use Rattle.outcome_rules.specs.BestResponse.{best}
use Rattle.outcome_rules.specs.Duration.{duration}
use Rattle.outcome_rules.specs.Settled.{pfs_settled_by, best_settled_by, duration_settled_by}
use Rattle.subject.specs.Range.{enrolment_in_range, follow_up_in_range, in_range}
use Rattle.subject.specs.Opening.{blank_subject}
use Rattle.outcome.specs.ReadingOutcome.{outcome_of}
use Rattle.file.specs.Verdict.{starts_late, verdict_of}
use Rattle.file.specs.Ending.{verdict_held}
use Rattle.file.specs.Examples.{EmptyFile, LateAtTheEdges, FirstOfCalls, ValuesOfCases}

pub empty_file : EmptyFile
unfolding verdict_of bad_length
empty_file = record { nothing = refl }

pub late_at_the_edges : LateAtTheEdges
unfolding leap_year days_in_month date_exists days_of_years days_of_months day_number study_day_of sum_of_diameters baseline_sum all_measured all_disappeared progression_from_nadir partial_response target_answer after_visit overall_by overall_answer overall_at pfs best duration pfs_settled_by best_settled_by duration_settled_by enrolment_in_range follow_up_in_range in_range blank_subject outcome_of starts_late verdict_held
late_at_the_edges =
    record {
      before = refl;
      same_day = refl;
      after = refl;
      without_duration = refl;
      last = refl;
      out_of_range = refl;
      late_out_of_range = refl;
      held_late = refl;
      held_on_time = refl;
    }

pub first_of_calls : FirstOfCalls
first_of_calls = record { read_first = refl; then_added = refl; at_index2 = refl; none = refl }

pub values_of_cases : ValuesOfCases
values_of_cases = record { refusal = refl; outcome = refl }
