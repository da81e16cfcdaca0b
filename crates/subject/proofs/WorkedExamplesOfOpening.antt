-- The examples are computed by the definitions. By its name this file is checked behind the theorems on the list of the records, so that a subject that
-- does not follow the list is refused there.
-- Assumes nothing.
use mathlib.Core.Path.{refl}
use Rattle.dates.specs.Calendar.{leap_year, days_in_month, date_exists}
use Rattle.records.specs.Refusals.{size_outside_limits, measured_outside_limits, not_zero_beyond_count, not_zero_unmeasured, without_disease, outside_limits, not_zero, refusals_of_read}
use Rattle.response_rules.specs.SumOfDiameters.{baseline_sum}
use Rattle.outcome_rules.specs.Adding.{refusals_of_opening}
use Rattle.subject.specs.Opening.{subject_of_baseline, blank_subject, opened_subject}
use Rattle.subject.specs.OpeningExamples.{OpenedAtTheEdges}

pub opened_at_the_edges : OpenedAtTheEdges
unfolding leap_year days_in_month date_exists size_outside_limits measured_outside_limits not_zero_beyond_count not_zero_unmeasured without_disease outside_limits not_zero refusals_of_read baseline_sum refusals_of_opening subject_of_baseline blank_subject opened_subject
opened_at_the_edges = record { numbers = refl; printed = refl; without_nontarget = refl; largest = refl; too_large = refl; no_date = refl; visit = refl; therapy = refl; death = refl }
