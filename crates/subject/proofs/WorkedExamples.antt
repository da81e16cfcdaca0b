-- The examples are computed by the definitions. By its name this file is checked behind the theorems on the list of the records, so that a subject that
-- does not follow the list is refused there.
-- Assumes nothing.
use mathlib.Core.Path.{refl}
use Rattle.dates.specs.Calendar.{leap_year, days_in_month, date_exists}
use Rattle.response_rules.specs.SumOfDiameters.{sum_of_diameters, baseline_sum, all_measured}
use Rattle.response_rules.specs.TargetAnswer.{all_disappeared, progression_from_nadir, partial_response, target_answer}
use Rattle.response_rules.specs.Nadir.{after_visit}
use Rattle.response_rules.specs.OverallAnswer.{overall_by}
use Rattle.response_rules.specs.VisitAnswers.{overall_answer}
use Rattle.outcome_rules.specs.Course.{overall_at}
use Rattle.subject.specs.Range.{enrolment_in_range, follow_up_in_range, in_range}
use Rattle.subject.specs.OneVisitMore.{event_after, counting_after}
use Rattle.subject.specs.Summary.{event_of, counting_of, summary}
use Rattle.subject.specs.HeldExamples.{RangeAtTheEdges, EventsAfter, CountsAfter, BestInOrder, StartsOfCR, EventsOfVisits, CountsOfVisits, HeldOfRecords}

pub range_at_the_edges : RangeAtTheEdges
unfolding leap_year days_in_month date_exists enrolment_in_range follow_up_in_range in_range
range_at_the_edges =
    record {
      opened = refl;
      most = refl;
      least = refl;
      no_date = refl;
      count6 = refl;
      sum25001 = refl;
      nadir25001 = refl;
      latest = refl;
      death = refl;
      progression = refl;
      lastvisit = refl;
      lastevaluable = refl;
      firstresponse = refl;
      crstart = refl;
    }

pub events_after : EventsAfter
unfolding event_after
events_after = record { sd43 = refl; ne85 = refl; pd127 = refl; sd169 = refl; pd169 = refl }

pub counts_after : CountsAfter
unfolding counting_after
counts_after =
    record {
      cr43 = refl;
      pr35 = refl;
      sd35 = refl;
      sd36 = refl;
      pd43 = refl;
      cr70 = refl;
      cr71 = refl;
      pr71 = refl;
      ne71 = refl;
      sd71 = refl;
      pd71 = refl;
      cr_after_pr = refl;
      ne_after_pr = refl;
      ne_after_prand_cr = refl;
      ne_after_two_cr = refl;
      ne_after_pd = refl;
    }

pub best_in_order : BestInOrder
best_in_order = record { words = refl; cr = refl; pr = refl; sd = refl; pd = refl; ne = refl }

pub starts_of_cr : StartsOfCR
starts_of_cr =
    record {
      no_visit = refl;
      cr_cr = refl;
      cr_ne = refl;
      cr_necr = refl;
      ne_cr = refl;
      pr_cr = refl;
      ended = refl;
      cr_prcr = refl;
      ended_before_ne = refl;
    }

pub events_of_visits : EventsOfVisits
unfolding event_of
events_of_visits =
    record {
      no_visit = refl;
      ne43 = refl;
      sd_ne = refl;
      pd43 = refl;
      ne_pd = refl;
      sd_nepd = refl;
      sd_later = refl;
      pd_later = refl;
    }

pub counts_of_visits : CountsOfVisits
unfolding counting_of
counts_of_visits =
    record {
      no_visit = refl;
      cr_necr = refl;
      cr_prcr = refl;
      pr_crcr = refl;
      sd_pr = refl;
      sd35 = refl;
      cr_pd = refl;
      pd43 = refl;
    }

pub held_of_records : HeldOfRecords
unfolding sum_of_diameters baseline_sum all_measured all_disappeared progression_from_nadir partial_response target_answer after_visit overall_by overall_answer overall_at event_of counting_of summary
held_of_records =
    record {
      opened = refl;
      after_visit43 = refl;
      progressed = refl;
      complete = refl;
      after_therapy = refl;
      therapy_last = refl;
      dead = refl;
      dead_after_therapy = refl;
      after_progression = refl;
      without_baseline = refl;
    }
