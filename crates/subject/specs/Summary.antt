-- Document 01, "Settled": what the held subject holds. After a baseline and the records behind it, newest first, each field is what the definition of its
-- name gives. That this holds after any list of calls is a theorem, `HeldAfterCalls` (outcome/specs/HeldAfter).
-- Assumes nothing.
use Rattle.std.specs.Prelude.{List, [], ◌∷◌}
use Rattle.laws.specs.Choice.{pick}
use Rattle.dates.specs.declared.Date.{Date}
use Rattle.response_rules.specs.Nadir.{earlier_of}
use Rattle.outcome_rules.specs.Values.{Day, none, on, is_recorded, ◌or_else◌}
use Rattle.outcome_rules.specs.StudyRecords.{Baseline, disease}
use Rattle.outcome_rules.specs.LawfulLists.{Past, latest_day, death_day}
use Rattle.outcome_rules.specs.Course.{visits_of, Judged, course, therapy_recorded, visits_in, first_pd, counting_visits}
use Rattle.outcome_rules.specs.Pfs.{before_event, last_visit, last_evaluable}
use Rattle.outcome_rules.specs.BestResponse.{is_cr, allowed_between_cr, confirmed_cr, confirmed_response, stable_disease, best_of}
use Rattle.outcome_rules.specs.Duration.{first_response}
use Rattle.subject.specs.declared.EventDays.{EventDays}
use Rattle.subject.specs.declared.CountingVisits.{CountingVisits}
use Rattle.subject.specs.declared.Subject.{Subject}
use Rattle.subject.specs.Days.{at, maybe}
use Rattle.subject.specs.OneVisitMore.{best_from}

-- the first CR since which every visit was CR or NE
abbrev pub cr_start : List Judged → Day
cr_start [] = none
cr_start (j ∷ js) = pick (is_cr j.answer) (cr_start js or_else on j.day) (pick (allowed_between_cr j.answer) (cr_start js) none)

-- of the visits in a course
unfoldable pub event_of : List Judged → EventDays
event_of js =
    record {
      progression = maybe (first_pd js);
      lastvisit = at (last_visit (before_event js));
      lastevaluable = maybe (last_evaluable (before_event js));
    }

-- of the counting visits
unfoldable pub counting_of : List Judged → CountingVisits
counting_of js =
    record {
      firstresponse = maybe (first_response js);
      crstart = maybe (cr_start js);
      best = best_from (best_of (confirmed_cr js) (confirmed_response js) (stable_disease js) (is_recorded (first_pd js)));
    }

unfoldable pub summary : Date → Baseline → Past → Subject
summary randomisation b p =
    record {
      enrolment = record { randomisation = randomisation; nontarget = b.nontarget; disease = disease b };
      followup =
          record {
            earlier = earlier_of (disease b) (visits_of p);
            latestday = at (latest_day p);
            therapyrecorded = therapy_recorded (course b p);
            deathday = maybe (death_day p);
            event = event_of (visits_in (course b p));
            counting = counting_of (counting_visits (course b p));
          };
    }
