-- Document 01, "Visit responses" and "Outcome": what is held after one record more. The enrolment stays as it is.
-- Assumes nothing.
use Rattle.std.specs.Prelude.{ℕ, Bool, true, List, Option, Some}
use Rattle.laws.specs.Choice.{either, pick}
use Rattle.dates.specs.declared.Date.{Date}
use Rattle.dates.specs.declared.StudyDay.{StudyDay}
use Rattle.records.specs.declared.Entry.{Entry}
use Rattle.records.specs.declared.Entry.TheVariants as E
use Rattle.records.specs.declared.VisitEntry.{VisitEntry}
use Rattle.records.specs.Forms.{new_unit}
use Rattle.response_rules.specs.Words.{Word, overall_word}
use Rattle.response_rules.specs.Inputs.{visit_of}
use Rattle.response_rules.specs.Nadir.{after_visit}
use Rattle.response_rules.specs.VisitAnswers.{overall_answer}
use Rattle.response_rules.specs.declared.Earlier.{Earlier}
use Rattle.response.specs.declared.VisitAnswer.{VisitAnswer}
use Rattle.outcome_rules.specs.Values.{is_recorded, day_value}
use Rattle.outcome_rules.specs.StudyRecords.{study_day}
use Rattle.outcome_rules.specs.Course.{Judged}
use Rattle.subject.specs.declared.Enrolment.{Enrolment}
use Rattle.subject.specs.declared.FollowUp.{FollowUp}
use Rattle.subject.specs.Days.{at}
use Rattle.subject.specs.OneVisitMore.{event_after, counting_after}

-- the study day of a date; 0, which is no study day, where it is before randomisation or either of them does not exist
abbrev pub held_day : Date → Date → StudyDay
held_day randomisation d = at (study_day randomisation d)

unfoldable pub overall_held : Enrolment → FollowUp → VisitEntry → List Bool → List ℕ → Word
overall_held e f v measured sizes = overall_answer new_unit e.disease f.earlier (visit_of v measured sizes)

-- the visit as judged, by the definitions and by what judging answers
abbrev pub judged_held : Enrolment → FollowUp → StudyDay → VisitEntry → List Bool → List ℕ → Judged
judged_held e f day v measured sizes = record { day = day.0; answer = overall_held e f v measured sizes }

abbrev pub judged_as : StudyDay → VisitAnswer → Judged
judged_as day a = record { day = day.0; answer = overall_word a.overall }

abbrev pub counting_closed_held : FollowUp → Bool
counting_closed_held f = either f.therapyrecorded (is_recorded (day_value f.event.progression))

-- after a visit, from what it leaves for judging the next one and the visit as judged
abbrev pub judged_added : FollowUp → Earlier → Judged → FollowUp
judged_added f after j =
    record {
      earlier = after;
      latestday = at j.day;
      therapyrecorded = f.therapyrecorded;
      deathday = f.deathday;
      event = event_after f.event j;
      counting = pick (counting_closed_held f) f.counting (counting_after f.counting j);
    }

unfoldable pub visit_added : Enrolment → FollowUp → StudyDay → VisitEntry → List Bool → List ℕ → FollowUp
visit_added e f day v measured sizes =
    judged_added f (after_visit e.disease f.earlier (visit_of v measured sizes)) (judged_held e f day v measured sizes)

-- on a later day, with or without a therapy and a death; nothing of the visits changes
abbrev pub on_later_day : FollowUp → StudyDay → Bool → Option StudyDay → FollowUp
on_later_day f day therapy death =
    record { earlier = f.earlier; latestday = day; therapyrecorded = therapy; deathday = death; event = f.event; counting = f.counting }

unfoldable pub therapy_added : FollowUp → StudyDay → FollowUp
therapy_added f day = on_later_day f day true f.deathday

unfoldable pub death_added : FollowUp → StudyDay → FollowUp
death_added f day = on_later_day f day f.therapyrecorded (Some day)

-- after a record on its study day; no baseline comes to be added
abbrev pub entry_added : Enrolment → FollowUp → StudyDay → Entry → List Bool → List ℕ → FollowUp
entry_added e f day (E.Baseline b) marks sizes = f
entry_added e f day (E.Visit v) marks sizes = visit_added e f day v marks sizes
entry_added e f day (E.Therapy d) marks sizes = therapy_added f day
entry_added e f day (E.Death d) marks sizes = death_added f day
