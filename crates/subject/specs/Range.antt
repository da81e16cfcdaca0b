-- Document 01, "Where a call stops", 12: which held subjects are in range.
-- Assumes nothing.
use Rattle.std.specs.Prelude.{ℕ, ◌*◌, Bool, true, leb, Option, Some, None}
use Rattle.laws.specs.Choice.{both}
use Rattle.dates.specs.Calendar.{last_day_number, date_exists}
use Rattle.records.specs.Refusals.{most_targets, largest_size}
use Rattle.records.specs.Forms.{new_unit}
use Rattle.dates.specs.declared.StudyDay.{StudyDay}
use Rattle.subject.specs.declared.EventDays.{EventDays}
use Rattle.subject.specs.declared.CountingVisits.{CountingVisits}
use Rattle.subject.specs.declared.Enrolment.{Enrolment}
use Rattle.subject.specs.declared.FollowUp.{FollowUp}
use Rattle.subject.specs.declared.Subject.{Subject}

abbrev pub first_day : ℕ
first_day = 1

-- no day 0 and none over 40,177
abbrev pub day_in_range : ℕ → Bool
day_in_range d = both (leb first_day d) (leb d last_day_number)

-- a day that is absent has its own mark
abbrev pub maybe_in_range : Option StudyDay → Bool
maybe_in_range None = true
maybe_in_range (Some d) = day_in_range d.0

-- 25,000
abbrev pub largest_sum : ℕ
largest_sum = most_targets * largest_size new_unit

abbrev pub event_in_range : EventDays → Bool
event_in_range e = both (day_in_range e.lastvisit.0) (both (maybe_in_range e.progression) (maybe_in_range e.lastevaluable))

abbrev pub counting_in_range : CountingVisits → Bool
counting_in_range c = both (maybe_in_range c.firstresponse) (maybe_in_range c.crstart)

-- the randomisation date, the target count and the baseline sum
unfoldable pub enrolment_in_range : Enrolment → Bool
enrolment_in_range e = both (date_exists e.randomisation) (both (leb e.disease.count most_targets) (leb e.disease.baselinesum largest_sum))

-- the nadir and the days
unfoldable pub follow_up_in_range : FollowUp → Bool
follow_up_in_range f =
    both (leb f.earlier.nadir largest_sum)
    (both (day_in_range f.latestday.0)
    (both (maybe_in_range f.deathday)
    (both (event_in_range f.event)
    (counting_in_range f.counting))))

unfoldable pub in_range : Subject → Bool
in_range s = both (enrolment_in_range s.enrolment) (follow_up_in_range s.followup)
