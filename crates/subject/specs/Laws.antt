-- Document 01, "Where a call stops": 12 in its own numbers; proved in proofs/RangeLaws.antt.
-- Assumes nothing.
use Rattle.std.specs.Prelude.{◌≡◌, true, ◌↔◌, ℕ, ◌≤◌, Option, Some, None}
use Rattle.dates.specs.Calendar.{date_exists}
use Rattle.dates.specs.declared.StudyDay.{StudyDay}
use Rattle.subject.specs.declared.EventDays.{EventDays}
use Rattle.subject.specs.declared.CountingVisits.{CountingVisits}
use Rattle.subject.specs.declared.Enrolment.{Enrolment}
use Rattle.subject.specs.declared.FollowUp.{FollowUp}
use Rattle.subject.specs.declared.Subject.{Subject}
use Rattle.subject.specs.Range.{in_range}

abbrev pub Within : ℕ → Type 0
Within d = (1 ≤ d) × (d ≤ 40177)

abbrev pub AbsentOrWithin : Option StudyDay → Type 0
AbsentOrWithin None = Unit {0}
AbsentOrWithin (Some d) = Within d.0

pub record EventWithin (e : EventDays) : Type 0 where
  pub lastvisit : Within e.lastvisit.0
  pub progression : AbsentOrWithin e.progression
  pub lastevaluable : AbsentOrWithin e.lastevaluable

pub record CountingWithin (c : CountingVisits) : Type 0 where
  pub firstresponse : AbsentOrWithin c.firstresponse
  pub crstart : AbsentOrWithin c.crstart

pub record EnrolmentWithin (e : Enrolment) : Type 0 where
  pub randomisation : date_exists e.randomisation ≡ true
  pub count : e.disease.count ≤ 5
  pub baselinesum : e.disease.baselinesum ≤ 25000

pub record FollowUpWithin (f : FollowUp) : Type 0 where
  pub nadir : f.earlier.nadir ≤ 25000
  pub latestday : Within f.latestday.0
  pub deathday : AbsentOrWithin f.deathday
  pub event : EventWithin f.event
  pub counting : CountingWithin f.counting

-- every day from 1 to 40,177, every sum at most 25,000, at most 5 targets, and a randomisation date that 3 does not meet
pub record SubjectWithin (s : Subject) : Type 0 where
  pub enrolment : EnrolmentWithin s.enrolment
  pub followup : FollowUpWithin s.followup

pub record RangeLaws : Type 0 where
  pub exactly : (s : Subject) → (in_range s ≡ true) ↔ SubjectWithin s
