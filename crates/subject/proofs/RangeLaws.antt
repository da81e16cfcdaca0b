-- 12 is what document 01 says, and one visit more keeps what is held in range.
-- Assumes nothing.
use mathlib.Core.Path.{◌≡◌, refl}
use mathlib.Core.Bool.{Bool, true, false}
use Prim.Native.Nat.{ℕ}
use lib.Dec.{leb}
use borrow.Author.Tests.{leb-true, le-leb}
use Rattle.std.specs.Prelude.{Option, Some, None}
use Rattle.laws.specs.Choice.{pick}
use Rattle.laws.proofs.Tests.{both_true}
use Rattle.dates.specs.declared.StudyDay.{StudyDay}
use Rattle.dates.specs.Calendar.{last_day_number, date_exists}
use Rattle.records.specs.Refusals.{most_targets}
use Rattle.response_rules.specs.OverallAnswer.{is_pd, evaluable}
use Rattle.outcome_rules.specs.Values.{is_recorded, day_value}
use Rattle.outcome_rules.specs.Course.{Judged}
use Rattle.outcome_rules.specs.BestResponse.{is_cr, is_response, allowed_between_cr}
use Rattle.subject.specs.declared.EventDays.{EventDays}
use Rattle.subject.specs.declared.CountingVisits.{CountingVisits}
use Rattle.subject.specs.declared.Enrolment.{Enrolment}
use Rattle.subject.specs.declared.FollowUp.{FollowUp}
use Rattle.subject.specs.declared.Subject.{Subject}
use Rattle.subject.specs.Range.{first_day, day_in_range, maybe_in_range, event_in_range, largest_sum, enrolment_in_range, follow_up_in_range, in_range}
use Rattle.subject.specs.Days.{at, first_recorded}
use Rattle.subject.specs.OneVisitMore.{event_after, counting_after}
use Rattle.subject.specs.Laws.{Within, AbsentOrWithin, EventWithin, CountingWithin, EnrolmentWithin, FollowUpWithin, SubjectWithin, RangeLaws}

-- ---- what 12 judges

within : (d : ℕ) → day_in_range d ≡ true → Within d
within d e = let p = both_true (leb first_day d) _ e in (leb-true first_day d p.0, leb-true d last_day_number p.1)

day_in_range_lem : (d : ℕ) → Within d → day_in_range d ≡ true
day_in_range_lem d w = rw (le-leb first_day d w.0, le-leb d last_day_number w.1)

absent_or_within : (m : Option StudyDay) → maybe_in_range m ≡ true → AbsentOrWithin m
absent_or_within None e = tt
absent_or_within (Some d) e = within d.0 e

maybe_in_range_lem : (m : Option StudyDay) → AbsentOrWithin m → maybe_in_range m ≡ true
maybe_in_range_lem None w = refl
maybe_in_range_lem (Some d) w = day_in_range_lem d.0 w

pub enrolment_within : (e : Enrolment) → enrolment_in_range e ≡ true → EnrolmentWithin e
unfolding enrolment_in_range
enrolment_within e h =
    let date = both_true (date_exists e.randomisation) _ h in
    let count = both_true (leb e.disease.count most_targets) _ date.1 in
    record { randomisation = date.0; count = leb-true e.disease.count most_targets count.0; baselinesum = leb-true e.disease.baselinesum largest_sum count.1 }

pub follow_up_within : (f : FollowUp) → follow_up_in_range f ≡ true → FollowUpWithin f
unfolding follow_up_in_range
follow_up_within f e =
    let nadir = both_true (leb f.earlier.nadir largest_sum) _ e in
    let latest = both_true (day_in_range f.latestday.0) _ nadir.1 in
    let death = both_true (maybe_in_range f.deathday) _ latest.1 in
    let days = both_true (event_in_range f.event) _ death.1 in
    let previous = both_true (day_in_range f.event.lastvisit.0) _ days.0 in
    let rest = both_true (maybe_in_range f.event.progression) _ previous.1 in
    let counting = both_true (maybe_in_range f.counting.firstresponse) _ days.1 in
    record {
      nadir = leb-true f.earlier.nadir largest_sum nadir.0;
      latestday = within f.latestday.0 latest.0;
      deathday = absent_or_within f.deathday death.0;
      event =
          record {
            lastvisit = within f.event.lastvisit.0 previous.0;
            progression = absent_or_within f.event.progression rest.0;
            lastevaluable = absent_or_within f.event.lastevaluable rest.1;
          };
      counting = record { firstresponse = absent_or_within f.counting.firstresponse counting.0; crstart = absent_or_within f.counting.crstart counting.1 };
    }

pub subject_within : (s : Subject) → in_range s ≡ true → SubjectWithin s
unfolding in_range
subject_within s e =
    let parts = both_true (enrolment_in_range s.enrolment) _ e in
    record { enrolment = enrolment_within s.enrolment parts.0; followup = follow_up_within s.followup parts.1 }

enrolment_in_range_lem : (e : Enrolment) → EnrolmentWithin e → enrolment_in_range e ≡ true
unfolding enrolment_in_range
enrolment_in_range_lem e w = rw (w.randomisation, le-leb e.disease.count most_targets w.count, le-leb e.disease.baselinesum largest_sum w.baselinesum)

follow_up_in_range_lem : (f : FollowUp) → FollowUpWithin f → follow_up_in_range f ≡ true
unfolding follow_up_in_range
follow_up_in_range_lem f w =
    rw (
      le-leb f.earlier.nadir largest_sum w.nadir,
      day_in_range_lem f.latestday.0 w.latestday,
      maybe_in_range_lem f.deathday w.deathday,
      day_in_range_lem f.event.lastvisit.0 w.event.lastvisit,
      maybe_in_range_lem f.event.progression w.event.progression,
      maybe_in_range_lem f.event.lastevaluable w.event.lastevaluable,
      maybe_in_range_lem f.counting.firstresponse w.counting.firstresponse,
      maybe_in_range_lem f.counting.crstart w.counting.crstart,
    )

pub in_range_lem : (s : Subject) → SubjectWithin s → in_range s ≡ true
unfolding in_range
in_range_lem s w = rw (enrolment_in_range_lem s.enrolment w.enrolment, follow_up_in_range_lem s.followup w.followup)

pub range_laws : RangeLaws
range_laws = record { exactly = λ s. (subject_within s, in_range_lem s) }

-- ---- one visit more

module _ (j : Judged) (w : Within j.day) where
  first_within : (m : Option StudyDay) → AbsentOrWithin m → AbsentOrWithin (first_recorded m (at j.day))
  first_within None h = w
  first_within (Some e) h = h

  pick_within : (x : Bool) (m n : Option StudyDay) → AbsentOrWithin m → AbsentOrWithin n → AbsentOrWithin (pick x m n)
  pick_within true m n h k = h
  pick_within false m n h k = k

  pub event_within : (e : EventDays) → EventWithin e → EventWithin (event_after e j)
  unfolding event_after
  event_within e h = go (is_recorded (day_value e.progression)) refl (is_pd j.answer) refl (evaluable j.answer) refl
    where
      go : (x : Bool) → is_recorded (day_value e.progression) ≡ x → (y : Bool) → is_pd j.answer ≡ y → (z : Bool) → evaluable j.answer ≡ z →
          EventWithin (event_after e j)
      go true p y q z r = rw p h
      go false p true q z r = rw (p, q) (record { lastvisit = h.lastvisit; progression = w; lastevaluable = h.lastevaluable })
      go false p false q true r = rw (p, q, r) (record { lastvisit = w; progression = tt; lastevaluable = w })
      go false p false q false r = rw (p, q, r) (record { lastvisit = w; progression = tt; lastevaluable = h.lastevaluable })

  pub counting_within : (c : CountingVisits) → CountingWithin c → CountingWithin (counting_after c j)
  unfolding counting_after
  counting_within c h =
      let after = first_recorded c.crstart (at j.day) in
      let between = pick (allowed_between_cr j.answer) c.crstart None in
      record {
        firstresponse =
            pick_within (is_response j.answer) (first_recorded c.firstresponse (at j.day)) c.firstresponse (first_within c.firstresponse h.firstresponse)
            h.firstresponse;
        crstart =
            pick_within (is_cr j.answer) after between (first_within c.crstart h.crstart)
            (pick_within (allowed_between_cr j.answer) c.crstart None h.crstart tt);
      }
