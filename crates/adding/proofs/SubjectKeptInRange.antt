-- One record more keeps a held subject in range, whether a list leads to it or not.
-- Assumes nothing.
use mathlib.Core.Path.{◌≡◌, refl}
use mathlib.Core.Bool.{Bool, true, false}
use mathlib.Core.List.{List}
use Prim.Native.Nat.{ℕ, ◌+◌, ◌-◌, ◌≤◌, min}
use native.Mathlib.Omega.{arith}
use lib.Dec.{leb, ltb}
use borrow.Author.Tests.{leb-false, ltb-false}
use Rattle.std.specs.Prelude.{Option, Some}
use Rattle.laws.specs.Choice.{both, pick}
use Rattle.laws.specs.Refusals.{first, Each}
use Rattle.laws.proofs.FirstRefusal.{none_meets}
use Rattle.laws.proofs.Tests.{both_true}
use Rattle.dates.specs.declared.Date.{Date}
use Rattle.dates.specs.declared.StudyDay.{StudyDay}
use Rattle.dates.specs.Calendar.{last_day_number, date_exists, day_number}
use Rattle.dates.specs.Answers.{counted, refused, study_day_of}
use Rattle.dates.proofs.CalendarLaws.{calendar_laws}
use Rattle.records.specs.declared.Entry.{Entry}
use Rattle.records.specs.declared.Entry.TheVariants as E
use Rattle.records.specs.Entries.{date_of}
use Rattle.response_rules.specs.SumOfDiameters.{sum_of_diameters, all_measured}
use Rattle.response_rules.specs.Nadir.{after_visit}
use Rattle.response_rules.specs.Inputs.{Visit, visit_of}
use Rattle.response_rules.specs.declared.BaselineDisease.{BaselineDisease}
use Rattle.response_rules.specs.declared.Earlier.{Earlier}
use Rattle.outcome_rules.specs.StudyRecords.{study_day}
use Rattle.subject.specs.declared.Enrolment.{Enrolment}
use Rattle.subject.specs.declared.FollowUp.{FollowUp}
use Rattle.subject.specs.declared.CountingVisits.{CountingVisits}
use Rattle.subject.specs.Laws.{Within, AbsentOrWithin, CountingWithin, FollowUpWithin}
use Rattle.subject.proofs.RangeLaws.{event_within, counting_within}
use Rattle.adding.specs.OneRecordMore.{held_day, judged_held, counting_closed_held, visit_added, on_later_day, therapy_added, death_added, entry_added}
use Rattle.adding.specs.Refusals.{too_early_held, refusals_of_entry_held}

pub study_day_most : (randomisation d : Date) → study_day randomisation d ≤ last_day_number
unfolding study_day_of
study_day_most randomisation d = go (both (date_exists d) (date_exists randomisation)) refl (leb (day_number randomisation) (day_number d))
  where
    go : (x : Bool) → both (date_exists d) (date_exists randomisation) ≡ x → (y : Bool) →
        (pick x (pick y (counted (day_number d - day_number randomisation + 1)) (refused 10)) (refused 3)).day ≤ last_day_number
    go true e true =
        let exist = both_true (date_exists d) _ e in
        let last = (calendar_laws.in_range d exist.0).1 in
        let first = (calendar_laws.in_range randomisation exist.1).0 in
        omega arith
    go true e false = omega arith
    go false e y = omega arith

-- what holds of 8 to 11 holds of the number of each refusal
pub each_on : (P : ℕ → Type 0) → P 8 → P 9 → P 10 → P 11 → (e : Enrolment) (f : FollowUp) (day : StudyDay) (r : Entry) (marks : List Bool) →
    Each P (refusals_of_entry_held e f day r marks)
unfolding refusals_of_entry_held
each_on P eight nine ten eleven e f day r marks = (eight, (nine, (ten, (eleven, tt))))

-- no refusal, so not too early
not_early : (e : Enrolment) (f : FollowUp) (day : StudyDay) (r : Entry) (marks : List Bool) → first (refusals_of_entry_held e f day r marks) ≡ 0 → too_early_held f day r ≡ false
unfolding refusals_of_entry_held
not_early e f day r marks q =
    ((none_meets (refusals_of_entry_held e f day r marks) (each_on (λ (n : ℕ). 1 ≤ n) (omega arith) (omega arith) (omega arith) (omega arith) e f day r marks)).0 q).1.1.0

nadir_least : (b : BaselineDisease) (earlier : Earlier) (v : Visit) → (after_visit b earlier v).nadir ≤ earlier.nadir
unfolding after_visit
nadir_least b earlier v = go (all_measured b.count v.measured)
  where
    go : (x : Bool) → pick x (min (sum_of_diameters v.measured v.sizes) earlier.nadir) earlier.nadir ≤ earlier.nadir
    go true = omega arith
    go false = omega arith

later_within : (f : FollowUp) (day : StudyDay) (therapy : Bool) (death : Option StudyDay) → FollowUpWithin f → Within day.0 → AbsentOrWithin death →
    FollowUpWithin (on_later_day f day therapy death)
later_within f day therapy death w d a = record { nadir = w.nadir; latestday = d; deathday = a; event = w.event; counting = w.counting }

-- a date whose study day is not before the latest one
on_or_after : (randomisation : Date) (f : FollowUp) (d : Date) → FollowUpWithin f → ltb (study_day randomisation d) f.latestday.0 ≡ false →
    Within (study_day randomisation d)
on_or_after randomisation f d w h =
    let from = w.latestday.0 in
    let behind = ltb-false (study_day randomisation d) f.latestday.0 h in
    (omega arith, study_day_most randomisation d)

pub adding_within : (e : Enrolment) (f : FollowUp) (r : Entry) (marks : List Bool) (sizes : List ℕ) → FollowUpWithin f →
    first (refusals_of_entry_held e f (held_day e.randomisation (date_of r)) r marks) ≡ 0 → FollowUpWithin (entry_added e f (held_day e.randomisation (date_of r)) r marks sizes)
unfolding visit_added therapy_added death_added
adding_within e f (E.Baseline b) marks sizes w r = w
adding_within e f (E.Visit v) marks sizes w r =
    let most = study_day_most e.randomisation v.date in
    let behind = leb-false (study_day e.randomisation v.date) f.latestday.0 (not_early e f (held_day e.randomisation v.date) (E.Visit v) marks r) in
    let from = w.latestday.0 in
    let day : Within (study_day e.randomisation v.date) = (omega arith, most) in
    let j = judged_held e f (held_day e.randomisation v.date) v marks sizes in
    let least = nadir_least e.disease f.earlier (visit_of v marks sizes) in
    let nadir = w.nadir in
    record {
      nadir = omega arith;
      latestday = day;
      deathday = w.deathday;
      event = event_within j day f.event w.event;
      counting = counting_or_not (counting_closed_held f) (counting_within j day f.counting w.counting);
    }
  where
    counting_or_not : {c : CountingVisits} (x : Bool) → CountingWithin c → CountingWithin (pick x f.counting c)
    counting_or_not true k = w.counting
    counting_or_not false k = k
adding_within e f (E.Therapy d) marks sizes w r =
    let day = on_or_after e.randomisation f d w (not_early e f (held_day e.randomisation d) (E.Therapy d) marks r) in
    later_within f _ true f.deathday w day w.deathday
adding_within e f (E.Death d) marks sizes w r =
    let day = on_or_after e.randomisation f d w (not_early e f (held_day e.randomisation d) (E.Death d) marks r) in
    later_within f _ f.therapyrecorded (Some (held_day e.randomisation d)) w day day
