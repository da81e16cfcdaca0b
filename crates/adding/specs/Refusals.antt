-- Document 01, "Where a call stops", 8 to 11, judged on the held subject.
-- Assumes nothing.
use Rattle.std.specs.Prelude.{ℕ, Bool, false, not, List, [], ◌∷◌, leb, ltb, eqb, Option, Result, Ok, Err}
use Rattle.laws.specs.Refusals.{Refusal, ◌when◌}
use Rattle.dates.specs.declared.StudyDay.{StudyDay}
use Rattle.records.specs.declared.Entry.{Entry}
use Rattle.records.specs.declared.Entry.TheVariants as E
use Rattle.records.specs.Entries.{kind_number}
use Rattle.records.specs.Refusals.{own_number}
use Rattle.outcome_rules.specs.Values.{is_recorded, day_value}
use Rattle.outcome_rules.specs.LawfulLists.{fits_by}
use Rattle.subject.specs.declared.Enrolment.{Enrolment}
use Rattle.subject.specs.declared.FollowUp.{FollowUp}
use Rattle.adding.specs.declared.VisitResponse.{VisitResponse}
use Rattle.adding.specs.declared.AddRefusal.{AddRefusal}
use Rattle.adding.specs.declared.AddRefusal.TheVariants as A

-- the responses where a visit was added, none where a therapy or a death was, or a refusal
abbrev pub AddAnswer : Type 0
AddAnswer = Result (Option VisitResponse) AddRefusal

-- the number of each case in document 01
abbrev pub refusal_number : AddRefusal → ℕ
refusal_number A.WrongLength = 1
refusal_number A.NoSuchKind = 2
refusal_number A.SecondBaseline = 8
refusal_number A.AfterDeath = 9
refusal_number A.TooEarly = 10
refusal_number A.Misfit = 11
refusal_number A.OutOfRange = 12
refusal_number (A.Own own) = own_number own

-- 0 where no refusal meets
abbrev pub add_number : {A : Type 0} → Result A AddRefusal → ℕ
add_number (Ok x) = 0
add_number (Err refusal) = refusal_number refusal

-- each visit is later than the latest day so far, each therapy or death on or after it
abbrev pub too_early_held : FollowUp → StudyDay → Entry → Bool
too_early_held f day (E.Baseline b) = false
too_early_held f day (E.Visit v) = leb day.0 f.latestday.0
too_early_held f day (E.Therapy d) = ltb day.0 f.latestday.0
too_early_held f day (E.Death d) = ltb day.0 f.latestday.0

abbrev pub misfits_held : Enrolment → Entry → List Bool → Bool
misfits_held e (E.Baseline b) measured = false
misfits_held e (E.Visit v) measured = not (fits_by e.disease.count e.nontarget v.status measured)
misfits_held e (E.Therapy d) measured = false
misfits_held e (E.Death d) measured = false

-- 9 after a death; 10 day too early; 11 visit doesn't fit baseline
abbrev pub refusals_of_later_held : FollowUp → Bool → Bool → List Refusal
refusals_of_later_held f early misfit = 9 when is_recorded (day_value f.deathday) ∷ 10 when early ∷ 11 when misfit ∷ []

-- 8 a baseline, before these
unfoldable pub refusals_of_entry_held : Enrolment → FollowUp → StudyDay → Entry → List Bool → List Refusal
refusals_of_entry_held e f day r marks = 8 when eqb (kind_number r) 1 ∷ refusals_of_later_held f (too_early_held f day r) (misfits_held e r marks)
