-- Document 01, "Dates and records" and "Where a call stops", 3 and 10: what the calls on dates answer, in its numbers.
-- Assumes nothing.
use Rattle.std.specs.Prelude.{ℕ, ◌+◌, ◌-◌, leb, Result, Ok, Err}
use Rattle.laws.specs.Choice.{both, pick}
use Rattle.dates.specs.Calendar.{date_exists, day_number}
use Rattle.dates.specs.declared.Date.{Date}
use Rattle.dates.specs.declared.DayNumber.{DayNumber}
use Rattle.dates.specs.declared.StudyDay.{StudyDay}
use Rattle.dates.specs.declared.NoSuchDate.{NoSuchDate}
use Rattle.dates.specs.declared.StudyDayRefusal.{StudyDayRefusal}
use Rattle.dates.specs.declared.StudyDayRefusal.TheVariants as S

-- a refusal's number in document 01, 0 for none, and the day; 0 stands beside a refusal
pub record Counted : Type 0 where
  pub refusal : ℕ
  pub day : ℕ

abbrev pub counted : ℕ → Counted
counted n = record { refusal = 0; day = n }

abbrev pub refused : ℕ → Counted
refused n = record { refusal = n; day = 0 }

abbrev pub day_number_values : Result DayNumber NoSuchDate → Counted
day_number_values (Ok n) = counted n.0
day_number_values (Err e) = refused 3

abbrev pub study_day_values : Result StudyDay StudyDayRefusal → Counted
study_day_values (Ok d) = counted d.0
study_day_values (Err S.BeforeRandomisation) = refused 10
study_day_values (Err S.NoSuchDate) = refused 3

unfoldable pub day_number_of : Date → Counted
day_number_of d = pick (date_exists d) (counted (day_number d)) (refused 3)

-- the study day of a date, counted from the randomisation date as day 1; 10, too early, for a date before it
unfoldable pub study_day_of : Date → Date → Counted
study_day_of d randomisation =
    pick (both (date_exists d) (date_exists randomisation))
    (pick (leb (day_number randomisation) (day_number d)) (counted (day_number d - day_number randomisation + 1)) (refused 10))
    (refused 3)
