-- Document 02, request 2: the day before a date, and the numbers of dates counted day by day. Proved in proofs/DayByDay.antt.
-- Assumes nothing.
use Rattle.std.specs.Prelude.{◌≡◌, Bool, true, ℕ, ◌+◌, ◌-◌, List, [], ◌∷◌, ltb, get_or}
use Rattle.laws.specs.Choice.{both, pick}
use Rattle.dates.specs.Calendar.{first_year, leap_year, days_in_month, date_exists, days_of_years, day_number}
use Rattle.dates.specs.Laws.{earlier, ymd}
use Rattle.dates.specs.declared.Date.{Date}

abbrev pub first_date : Date
first_date = ymd first_year 1 1

-- the day less one; on the first of a month the last day of the month before; on 1 January 31 December of the year before
unfoldable pub day_before : Date → Date
day_before d =
    pick (ltb 1 d.day) (ymd d.year d.month (d.day - 1))
    (pick (ltb 1 d.month) (ymd d.year (d.month - 1) (days_in_month (leap_year d.year) (d.month - 1)))
    (ymd (d.year - 1) 12 31))

-- a way of numbering dates: the first has 1, and each other date in range a number one above that of the day before
pub record CountsDays (number : Date → ℕ) : Type 0 where
  pub first : number first_date ≡ 1
  pub one_above : (d : Date) → date_exists d ≡ true → (d ≡ first_date → ⊥) → number d ≡ number (day_before d) + 1

-- document 02, request 2: the days before each month of a common year, January first
abbrev pub common_days_before : List ℕ
common_days_before = 0 ∷ 31 ∷ 59 ∷ 90 ∷ 120 ∷ 151 ∷ 181 ∷ 212 ∷ 243 ∷ 273 ∷ 304 ∷ 334 ∷ []

-- the days of a year before a month, in a leap year one more from March on
unfoldable pub days_before_month : Bool → ℕ → ℕ
days_before_month leap m = get_or common_days_before (m - 1) 0 + pick (both leap (ltb 2 m)) 1 0

-- the day number of a date by the cases of the months
unfoldable pub number_by_cases : Date → ℕ
number_by_cases d = days_of_years (d.year - first_year) + days_before_month (leap_year d.year) d.month + d.day

pub record DayByDay : Type 0 where
  -- the day before each date in range but the first is a date in range, and earlier
  pub in_range : (d : Date) → date_exists d ≡ true → (d ≡ first_date → ⊥) → date_exists (day_before d) ≡ true
  pub is_earlier : (d : Date) → date_exists d ≡ true → (d ≡ first_date → ⊥) → earlier (day_before d) d ≡ true
  -- the first date has day number 1, and each other date in range a day number one above that of the day before
  pub counted : CountsDays day_number
  -- no other way of numbering does that: two that do agree on every date in range
  pub one_way : (f g : Date → ℕ) → CountsDays f → CountsDays g → (d : Date) → date_exists d ≡ true → f d ≡ g d
  -- the cases of the months are the sums of the months before
  pub by_cases : (d : Date) → date_exists d ≡ true → day_number d ≡ number_by_cases d
