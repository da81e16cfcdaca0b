-- Document 01, "Dates and records": Gregorian dates from 1990-01-01 to 2099-12-31, and their numbers.
-- Assumes nothing.
use Rattle.std.specs.Prelude.{ℕ, zero, suc, ◌+◌, ◌-◌, ◌%◌, Bool, not, List, [], ◌∷◌, ltb, leb, eqb, get_or}
use Rattle.laws.specs.Choice.{both, either, pick}
use Rattle.dates.specs.declared.Date.{Date}

abbrev pub first_year : ℕ
first_year = 1990

abbrev pub last_year : ℕ
last_year = 2099

-- the number of 2099-12-31
abbrev pub last_day_number : ℕ
last_day_number = 40177

-- divisible by 4, and where divisible by 100 also by 400
unfoldable pub leap_year : ℕ → Bool
leap_year y = both (eqb (y % 4) 0) (either (not (eqb (y % 100) 0)) (eqb (y % 400) 0))

-- the days of each month of a common year, January at 1
abbrev pub common_days : List ℕ
common_days = 0 ∷ 31 ∷ 28 ∷ 31 ∷ 30 ∷ 31 ∷ 30 ∷ 31 ∷ 31 ∷ 30 ∷ 31 ∷ 30 ∷ 31 ∷ []

-- the days of a month in a leap year or a common one; 0 where there is no such month
unfoldable pub days_in_month : Bool → ℕ → ℕ
days_in_month leap m = pick (ltb 12 m) 0 (pick (both (eqb m 2) leap) 29 (get_or common_days m 0))

-- the date is in the calendar and in range: where it is not, refusal 3 meets
unfoldable pub date_exists : Date → Bool
date_exists d =
    both (leb first_year d.year)
    (both (leb d.year last_year) (both (leb 1 d.day) (leb d.day (days_in_month (leap_year d.year) d.month))))

-- the days of the k years from the first on
unfoldable pub days_of_years : ℕ → ℕ
days_of_years zero = 0
days_of_years (suc k) = days_of_years k + pick (leap_year (first_year + k)) 366 365

-- the days of the first k months of a year
unfoldable pub days_of_months : Bool → ℕ → ℕ
days_of_months leap zero = 0
days_of_months leap (suc k) = days_of_months leap k + days_in_month leap (suc k)

-- the calendar day number of a date: 1990-01-01 has 1
unfoldable pub day_number : Date → ℕ
day_number d = days_of_years (d.year - first_year) + days_of_months (leap_year d.year) (d.month - 1) + d.day
