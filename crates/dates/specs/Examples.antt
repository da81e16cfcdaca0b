-- Document 01, "Dates and records", and document 02, request 2: the edges of the range, leap days, each month, the day before, and study days; the values of the
-- declared cases. Proved in proofs/AtTheEdges.antt.
-- Assumes nothing.
use Rattle.std.specs.Prelude.{◌≡◌, true, false, List, [], ◌∷◌, map, ℕ, Ok, Err}
use Rattle.dates.specs.Calendar.{last_day_number, leap_year, date_exists, day_number}
use Rattle.dates.specs.Answers.{Counted, day_number_values, study_day_values, day_number_of, study_day_of}
use Rattle.dates.specs.Laws.{ymd}
use Rattle.dates.specs.DayByDay.{first_date, day_before, number_by_cases}
use Rattle.dates.specs.declared.StudyDayRefusal.TheVariants as S

abbrev pub months : List ℕ
months = 1 ∷ 2 ∷ 3 ∷ 4 ∷ 5 ∷ 6 ∷ 7 ∷ 8 ∷ 9 ∷ 10 ∷ 11 ∷ 12 ∷ []

-- no refusal and a day; 3 no such date in range; 10 day too early
abbrev pub on : ℕ → Counted
on n = record { refusal = 0; day = n }

abbrev pub no_such_date : Counted
no_such_date = record { refusal = 3; day = 0 }

abbrev pub too_early : Counted
too_early = record { refusal = 10; day = 0 }

pub record CalendarEdges : Type 0 where
  -- Gregorian dates: a century is a leap year where 400 divides it
  pub leap_years : map leap_year (1900 ∷ 2000 ∷ 2019 ∷ 2020 ∷ 2100 ∷ []) ≡ false ∷ true ∷ false ∷ true ∷ false ∷ []
  -- from 1990-01-01 to 2099-12-31
  pub first : day_number_of (ymd 1990 1 1) ≡ on 1
  pub last : day_number_of (ymd 2099 12 31) ≡ on 40177
  pub last_number : day_number (ymd 2099 12 31) ≡ last_day_number
  pub before : day_number_of (ymd 1989 12 31) ≡ no_such_date
  pub after : day_number_of (ymd 2100 1 1) ≡ no_such_date
  -- no month 0 and no month 13, no day 0
  pub month0 : day_number_of (ymd 2020 0 1) ≡ no_such_date
  pub month13 : day_number_of (ymd 2020 13 1) ≡ no_such_date
  pub day0 : day_number_of (ymd 2020 1 0) ≡ no_such_date
  -- leap days, and the day after
  pub leap_day2000 : day_number_of (ymd 2000 2 29) ≡ on 3712
  pub day_after : day_number_of (ymd 2000 3 1) ≡ on 3713
  pub february30 : day_number_of (ymd 2000 2 30) ≡ no_such_date
  pub no_leap_day : day_number_of (ymd 2023 2 29) ≡ no_such_date
  -- both ends of February in common years and leap years
  pub ends1999 : map day_number (ymd 1999 1 31 ∷ ymd 1999 2 1 ∷ ymd 1999 2 28 ∷ ymd 1999 3 1 ∷ []) ≡ 3318 ∷ 3319 ∷ 3346 ∷ 3347 ∷ []
  pub ends2000 : map day_number (ymd 2000 1 31 ∷ ymd 2000 2 1 ∷ ymd 2000 2 29 ∷ ymd 2000 3 1 ∷ []) ≡ 3683 ∷ 3684 ∷ 3712 ∷ 3713 ∷ []
  pub ends2004 : map day_number (ymd 2004 1 31 ∷ ymd 2004 2 1 ∷ ymd 2004 2 29 ∷ ymd 2004 3 1 ∷ []) ≡ 5144 ∷ 5145 ∷ 5173 ∷ 5174 ∷ []
  pub ends2099 : map day_number (ymd 2099 1 31 ∷ ymd 2099 2 1 ∷ ymd 2099 2 28 ∷ ymd 2099 3 1 ∷ []) ≡ 39843 ∷ 39844 ∷ 39871 ∷ 39872 ∷ []
  -- the last day of a common year and of a leap year, and the day after
  pub year1990 : day_number_of (ymd 1990 12 31) ≡ on 365
  pub year1992 : day_number_of (ymd 1992 12 31) ≡ on 1096
  pub next_year : day_number_of (ymd 1993 1 1) ≡ on 1097
  -- each month of a common year and of a leap year: its first day, and whether it has a 30th and a 31st
  pub first_days : map (λ (m : ℕ). day_number (ymd 1990 m 1)) months
      ≡ 1 ∷ 32 ∷ 60 ∷ 91 ∷ 121 ∷ 152 ∷ 182 ∷ 213 ∷ 244 ∷ 274 ∷ 305 ∷ 335 ∷ []
  pub first_days_of_leap_year : map (λ (m : ℕ). day_number (ymd 1992 m 1)) months
      ≡ 731 ∷ 762 ∷ 791 ∷ 822 ∷ 852 ∷ 883 ∷ 913 ∷ 944 ∷ 975 ∷ 1005 ∷ 1036 ∷ 1066 ∷ []
  pub last30 : map (λ (m : ℕ). date_exists (ymd 1990 m 30)) months
      ≡ true ∷ false ∷ true ∷ true ∷ true ∷ true ∷ true ∷ true ∷ true ∷ true ∷ true ∷ true ∷ []
  pub last31 : map (λ (m : ℕ). date_exists (ymd 1990 m 31)) months
      ≡ true ∷ false ∷ true ∷ false ∷ true ∷ false ∷ true ∷ true ∷ false ∷ true ∷ false ∷ true ∷ []
  pub last32 : map (λ (m : ℕ). date_exists (ymd 1990 m 32)) months
      ≡ false ∷ false ∷ false ∷ false ∷ false ∷ false ∷ false ∷ false ∷ false ∷ false ∷ false ∷ false ∷ []

-- the first date; the day before, in a month, across the ends of months and across a year; and the number by the cases of the months
pub record DaysBefore : Type 0 where
  pub first : first_date ≡ ymd 1990 1 1
  pub in_month : day_before (ymd 2023 3 31) ≡ ymd 2023 3 30
  pub second : day_before (ymd 2023 1 2) ≡ ymd 2023 1 1
  pub february : day_before (ymd 2023 2 1) ≡ ymd 2023 1 31
  pub march : day_before (ymd 2023 3 1) ≡ ymd 2023 2 28
  pub leap_march : day_before (ymd 2024 3 1) ≡ ymd 2024 2 29
  pub may : day_before (ymd 2023 5 1) ≡ ymd 2023 4 30
  pub new_year : day_before (ymd 2000 1 1) ≡ ymd 1999 12 31
  pub by_cases : map number_by_cases (ymd 1990 1 1 ∷ ymd 1990 12 31 ∷ ymd 1992 2 29 ∷ ymd 1992 12 31 ∷ ymd 2000 3 1 ∷ [])
      ≡ 1 ∷ 365 ∷ 790 ∷ 1096 ∷ 3713 ∷ []

-- study days count from randomisation (day 1)
pub record StudyDays : Type 0 where
  pub randomisation : study_day_of (ymd 2020 1 1) (ymd 2020 1 1) ≡ on 1
  pub visit : study_day_of (ymd 2020 2 12) (ymd 2020 1 1) ≡ on 43
  pub day_before : study_day_of (ymd 2019 12 31) (ymd 2020 1 1) ≡ too_early
  pub no_date : study_day_of (ymd 2021 2 29) (ymd 2020 1 1) ≡ no_such_date
  pub no_randomisation : study_day_of (ymd 2021 3 1) (ymd 2021 2 29) ≡ no_such_date

-- a number or a day; 3 no such date in range; 10 day too early
pub record ValuesOfCases : Type 0 where
  pub numbers : map day_number_values (Ok (record { 0 = 365 }) ∷ Err (record {}) ∷ []) ≡ on 365 ∷ no_such_date ∷ []
  pub days : map study_day_values (Ok (record { 0 = 43 }) ∷ Err S.BeforeRandomisation ∷ Err S.NoSuchDate ∷ []) ≡ on 43 ∷ too_early ∷ no_such_date ∷ []
