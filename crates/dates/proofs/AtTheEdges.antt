-- The examples are computed by the definitions. By its name this file is checked first, so that a wrong definition is refused at an example.
-- Assumes nothing.
use mathlib.Core.Path.{refl}
use Rattle.dates.specs.Calendar.{leap_year, days_in_month, date_exists, days_of_years, days_of_months, day_number}
use Rattle.dates.specs.Answers.{day_number_of, study_day_of}
use Rattle.dates.specs.DayByDay.{day_before, days_before_month, number_by_cases}
use Rattle.dates.specs.Examples.{CalendarEdges, DaysBefore, StudyDays, ValuesOfCases}

pub calendar_edges : CalendarEdges
unfolding day_number_of date_exists day_number days_of_years days_of_months days_in_month leap_year
calendar_edges =
    record {
      leap_years = refl;
      first = refl;
      last = refl;
      last_number = refl;
      before = refl;
      after = refl;
      month0 = refl;
      month13 = refl;
      day0 = refl;
      leap_day2000 = refl;
      day_after = refl;
      february30 = refl;
      no_leap_day = refl;
      ends1999 = refl;
      ends2000 = refl;
      ends2004 = refl;
      ends2099 = refl;
      year1990 = refl;
      year1992 = refl;
      next_year = refl;
      first_days = refl;
      first_days_of_leap_year = refl;
      last30 = refl;
      last31 = refl;
      last32 = refl;
    }

pub days_before : DaysBefore
unfolding day_before number_by_cases days_of_years days_before_month days_in_month leap_year
days_before =
    record {
      first = refl;
      in_month = refl;
      second = refl;
      february = refl;
      march = refl;
      leap_march = refl;
      may = refl;
      new_year = refl;
      by_cases = refl;
    }

pub study_days : StudyDays
unfolding study_day_of date_exists day_number days_of_years days_of_months days_in_month leap_year
study_days = record { randomisation = refl; visit = refl; day_before = refl; no_date = refl; no_randomisation = refl }

pub values_of_cases : ValuesOfCases
values_of_cases = record { numbers = refl; days = refl }
