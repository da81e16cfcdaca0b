-- `dates::day_number` meets its contract: an existing date is in the range of both closed forms, and the sum is the definition's.
-- Assumes nothing.
use mathlib.Core.Path.{◌≡◌, sym, ◌∙◌}
use mathlib.Core.Bool.{Bool, not, true, false}
use Prim.Native.Nat.{ℕ, ◌+◌, ◌-◌, ◌≤◌}
use native.Mathlib.Omega.{arith}
use lib.Dec.{ltb}
use borrow.Author.Tests.{not-true, not-false}
use Rattle.laws.specs.Choice.{both, pick}
use Rattle.dates.specs.Calendar.{first_year, last_year, leap_year, date_exists, days_of_years, days_of_months, day_number}
use Rattle.dates.specs.Answers.{counted, refused, day_number_of}
use Rattle.dates.specs.declared.Date.{Date}
use Rattle.dates.proofs.ClosedForms.{exists, leap_day}
use Rattle.dates.proofs.day_number.Goals as goal

no_date : (d : Date) (b : Bool) → b ≡ date_exists d → not b ≡ true → refused 3 ≡ day_number_of d
unfolding day_number_of
no_date d b e t = rw (← e, not-true b t)

-- a date that passed the test
module _ (d : Date) (b : Bool) (e : b ≡ date_exists d) (t : not b ≡ false) where
  year_in_range : (first_year ≤ d.year) × (d.year ≤ last_year)
  year_in_range = let v = exists d (sym e ∙ not-false b t) in (v.not_before, v.not_after)

  month_in_range : (1 ≤ d.month) × (d.month ≤ 12)
  month_in_range = let v = exists d (sym e ∙ not-false b t) in (v.first_month, v.last_month)

  number : (years months : ℕ) →
      (years ≡ days_of_years (d.year - first_year) + pick (both (ltb 2 d.month) (leap_year d.year)) 1 0) × (years ≤ 39813) →
      (months ≡ days_of_months false (d.month - 1)) × (months ≤ 334) → counted (years + months + d.day) ≡ day_number_of d
  unfolding day_number_of day_number
  number years months y m =
      let l = leap_day (leap_year d.year) d.month month_in_range.1 in
      let n : years + months ≡ days_of_years (d.year - first_year) + days_of_months (leap_year d.year) (d.month - 1) = omega arith in
      rw (← e, not-false b t, n)

pub returns-then-not-date_exists : goal.returns-then-not-date_exists
returns-then-not-date_exists c = search no_date

pub days_before_year-years-requires : goal.days_before_year-years-requires
days_before_year-years-requires c = year_in_range _ _ c.date_exists.ensures c.if-not-date_exists.false-raw

pub days_before_month-months-requires : goal.days_before_month-months-requires
days_before_month-months-requires c = month_in_range _ _ c.date_exists.ensures c.if-not-date_exists.false-raw

pub returns : goal.returns
returns c = search number
