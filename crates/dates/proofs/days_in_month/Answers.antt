-- `dates::days_in_month` meets its contract: no month, February in a leap year or a common one, and the closed form of the other months.
-- Assumes nothing.
use mathlib.Core.Path.{sym, ◌∙◌}
use native.Mathlib.Omega.{arith}
use Rattle.laws.proofs.Tests.{tests}
use Rattle.dates.proofs.ClosedForms.{zero_month, month_past, february, other_month_lem}
use Rattle.dates.proofs.days_in_month.Goals as goal

pub returns-then-month-lt1 : goal.returns-then-month-lt1
returns-then-month-lt1 c = sym (zero_month _ _ (omega arith))

pub returns-then-month-gt12 : goal.returns-then-month-gt12
returns-then-month-gt12 c = sym (month_past _ _ (omega arith))

pub returns-then-leap_year : goal.returns-then-leap_year
returns-then-leap_year c = sym (february _ _ (search tests) ∙ rw (← c.leap_year.ensures, c.if-leap_year.true))

pub returns-then-month-eq2 : goal.returns-then-month-eq2
returns-then-month-eq2 c = sym (february _ _ (search tests) ∙ rw (← c.leap_year.ensures, c.if-leap_year.false))

pub returns : goal.returns
returns c = other_month_lem _ _ (omega arith) (omega arith) (search tests)
