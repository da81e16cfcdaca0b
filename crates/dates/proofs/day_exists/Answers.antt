-- `dates::day_exists` meets its contract: an early day is in every month, and any other is compared with its month's days.
-- Assumes nothing.
use Rattle.laws.proofs.Tests.{tests}
use Rattle.dates.proofs.ClosedForms.{early_day}
use Rattle.dates.proofs.day_exists.Goals as goal

pub returns-then-day : goal.returns-then-day
returns-then-day c = search early_day

pub returns-then-day-ge1 : goal.returns-then-day-ge1
returns-then-day-ge1 c = search (tests, c.days_in_month.ensures)

pub returns-else-day-ge1 : goal.returns-else-day-ge1
returns-else-day-ge1 c = search tests
