-- `dates::date_exists` meets its contract: at each return the tests that led there decide the definition's.
-- Assumes nothing.
use Rattle.laws.proofs.Tests.{tests}
use Rattle.dates.specs.Calendar.{date_exists}
use Rattle.dates.proofs.date_exists.Goals as goal

-- a year after LAST_YEAR is after 2099
too_late : goal.returns-else-date-le-LAST_YEAR
too_late c = unfold date_exists in search tests

pub returns-then-date-le-LAST_YEAR : goal.returns-then-date-le-LAST_YEAR
returns-then-date-le-LAST_YEAR c = unfold date_exists in search (tests, c.day_exists.ensures)

pub returns-else-date-le-LAST_YEAR : goal.returns-else-date-le-LAST_YEAR
returns-else-date-le-LAST_YEAR c = too_late c

pub returns-else-date-ge-FIRST_YEAR : goal.returns-else-date-ge-FIRST_YEAR
returns-else-date-ge-FIRST_YEAR c = unfold date_exists in search tests
