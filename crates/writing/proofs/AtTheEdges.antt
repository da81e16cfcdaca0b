-- The examples are computed by the definitions. By its name this file is checked first, so that a wrong definition is refused at an example.
-- Assumes nothing.
use mathlib.Core.Path.{refl}
use Rattle.dates.specs.Calendar.{leap_year, days_in_month, date_exists}
use Rattle.records.specs.Refusals.{size_outside_limits, measured_outside_limits, not_zero_beyond_count, not_zero_unmeasured, outside_limits, not_zero, refusals_of_read}
use Rattle.writing.specs.Writing.{refusal_of_writing}
use Rattle.writing.specs.Examples.{FirstRefusals}

pub first_refusals : FirstRefusals
unfolding leap_year days_in_month date_exists size_outside_limits measured_outside_limits not_zero_beyond_count not_zero_unmeasured outside_limits not_zero refusals_of_read refusal_of_writing
first_refusals = record { bad_into_short = refl; into_twelve = refl; into_thirteen = refl; sizes = refl; numbers = refl }
