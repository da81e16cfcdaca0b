-- The examples of the output are computed by the definitions. By its name this file is checked behind the round trips, so that bytes that are not the
-- record's are refused there.
-- Assumes nothing.
use mathlib.Core.Path.{refl}
use Rattle.dates.specs.Calendar.{leap_year, days_in_month, date_exists}
use Rattle.records.specs.Refusals.{size_outside_limits, not_zero_beyond_count, without_disease, outside_limits, not_zero, refusals_of_read}
use Rattle.codec.specs.Bytes.{record_number, bytes_of}
use Rattle.writing.specs.Writing.{refusal_of_writing, output_of}
use Rattle.writing.specs.Examples.{Outputs}

pub outputs : Outputs
unfolding leap_year days_in_month date_exists size_outside_limits not_zero_beyond_count without_disease outside_limits not_zero refusals_of_read record_number bytes_of refusal_of_writing output_of
outputs = record { into_thirteen = refl; into_fifteen = refl; too_short = refl; bad_record = refl }
