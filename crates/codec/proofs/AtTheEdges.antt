-- The examples are computed by the definitions. By its name this file is checked first, so that a wrong definition is refused at an example.
-- Assumes nothing.
use mathlib.Core.Path.{refl}
use Rattle.dates.specs.Calendar.{leap_year, days_in_month, date_exists}
use Rattle.records.specs.Refusals.{size_outside_limits, measured_outside_limits, not_zero_beyond_count, not_zero_unmeasured, without_disease, outside_limits, not_zero, refusals_of_read}
use Rattle.codec.specs.Bytes.{record_number, bytes_of, bytes_number}
use Rattle.codec.specs.Reading.{status_from, baseline_in, visit_fields_in, visit_fields_of, visit_in, spare_in, raw_in, refusals_of_record_number, refusals_of_bytes, record_of_bytes}
use Rattle.codec.specs.Examples.{BytesOfEachKind, ReadOfEachKind, FirstRefusals, OldRecords, FieldsByTheirBits, FieldsOfVisits}

pub bytes_of_each_kind : BytesOfEachKind
unfolding record_number bytes_of
bytes_of_each_kind =
    record {
      printed = refl;
      targets = refl;
      without_nontarget = refl;
      baseline_missing = refl;
      visit = refl;
      measured = refl;
      statuses = refl;
      therapy = refl;
      death = refl;
    }

pub read_of_each_kind : ReadOfEachKind
unfolding leap_year days_in_month date_exists size_outside_limits measured_outside_limits not_zero_beyond_count not_zero_unmeasured without_disease outside_limits not_zero refusals_of_read bytes_number status_from baseline_in visit_in spare_in raw_in refusals_of_record_number refusals_of_bytes record_of_bytes
read_of_each_kind =
    record {
      printed = refl;
      targets = refl;
      without_nontarget = refl;
      baseline_missing = refl;
      visit = refl;
      measured = refl;
      statuses = refl;
      therapy = refl;
      death = refl;
      refused = refl;
    }

pub first_refusals : FirstRefusals
unfolding leap_year days_in_month date_exists size_outside_limits measured_outside_limits not_zero_beyond_count not_zero_unmeasured without_disease outside_limits not_zero refusals_of_read bytes_number status_from baseline_in visit_in spare_in raw_in refusals_of_record_number refusals_of_bytes
first_refusals =
    record {
      no_bytes = refl;
      twelve_bytes = refl;
      fourteen_bytes = refl;
      kind0 = refl;
      kind5 = refl;
      no_date = refl;
      status5 = refl;
      spare_of_baseline = refl;
      spare_of_visit = refl;
      first_of_therapy = refl;
      last_of_therapy = refl;
      first_of_death = refl;
      last_of_death = refl;
      bytes = refl;
      numbers = refl;
    }

pub old_records : OldRecords
unfolding record_number bytes_of leap_year days_in_month date_exists size_outside_limits measured_outside_limits not_zero_beyond_count not_zero_unmeasured without_disease outside_limits not_zero refusals_of_read bytes_number status_from baseline_in visit_in spare_in raw_in refusals_of_record_number refusals_of_bytes record_of_bytes
old_records =
    record {
      written = refl;
      read = refl;
      lengths = refl;
      others = refl;
      nodes = refl;
      measured = refl;
      spare_of_baseline = refl;
      spare_of_visit = refl;
      spare_of_death = refl;
      beside_tenfold = refl;
    }

pub fields_by_their_bits : FieldsByTheirBits
unfolding bytes_number
fields_by_their_bits = record { head = refl; targets = refl; measured = refl; visit = refl; sizes_alone = refl; old_visit = refl }

pub fields_of_visits : FieldsOfVisits
unfolding bytes_number status_from visit_fields_in visit_fields_of
fields_of_visits =
    record {
      printed = refl;
      no_status = refl;
      spare_bit = refl;
      therapy = refl;
      baseline = refl;
      no_bytes = refl;
      twelve_bytes = refl;
      fourteen_bytes = refl;
    }
