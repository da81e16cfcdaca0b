-- The examples are computed by the definitions. By its name this file is checked first, so that a wrong definition is refused at an example.
-- Assumes nothing.
use mathlib.Core.Path.{refl}
use Rattle.dates.specs.Calendar.{leap_year, days_in_month, date_exists}
use Rattle.records.specs.Refusals.{size_outside_limits, measured_outside_limits, not_zero_beyond_count, not_zero_unmeasured, without_disease, outside_limits, not_zero, refusals_of_read}
use Rattle.records.specs.Examples.{OwnRefusals, TwoForms, NumbersOfCases}

pub own_refusals : OwnRefusals
unfolding leap_year days_in_month date_exists size_outside_limits measured_outside_limits not_zero_beyond_count not_zero_unmeasured without_disease outside_limits not_zero refusals_of_read
own_refusals =
    record {
      node150 = refl;
      node149 = refl;
      other100 = refl;
      other99 = refl;
      size5000 = refl;
      size5001 = refl;
      five_targets = refl;
      fifth_target = refl;
      six_targets = refl;
      without_disease = refl;
      nontarget_alone = refl;
      measured0 = refl;
      measured5000 = refl;
      measured5001 = refl;
      no_status = refl;
      mark_beyond = refl;
      size_beyond = refl;
      unmeasured = refl;
      unmeasured1 = refl;
      missing_alone = refl;
      missing_nontarget = refl;
      missing_count1 = refl;
      missing_count7 = refl;
      missing_node = refl;
      missing_size = refl;
      therapy_mark = refl;
      therapy_target = refl;
      death_mark = refl;
      death_size = refl;
      death_target = refl;
      spare_bit = refl;
      date_first = refl;
      limits_next = refl;
    }

pub two_forms : TwoForms
two_forms = record { old = refl; new = refl; sizes = refl; whole = refl }

pub numbers_of_cases : NumbersOfCases
numbers_of_cases = record { kinds = refl; dates = refl; statuses = refl; refusals = refl; answers = refl }
