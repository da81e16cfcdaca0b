-- The subject opened is in range, and the blank is not.
-- Assumes nothing.
use mathlib.Core.Path.{◌≡◌, refl}
use mathlib.Core.Bool.{Bool, true, false}
use mathlib.Core.List.{List}
use Prim.Native.Nat.{ℕ, zero, suc, ◌+◌, ◌*◌, ◌≤◌, ◌<◌}
use native.Mathlib.Omega.{arith}
use lib.Dec.{ltb}
use lib.ListN.{get_or}
use Rattle.laws.specs.Choice.{pick}
use Rattle.dates.specs.Calendar.{date_exists}
use Rattle.records.specs.declared.BaselineEntry.{BaselineEntry}
use Rattle.records.specs.Refusals.{most_targets, largest_size}
use Rattle.records.specs.Forms.{new_unit}
use Rattle.response_rules.specs.SumOfDiameters.{sum_where, baseline_sum}
use Rattle.subject.specs.Range.{enrolment_in_range, in_range}
use Rattle.subject.specs.Opening.{subject_of_baseline, blank_subject}
use Rattle.subject.specs.Laws.{SubjectWithin}

pub blank_outside : in_range blank_subject ≡ false
unfolding enrolment_in_range in_range blank_subject date_exists
blank_outside = refl

sum_most : (marked : ℕ → Bool) (sizes : List ℕ) (n : ℕ) → ((k : ℕ) → k < n → get_or sizes k 0 ≤ largest_size new_unit) → sum_where marked sizes n ≤ n * largest_size new_unit
sum_most marked sizes zero small = omega arith
sum_most marked sizes (suc n) small = go (marked n) (sum_most marked sizes n (λ k h. small k (omega arith))) (small n (omega arith))
  where
    go : (x : Bool) → sum_where marked sizes n ≤ n * largest_size new_unit → get_or sizes n 0 ≤ largest_size new_unit →
        sum_where marked sizes n + pick x (get_or sizes n 0) 0 ≤ suc n * largest_size new_unit
    go true h k = omega arith
    go false h k = omega arith

pub opening_within : (b : BaselineEntry) (nodes : List Bool) (sizes : List ℕ) → date_exists b.date ≡ true → b.count ≤ most_targets →
    ((k : ℕ) → k < most_targets → get_or sizes k 0 ≤ largest_size new_unit) → SubjectWithin (subject_of_baseline b nodes sizes)
unfolding subject_of_baseline baseline_sum
opening_within b nodes sizes date count small =
    let sum = sum_most (λ (i : ℕ). ltb i b.count) sizes most_targets small in
    record {
      enrolment = record { randomisation = date; count = count; baselinesum = sum };
      followup =
          record {
            nadir = sum;
            latestday = (omega arith, omega arith);
            deathday = tt;
            event = record { lastvisit = (omega arith, omega arith); progression = tt; lastevaluable = tt };
            counting = record { firstresponse = tt; crstart = tt };
          };
    }
