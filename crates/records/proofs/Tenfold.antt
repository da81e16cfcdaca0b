-- A record with each size times ten is refused by ten times the limits as the record is by the limits.
-- Assumes nothing.
use mathlib.Core.Path.{◌≡◌, refl, ap, ◌∙◌}
use mathlib.Core.Bool.{Bool, true, false, not}
use mathlib.Core.List.{List, [], ◌∷◌}
use Prim.Native.Nat.{ℕ, ◌*◌}
use native.Mathlib.Omega.{arith}
use lib.Dec.{ltb, leb}
use lib.ListN.{get_or, get_or-map}
use Rattle.laws.specs.Choice.{both, either, pick}
use Rattle.laws.specs.Refusals.{◌when◌}
use Rattle.laws.proofs.Tests.{ltb_same}
use Rattle.laws.proofs.SomeNumber.{some_same}
use Rattle.records.specs.Refusals.{most_targets, least_size, size_outside_limits, measured_outside_limits, not_zero_beyond_count, not_zero_unmeasured, target_at, some_target, without_disease, outside_limits, not_zero, refusals_of_read}
use Rattle.records.specs.Tenfold.{times_ten, tenfold, TenfoldRefusals}
use Rattle.records.specs.Forms.{old_unit, new_unit}
use Rattle.records.specs.Entries.{date_of}
use Rattle.records.specs.declared.Entry.{Entry}
use Rattle.records.specs.declared.Entry.TheVariants.{Baseline, Visit, Therapy, Death}
use Rattle.records.specs.declared.Record.{Record}
use Rattle.dates.specs.Calendar.{date_exists}

pub size_at : (sizes : List ℕ) (i : ℕ) → get_or (times_ten sizes) i 0 ≡ 10 * get_or sizes i 0
size_at sizes i = get_or-map (λ (size : ℕ). 10 * size) sizes i 0

-- a test of each target that does not change with its size times ten
some_target_lem : (f g : ℕ → Bool → ℕ → Bool) (marks : List Bool) (sizes : List ℕ) → ((i : ℕ) (mark : Bool) (size : ℕ) → f i mark (10 * size) ≡ g i mark size) →
    some_target f marks (times_ten sizes) ≡ some_target g marks sizes
some_target_lem f g marks sizes e =
    some_same (target_at f marks (times_ten sizes)) (target_at g marks sizes) most_targets
    (λ i. ap (f i (get_or marks i false)) (size_at sizes i) ∙ e i (get_or marks i false) (get_or sizes i 0))

above_zero : (size : ℕ) → ltb 0 (10 * size) ≡ ltb 0 size
above_zero size = ltb_same 0 (10 * size) 0 size (omega arith) (omega arith)

module _ (unit : ℕ) where
  least : (node : Bool) (size : ℕ) → ltb (10 * size) (least_size (10 * unit) node) ≡ ltb size (least_size unit node)
  least true size = ltb_same (10 * size) (15 * (10 * unit)) size (15 * unit) (omega arith) (omega arith)
  least false size = ltb_same (10 * size) (10 * (10 * unit)) size (10 * unit) (omega arith) (omega arith)

  largest : (size : ℕ) → ltb (500 * (10 * unit)) (10 * size) ≡ ltb (500 * unit) size
  largest size = ltb_same (500 * (10 * unit)) (10 * size) (500 * unit) size (omega arith) (omega arith)

  outside_same : (e : Entry) (marks : List Bool) (sizes : List ℕ) → outside_limits (10 * unit) e marks (times_ten sizes) ≡ outside_limits unit e marks sizes
  unfolding outside_limits size_outside_limits measured_outside_limits
  outside_same (Baseline b) marks sizes =
      ap (λ (x : Bool). both b.assessed (either (ltb most_targets b.count) (either (without_disease b) x)))
      (some_target_lem (size_outside_limits (10 * unit) b.count) (size_outside_limits unit b.count) marks sizes
      (λ i node size. λ j. both (ltb i b.count) (either (least node size j) (largest size j))))
  outside_same (Visit v) marks sizes =
      some_target_lem (λ (i : ℕ). measured_outside_limits (10 * unit)) (λ (i : ℕ). measured_outside_limits unit) marks sizes
      (λ i measured size. ap (both measured) (largest size))
  outside_same (Therapy d) marks sizes = refl
  outside_same (Death d) marks sizes = refl

beyond_same : (count : ℕ) (marks : List Bool) (sizes : List ℕ) →
    some_target (not_zero_beyond_count count) marks (times_ten sizes) ≡ some_target (not_zero_beyond_count count) marks sizes
unfolding not_zero_beyond_count
beyond_same count marks sizes =
    some_target_lem (not_zero_beyond_count count) (not_zero_beyond_count count) marks sizes
    (λ i mark size. ap (λ (x : Bool). both (leb count i) (either mark x)) (above_zero size))

zeros_same : (e : Entry) (marks : List Bool) (sizes : List ℕ) → not_zero e marks (times_ten sizes) ≡ not_zero e marks sizes
unfolding not_zero not_zero_unmeasured
zeros_same (Baseline b) marks sizes =
    λ j.
    pick b.assessed (beyond_same b.count marks sizes j)
    (either b.nontarget (either (ltb 0 b.count) (beyond_same 0 marks sizes j)))
zeros_same (Visit v) marks sizes =
    some_target_lem (λ (i : ℕ). not_zero_unmeasured) (λ (i : ℕ). not_zero_unmeasured) marks sizes
    (λ i measured size. ap (both (not measured)) (above_zero size))
zeros_same (Therapy d) marks sizes = beyond_same 0 marks sizes
zeros_same (Death d) marks sizes = beyond_same 0 marks sizes

pub same_refusals : (r : Record) (badstatus spare : Bool) → refusals_of_read new_unit (tenfold r) badstatus spare ≡ refusals_of_read old_unit r badstatus spare
unfolding refusals_of_read
same_refusals r badstatus spare =
    λ j.
    3 when not (date_exists (date_of r.entry))
    ∷ 4 when either badstatus (outside_same old_unit r.entry r.marks r.sizes j)
    ∷ 5 when either spare (zeros_same r.entry r.marks r.sizes j)
    ∷ []

pub tenfold_refusals : TenfoldRefusals
tenfold_refusals = record { same = same_refusals }
