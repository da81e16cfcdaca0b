-- How much a change can be and how long its text: at most 100 % downwards, at most 4,900 % upwards.
-- Assumes nothing.
use mathlib.Core.Path.{◌≡◌, refl}
use mathlib.Core.Bool.{Bool, true, false, not}
use mathlib.Core.List.{List}
use Prim.Native.Nat.{ℕ, zero, suc, ◌+◌, ◌-◌, ◌*◌, ◌≤◌, ◌<◌}
use native.Mathlib.Nat.{div-lt_iff_lt-mul}
use native.Mathlib.Omega.{arith}
use lib.Dec.{leb, ltb, eqb}
use lib.ListN.{length, get_or}
use borrow.Author.Tests.{ltb-true, ltb-false, leb-false, eqb-false, lt-ltb, not-true}
use Rattle.laws.specs.Choice.{both, either, pick}
use Rattle.laws.proofs.Tests.{never, both_true, either_false}
use Rattle.laws.proofs.SomeNumber.{some_none}
use Rattle.records.specs.declared.Entry.TheVariants as E
use Rattle.records.specs.Refusals.{most_targets, largest_size, least_size, size_outside_limits, measured_outside_limits, target_at, without_disease, outside_limits, not_zero}
use Rattle.response_rules.specs.Inputs.{Visit}
use Rattle.response_rules.specs.SumOfDiameters.{sum_where, sum_of_diameters, baseline_sum, all_measured}
use Rattle.response_rules.specs.Change.{Tenths, none, signed, nearest, rounded_change, change_between, change_of}
use Rattle.outcome_rules.proofs.CompleteVisit.{limits_and_zeros}
use Rattle.outcome_rules.specs.StudyRecords.{Baseline, visit, disease, entry_of_baseline, entry_of_visit, baseline_passes, fields_pass}
use Rattle.outcome_rules.specs.LawfulLists.{measured_beyond, fits_by, fits}
use Rattle.listing_text.specs.Text.{tenths_text, change_text}
use Rattle.listing_text.proofs.TextLengths.{tenths_length}

pub record ChangeShort (c : Tenths) : Type 0 where
  pub tenths : c.tenths < 100000
  pub text : length (change_text c) ≤ 6

-- ---- between two sums

-- at most q where n is at most q × d
nearest_most : (n d q : ℕ) → 1 ≤ d → n ≤ q * d → nearest n d ≤ q
nearest_most n d q l h =
    let p : 0 < 2 * d = omega arith in
    let w = (div-lt_iff_lt-mul {k = 2 * d} {x = 2 * n + d} {y = suc q} p).1 (omega arith) in
    omega arith

-- a minus sign where it is downwards by a tenth or more
down_short : (x : Bool) (t : ℕ) → t ≤ 1000 → ChangeShort (signed x t)
down_short x t h = record { tenths = omega arith; text = go x (tenths_length t 3 (omega arith) (omega arith) (omega arith)) }
  where
    go : (x : Bool) → length (tenths_text t) ≤ 5 → length (change_text (signed x t)) ≤ 6
    go true l = omega arith
    go false l = omega arith

up_short : (t : ℕ) → t ≤ 49000 → ChangeShort (signed false t)
up_short t h = record { tenths = omega arith; text = tenths_length t 4 (omega arith) (omega arith) (omega arith) }

between_short : (base sum : ℕ) → 1 ≤ base → sum ≤ 50 * base → ChangeShort (change_between base sum)
unfolding change_between
between_short base sum l h = go (ltb sum base) refl
  where
    go : (x : Bool) → ltb sum base ≡ x → ChangeShort (signed (both x (ltb 0 (rounded_change base sum))) (rounded_change base sum))
    go true q =
        let less = ltb-true sum base q in
        down_short (ltb 0 (rounded_change base sum)) (rounded_change base sum) (nearest_most (1000 * ((sum - base) + (base - sum))) base 1000 l (omega arith))
    go false q =
        let more = ltb-false sum base q in
        up_short (rounded_change base sum) (nearest_most (1000 * ((sum - base) + (base - sum))) base 49000 l (omega arith))

none_short : ChangeShort none
none_short = record { tenths = omega arith; text = omega arith }

-- ---- from a baseline, with a visit that fits it

-- a size within the count of a baseline is at least 10 mm
least_ten : (unit count i : ℕ) (node : Bool) (size : ℕ) → i < count → size_outside_limits unit count i node size ≡ false → 10 * unit ≤ size
unfolding size_outside_limits
least_ten unit count i node size l e =
    go node (ltb-false size (least_size unit node) (either_false (ltb size (least_size unit node)) (ltb (largest_size unit) size) (rw (lt-ltb i count l) at e)).0)
  where
    go : (node : Bool) → least_size unit node ≤ size → 10 * unit ≤ size
    go true h = omega arith
    go false h = omega arith

size_within : (b : Baseline) → baseline_passes b ≡ true → (i : ℕ) → i < most_targets → i < b.count → 10 * b.unit ≤ get_or b.sizes i 0
unfolding outside_limits not_zero without_disease
size_within b passes i l c = go b.assessed refl
  where
    own : (outside_limits b.unit (E.Baseline (entry_of_baseline b)) b.nodes b.sizes ≡ false) × (not_zero (E.Baseline (entry_of_baseline b)) b.nodes b.sizes ≡ false)
    own = limits_and_zeros b.unit (E.Baseline (entry_of_baseline b)) b.nodes b.sizes passes

    go : (a : Bool) → b.assessed ≡ a → 10 * b.unit ≤ get_or b.sizes i 0
    go true q =
        let limits = either_false (ltb most_targets b.count) _ (rw q at own.0) in
        let wrong = either_false (without_disease (entry_of_baseline b)) _ limits.1 in
        least_ten b.unit b.count i (get_or b.nodes i false) (get_or b.sizes i 0) c
        (some_none (target_at (size_outside_limits b.unit b.count) b.nodes b.sizes) most_targets wrong.1 i l)
    go false q =
        let zeros = either_false b.nontarget _ (rw q at own.1) in
        let count = ltb-false 0 b.count (either_false (ltb 0 b.count) _ zeros.1).0 in
        absurd (let w : ⊥ = omega arith in w)

-- term by term
sum_fiftyfold : (f g : ℕ → Bool) (s t : List ℕ) (n : ℕ) → ((i : ℕ) → i < n → pick (f i) (get_or s i 0) 0 ≤ 50 * pick (g i) (get_or t i 0) 0) →
    sum_where f s n ≤ 50 * sum_where g t n
sum_fiftyfold f g s t zero h = omega arith
sum_fiftyfold f g s t (suc n) h = omega (arith, sum_fiftyfold f g s t n (λ i l. h i (omega arith)), h n (omega arith))

module _ (b : Baseline) (d : ℕ) (v : Visit) (base : baseline_passes b ≡ true) (passes : fields_pass b.unit (visit d v) ≡ true) (fitting : fits b v ≡ true) where
  none_beyond : measured_beyond b.count v.measured ≡ false
  unfolding fits fits_by
  none_beyond = not-true (measured_beyond b.count v.measured) (both_true (not (measured_beyond b.count v.measured)) _ fitting).0

  measured_within : (i : ℕ) → i < most_targets → get_or v.measured i false ≡ true → i < b.count
  unfolding measured_beyond
  measured_within i l m =
      let beyond = some_none (λ (i : ℕ). both (leb b.count i) (get_or v.measured i false)) most_targets none_beyond i l in
      go (leb b.count i) refl (rw m at beyond)
    where
      go : (x : Bool) → leb b.count i ≡ x → both x true ≡ false → i < b.count
      go true q e = absurd (never e)
      go false q e = leb-false b.count i q

  measured_small : (i : ℕ) → i < most_targets → get_or v.measured i false ≡ true → get_or v.sizes i 0 ≤ largest_size b.unit
  unfolding outside_limits measured_outside_limits
  measured_small i l m =
      let large = some_none (target_at (λ (i : ℕ). measured_outside_limits b.unit) v.measured v.sizes) most_targets
      (limits_and_zeros b.unit (E.Visit (entry_of_visit v)) v.measured v.sizes passes).0 i l in
      ltb-false (largest_size b.unit) (get_or v.sizes i 0) (rw m at large)

  sum_most : sum_of_diameters v.measured v.sizes ≤ 50 * baseline_sum b.count b.sizes
  unfolding sum_of_diameters baseline_sum
  sum_most = sum_fiftyfold (λ (i : ℕ). get_or v.measured i false) (λ (i : ℕ). ltb i b.count) v.sizes b.sizes most_targets term
    where
      term : (i : ℕ) → i < most_targets → pick (get_or v.measured i false) (get_or v.sizes i 0) 0 ≤ 50 * pick (ltb i b.count) (get_or b.sizes i 0) 0
      term i l = go (get_or v.measured i false) refl
        where
          go : (x : Bool) → get_or v.measured i false ≡ x → pick x (get_or v.sizes i 0) 0 ≤ 50 * pick (ltb i b.count) (get_or b.sizes i 0) 0
          go true m =
              let within = measured_within i l m in
              let small = measured_small i l m in
              let least = size_within b base i l within in
              rw (lt-ltb i b.count within) (omega arith)
          go false m = omega arith

  pub change_short : ChangeShort (change_of (disease b) v)
  unfolding change_of
  change_short = go (eqb b.count 0) (not (all_measured b.count v.measured)) (eqb (baseline_sum b.count b.sizes) 0) refl
    where
      go : (x y z : Bool) → eqb (baseline_sum b.count b.sizes) 0 ≡ z →
          ChangeShort (pick (either x (either y z)) none (change_between (baseline_sum b.count b.sizes) (sum_of_diameters v.measured v.sizes)))
      go true y z q = none_short
      go false true z q = none_short
      go false false true q = none_short
      go false false false q =
          let some = eqb-false (baseline_sum b.count b.sizes) 0 q in
          between_short (baseline_sum b.count b.sizes) (sum_of_diameters v.measured v.sizes) (omega arith) sum_most
