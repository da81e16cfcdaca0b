-- What a record that no refusal of its own meets says of its fields; the numbers of its own refusals, and the refusals that come after them.
-- Assumes nothing.
use mathlib.Core.Path.{◌≡◌, refl}
use mathlib.Core.Bool.{Bool, true, false}
use mathlib.Core.List.{List, ◌++◌}
use mathlib.Core.Logic.{◌↔◌}
use Prim.Native.Nat.{ℕ, ◌≤◌, ◌<◌}
use native.Mathlib.Omega.{arith}
use lib.Dec.{ltb, leb, eqb}
use lib.ListN.{get_or}
use borrow.Author.Tests.{ltb-false, le-leb, not-false}
use Rattle.laws.specs.Choice.{both, either, pick}
use Rattle.laws.specs.Refusals.{Refusal, first, Each, Numbered}
use Rattle.laws.proofs.Tests.{either_false}
use Rattle.laws.proofs.SomeNumber.{some_none}
use Rattle.laws.proofs.FirstRefusal.{none_meets, first_append, none_of_both}
use Rattle.dates.specs.Calendar.{date_exists}
use Rattle.records.specs.Entries.{date_of}
use Rattle.records.specs.Refusals.{own_number, most_targets, largest_size, least_size, size_outside_limits, measured_outside_limits, not_zero_beyond_count, not_zero_unmeasured, target_at, some_target, without_disease, outside_limits, not_zero, refusals_of_read, refusals_of_record, refusal_of_record}
use Rattle.records.specs.declared.Record.{Record}
use Rattle.records.specs.declared.BaselineEntry.{BaselineEntry}
use Rattle.records.specs.declared.Entry.{Entry}
use Rattle.records.specs.declared.Entry.TheVariants.{Baseline, Visit, Therapy, Death}
use Rattle.records.specs.declared.OwnRefusal.{OwnRefusal}
use Rattle.records.specs.declared.OwnRefusal.TheVariants.{NoSuchDate, OutsideLimits, NotZero}
use Rattle.records.specs.Forms.{new_unit}

pub own_not_0 : (own : OwnRefusal) → eqb (own_number own) 0 ≡ false
own_not_0 NoSuchDate = refl
own_not_0 OutsideLimits = refl
own_not_0 NotZero = refl

module _ (unit : ℕ) where
  pub record Passes (r : Record) (badstatus spare : Bool) : Type 0 where
    pub date : date_exists (date_of r.entry) ≡ true
    pub lawful : badstatus ≡ false
    pub limits : outside_limits unit r.entry r.marks r.sizes ≡ false
    pub clear : spare ≡ false
    pub zeros : not_zero r.entry r.marks r.sizes ≡ false

  -- what holds of 3, 4 and 5 holds of the number of each own refusal
  pub each_own : (P : ℕ → Type 0) → P 3 → P 4 → P 5 → (r : Record) (badstatus spare : Bool) → Each P (refusals_of_read unit r badstatus spare)
  unfolding refusals_of_read
  each_own P three four five r badstatus spare = (three, (four, (five, tt)))

  pub own_numbered : (r : Record) (badstatus spare : Bool) → Numbered (refusals_of_read unit r badstatus spare)
  own_numbered = each_own (λ (n : ℕ). 1 ≤ n) (omega arith) (omega arith) (omega arith)

  pub passes : (r : Record) (badstatus spare : Bool) → first (refusals_of_read unit r badstatus spare) ≡ 0 → Passes r badstatus spare
  unfolding refusals_of_read
  passes r badstatus spare e =
      let t = (none_meets (refusals_of_read unit r badstatus spare) (own_numbered r badstatus spare)).0 e in
      let l = either_false badstatus _ t.1.0 in
      let z = either_false spare _ t.1.1.0 in
      record { date = not-false _ t.0; lawful = l.0; limits = l.1; clear = z.0; zeros = z.1 }

  -- conversely
  pub no_refusal : (r : Record) (badstatus spare : Bool) → Passes r badstatus spare → first (refusals_of_read unit r badstatus spare) ≡ 0
  unfolding refusals_of_read
  no_refusal r badstatus spare p = rw (p.date, p.lawful, p.limits, p.clear, p.zeros)

  -- the refusals of a record before others
  module _ (r : Record) (others : List Refusal) where
    pub after_own : first (refusals_of_record unit r ++ others) ≡ pick (eqb (refusal_of_record unit r) 0) (first others) (refusal_of_record unit r)
    after_own = first_append (refusals_of_record unit r) others (own_numbered r false false)

    pub none_after_own : (first (refusals_of_record unit r ++ others) ≡ 0) ↔ ((refusal_of_record unit r ≡ 0) × (first others ≡ 0))
    none_after_own = none_of_both (refusals_of_record unit r) others (own_numbered r false false)

-- a target beyond a count of 0 is clear
pub clear_target : (k : ℕ) (mark : Bool) (size : ℕ) → not_zero_beyond_count 0 k mark size ≡ false → (mark ≡ false) × (size ≡ 0)
unfolding not_zero_beyond_count
clear_target k mark size e =
    let l : leb 0 k ≡ true = le-leb 0 k (omega arith) in
    let p = either_false mark (ltb 0 size) (rw l at e) in
    let z = ltb-false 0 size p.1 in
    (p.0, omega arith)

small_clear : (k : ℕ) (mark : Bool) (size : ℕ) → not_zero_beyond_count 0 k mark size ≡ false → size ≤ largest_size new_unit
small_clear k mark size e = let z = clear_target k mark size e in omega arith

small_counted : (count k : ℕ) (mark : Bool) (size : ℕ) → size_outside_limits new_unit count k mark size ≡ false →
    not_zero_beyond_count count k mark size ≡ false → size ≤ largest_size new_unit
unfolding size_outside_limits not_zero_beyond_count
small_counted count k mark size a b = go (ltb k count) refl
  where
    go : (t : Bool) → ltb k count ≡ t → size ≤ largest_size new_unit
    go true q = ltb-false (largest_size new_unit) size (either_false (ltb size (least_size new_unit mark)) (ltb (largest_size new_unit) size) (rw q at a)).1
    go false q =
        let l : leb count k ≡ true = le-leb count k (ltb-false k count q) in
        let z = ltb-false 0 size (either_false mark (ltb 0 size) (rw l at b)).1 in
        omega arith

small_measured : (mark : Bool) (size : ℕ) → measured_outside_limits new_unit mark size ≡ false → not_zero_unmeasured mark size ≡ false →
    size ≤ largest_size new_unit
unfolding measured_outside_limits not_zero_unmeasured
small_measured true size a b = ltb-false (largest_size new_unit) size a
small_measured false size a b = let z = ltb-false 0 size b in omega arith

baseline : (a : Bool) (b : BaselineEntry) (m : List Bool) (s : List ℕ) →
    both a (either (ltb most_targets b.count) (either (without_disease b) (some_target (size_outside_limits new_unit b.count) m s))) ≡ false →
    pick a (some_target (not_zero_beyond_count b.count) m s)
    (either b.nontarget (either (ltb 0 b.count) (some_target (not_zero_beyond_count 0) m s))) ≡ false →
    (b.count ≤ most_targets) × ((k : ℕ) → k < most_targets → get_or s k 0 ≤ largest_size new_unit)
baseline true b m s e z =
    let p = either_false (ltb most_targets b.count) _ e in
    let q = either_false (without_disease b) _ p.1 in (
      ltb-false most_targets b.count p.0,
      λ k l. small_counted b.count k (get_or m k false) (get_or s k 0)
          (some_none (target_at (size_outside_limits new_unit b.count) m s) most_targets q.1 k l)
          (some_none (target_at (not_zero_beyond_count b.count) m s) most_targets z k l),
    )
baseline false b m s e z =
    let p = either_false b.nontarget _ z in
    let q = either_false (ltb 0 b.count) _ p.1 in
    let n = ltb-false 0 b.count q.0 in
    (omega arith, λ k l. small_clear k (get_or m k false) (get_or s k 0) (some_none (target_at (not_zero_beyond_count 0) m s) most_targets q.1 k l))

pub small_baseline : (b : BaselineEntry) (m : List Bool) (s : List ℕ) → outside_limits new_unit (Baseline b) m s ≡ false →
    not_zero (Baseline b) m s ≡ false → (b.count ≤ most_targets) × ((k : ℕ) → k < most_targets → get_or s k 0 ≤ largest_size new_unit)
unfolding outside_limits not_zero
small_baseline b m s e z = baseline b.assessed b m s e z

pub small_sizes : (e : Entry) (m : List Bool) (s : List ℕ) → outside_limits new_unit e m s ≡ false → not_zero e m s ≡ false → (k : ℕ) → k < most_targets →
    get_or s k 0 ≤ largest_size new_unit
unfolding outside_limits not_zero
small_sizes (Baseline b) m s e z k l = (small_baseline b m s e z).1 k l
small_sizes (Visit v) m s e z k l =
    small_measured (get_or m k false) (get_or s k 0) (some_none (target_at (λ (i : ℕ). measured_outside_limits new_unit) m s) most_targets e k l)
    (some_none (target_at (λ (i : ℕ). not_zero_unmeasured) m s) most_targets z k l)
small_sizes (Therapy d) m s e z k l = small_clear k (get_or m k false) (get_or s k 0) (some_none (target_at (not_zero_beyond_count 0) m s) most_targets z k l)
small_sizes (Death d) m s e z k l = small_clear k (get_or m k false) (get_or s k 0) (some_none (target_at (not_zero_beyond_count 0) m s) most_targets z k l)

pub small_count : (e : Entry) (b : BaselineEntry) (m : List Bool) (s : List ℕ) → e ≡ Baseline b → outside_limits new_unit e m s ≡ false →
    not_zero e m s ≡ false → b.count ≤ most_targets
small_count e b m s q l z = (small_baseline b m s (rw q at l) (rw q at z)).0
