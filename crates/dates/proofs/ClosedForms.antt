-- The closed forms of the days agree with the definitions; what an existing date says of its fields.
-- Assumes nothing.
use mathlib.Core.Path.{◌≡◌, refl, sym}
use mathlib.Core.Bool.{Bool, true, false}
use Prim.Native.Nat.{ℕ, ◌+◌, ◌-◌, ◌*◌, ◌/◌, ◌%◌, ◌≤◌, ◌<◌}
use native.Mathlib.Nat.{le_trans, add-sub_of_le}
use native.Mathlib.Omega.{arith}
use lib.Dec.{eqb, leb, ltb}
use borrow.Author.Tests.{lt-ltb, le-ltb, le-leb, lt-leb, ne_eqb, eqb-true, eqb-false, leb-true, leb-false, ltb-false}
use Rattle.laws.specs.Choice.{both, either, pick}
use Rattle.laws.proofs.Tests.{both_true}
use Rattle.laws.proofs.EveryNumber.{all_at}
use Rattle.dates.specs.Calendar.{first_year, last_year, leap_year, days_in_month, date_exists, days_of_years, days_of_months}
use Rattle.dates.specs.declared.Date.{Date}

-- a closed form has the days, and a bound
abbrev is_right : ℕ → ℕ → ℕ → Bool
is_right n days most = both (eqb n days) (leb n most)

is_right_lem : (n days most : ℕ) → is_right n days most ≡ true → (n ≡ days) × (n ≤ most)
is_right_lem n days most e = let r = both_true (eqb n days) _ e in (eqb-true _ _ r.0, leb-true _ _ r.1)

-- the days before a month of a common year: an even rise, less two from March on
abbrev rise : ℕ → ℕ
rise m = (m * 979 - 966) / 32

abbrev january_right : ℕ → Bool
january_right m = is_right (rise m) (days_of_months false (m - 1)) 334

abbrev march_right : ℕ → Bool
march_right m = either (leb m 2) (is_right (rise m - 2) (days_of_months false (m - 1)) 334)

module _ (m : ℕ) where
  pub before_march : m ≤ 2 → (rise m ≡ days_of_months false (m - 1)) × (rise m ≤ 334)
  unfolding days_of_months days_in_month
  before_march h = is_right_lem (rise m) (days_of_months false (m - 1)) 334 (all_at january_right 3 refl m (omega arith))

  pub from_march : 2 < m → m ≤ 12 → (rise m - 2 ≡ days_of_months false (m - 1)) × (rise m - 2 ≤ 334)
  unfolding days_of_months days_in_month
  from_march h g =
      is_right_lem (rise m - 2) (days_of_months false (m - 1)) 334 (rw (lt-leb m 2 h) at (all_at march_right 13 refl m (omega arith)))

-- one day more of a leap year stands before each month from March on
abbrev leap_right : ℕ → Bool
leap_right m = eqb (days_of_months true (m - 1)) (days_of_months false (m - 1) + pick (both (ltb 2 m) true) 1 0)

abbrev common_right : ℕ → Bool
common_right m = eqb (days_of_months false (m - 1)) (days_of_months false (m - 1) + pick (both (ltb 2 m) false) 1 0)

pub leap_day : (leap : Bool) (m : ℕ) → m ≤ 12 →
    days_of_months leap (m - 1) ≡ days_of_months false (m - 1) + pick (both (ltb 2 m) leap) 1 0
unfolding days_of_months days_in_month
leap_day true m h = eqb-true _ _ (all_at leap_right 13 refl m (omega arith))
leap_day false m h = eqb-true _ _ (all_at common_right 13 refl m (omega arith))

-- the days of k years, and those with the leap day of the year that follows
abbrev years_right : ℕ → Bool
years_right k = is_right (k * 365 + (k + 1) / 4) (days_of_years k + 0) 39813

abbrev leaps_right : ℕ → Bool
leaps_right k = is_right (k * 365 + (k + 2) / 4) (days_of_years k + pick (leap_year (first_year + k)) 1 0) 39813

abbrev to_month : ℕ → ℕ → ℕ
to_month y m = days_of_years (y - first_year) + pick (both (ltb 2 m) (leap_year y)) 1 0

module _ (y m : ℕ) (first : first_year ≤ y) (last : y ≤ last_year) where
  pub without_leap_day : m ≤ 2 →
      ((y - first_year) * 365 + (y - first_year + 1) / 4 ≡ to_month y m) × ((y - first_year) * 365 + (y - first_year + 1) / 4 ≤ 39813)
  unfolding days_of_years leap_year
  without_leap_day h =
      rw (le-ltb 2 m h) (is_right_lem _ (days_of_years (y - first_year) + 0) 39813 (all_at years_right 110 refl (y - first_year) (omega arith)))

  pub with_leap_day : 2 < m →
      ((y - first_year) * 365 + (y - first_year + 2) / 4 ≡ to_month y m) × ((y - first_year) * 365 + (y - first_year + 2) / 4 ≤ 39813)
  unfolding days_of_years leap_year
  with_leap_day h =
      let r = is_right_lem _ (days_of_years (y - first_year) + pick (leap_year (first_year + (y - first_year))) 1 0) 39813 (all_at leaps_right 110 refl (y - first_year) (omega arith)) in
      rw (lt-ltb 2 m h) (rw (add-sub_of_le first) at r)

pub record Exists (d : Date) : Type 0 where
  pub not_before : first_year ≤ d.year
  pub not_after : d.year ≤ last_year
  pub first_month : 1 ≤ d.month
  pub last_month : d.month ≤ 12
  pub first_day : 1 ≤ d.day
  pub last_day : d.day ≤ days_in_month (leap_year d.year) d.month

-- a month that has a day is one of the twelve
month_exists : (leap : Bool) (m k : ℕ) → 1 ≤ k → k ≤ days_in_month leap m → (1 ≤ m) × (m ≤ 12)
unfolding days_in_month
month_exists leap m k h g = (first (eqb m 0) refl, last (ltb 12 m) refl)
  where
    first : (b : Bool) → eqb m 0 ≡ b → 1 ≤ m
    first true q = let z : k ≤ 0 = rw (eqb-true m 0 q) at g in omega arith
    first false q = omega (arith, eqb-false m 0 q)

    last : (b : Bool) → ltb 12 m ≡ b → m ≤ 12
    last true q = let z : k ≤ 0 = rw q at g in omega arith
    last false q = ltb-false 12 m q

pub exists : (d : Date) → date_exists d ≡ true → Exists d
unfolding date_exists
exists d e =
    let a = both_true (leb first_year d.year) _ e in
    let b = both_true (leb d.year last_year) _ a.1 in
    let r = both_true (leb 1 d.day) _ b.1 in
    let m = month_exists (leap_year d.year) d.month d.day (leb-true _ _ r.0) (leb-true _ _ r.1) in
    record {
      not_before = leb-true _ _ a.0;
      not_after = leb-true _ _ b.0;
      first_month = m.0;
      last_month = m.1;
      first_day = leb-true _ _ r.0;
      last_day = leb-true _ _ r.1;
    }

-- every month has 28 days
abbrev month_long : Bool → ℕ → Bool
month_long leap m = either (leb m 0) (leb 28 (days_in_month leap m))

pub month_long_lem : (leap : Bool) (m : ℕ) → 1 ≤ m → m ≤ 12 → 28 ≤ days_in_month leap m
unfolding days_in_month
month_long_lem true m h g = leb-true 28 _ (rw (lt-leb m 0 h) at (all_at (month_long true) 13 refl m (omega arith)))
month_long_lem false m h g = leb-true 28 _ (rw (lt-leb m 0 h) at (all_at (month_long false) 13 refl m (omega arith)))

pub zero_month : (leap : Bool) (m : ℕ) → m < 1 → days_in_month leap m ≡ 0
unfolding days_in_month
zero_month leap m h = let z : m ≡ 0 = omega arith in rw z

pub month_past : (leap : Bool) (m : ℕ) → 12 < m → days_in_month leap m ≡ 0
unfolding days_in_month
month_past leap m h = rw (lt-ltb 12 m h)

pub february : (leap : Bool) (m : ℕ) → m ≡ 2 → days_in_month leap m ≡ pick leap 29 28
unfolding days_in_month
february true m h = rw h
february false m h = rw h

-- the closed form of the days of the other months
abbrev other_month : Bool → ℕ → Bool
other_month leap m = either (leb m 0) (either (eqb m 2) (eqb (30 + (m + m / 8) % 2) (days_in_month leap m)))

other_months : (leap : Bool) (m : ℕ) → m ≤ 12 → other_month leap m ≡ true
unfolding days_in_month
other_months true m h = all_at (other_month true) 13 refl m (omega arith)
other_months false m h = all_at (other_month false) 13 refl m (omega arith)

pub other_month_lem : (leap : Bool) (m : ℕ) → 1 ≤ m → m ≤ 12 → (m ≡ 2 → ⊥) → 30 + (m + m / 8) % 2 ≡ days_in_month leap m
other_month_lem leap m h g n = eqb-true _ _ (rw (lt-leb m 0 h, ne_eqb m 2 n) at (other_months leap m g))

-- a day up to the 28th is one of every month
module _ (leap : Bool) (m k : ℕ) (e : both (leb 1 k) (leb k 28) ≡ true) where
  early : (1 ≤ k) × (k ≤ 28)
  early = let r = both_true (leb 1 k) _ e in (leb-true _ _ r.0, leb-true _ _ r.1)

  pub early_day : both (leb 1 m) (leb m 12) ≡ both (leb 1 k) (leb k (days_in_month leap m))
  early_day = rw (le-leb 1 k early.0) (go (leb 1 m) (leb m 12) refl refl)
    where
      go : (a b : Bool) → leb 1 m ≡ a → leb m 12 ≡ b → both a b ≡ leb k (days_in_month leap m)
      go true true p q =
          sym (le-leb k _ (le_trans early.1 (month_long_lem leap m (leb-true 1 m p) (leb-true m 12 q))))
      go true false p q =
          rw (month_past leap m (leb-false m 12 q)) (sym (lt-leb k 0 early.0))
      go false b p q = rw (zero_month leap m (leb-false 1 m p)) (sym (lt-leb k 0 early.0))

-- no month has more than 31 days
month_short : Bool → ℕ → Bool
month_short leap m = leb (days_in_month leap m) 31

month_short_lem : (leap : Bool) (m : ℕ) → m ≤ 12 → days_in_month leap m ≤ 31
unfolding month_short days_in_month
month_short_lem true m h = leb-true _ 31 (all_at (month_short true) 13 refl m (omega arith))
month_short_lem false m h = leb-true _ 31 (all_at (month_short false) 13 refl m (omega arith))

pub day_small : (d : Date) → Exists d → d.day ≤ 31
day_small d v = le_trans v.last_day (month_short_lem (leap_year d.year) d.month v.last_month)
