-- The laws of the calendar: existing dates have numbers from 1 to 40,177, in the order of the dates, each its own.
-- Assumes nothing.
use mathlib.Core.Path.{◌≡◌, refl, sym}
use mathlib.Core.Bool.{Bool, true, false}
use mathlib.Core.Logic.{◌⊎◌, inl, inr, ⊎_elim}
use Prim.Native.Nat.{ℕ, zero, suc, ◌+◌, ◌-◌, ◌≤◌, ◌<◌}
use native.Mathlib.Nat.{le_trans, add-sub_of_le}
use native.Mathlib.Numerals.{unary_clauses}
use native.Mathlib.Omega.{arith}
use lib.Dec.{ltb, eqb}
use borrow.Author.Tests.{ltb-true, eqb-true, eqb-false}
use Rattle.laws.specs.Choice.{both, either, pick}
use Rattle.laws.proofs.Tests.{both_true}
use Rattle.dates.specs.Calendar.{first_year, last_day_number, leap_year, days_in_month, days_of_years, days_of_months, day_number}
use Rattle.dates.specs.Laws.{earlier, ymd, CalendarLaws}
use Rattle.dates.specs.declared.Date.{Date}
use Rattle.dates.proofs.ClosedForms.{Exists, exists}

monotone : (f : ℕ → ℕ) → ((k : ℕ) → f k ≤ f (suc k)) → (m n : ℕ) → m ≤ n → f m ≤ f n
monotone f up m zero h = let z : m ≡ 0 = omega arith in rw z (omega arith)
monotone f up m (suc n) h = go (eqb m (suc n)) refl (monotone f up m n)
  where
    go : (b : Bool) → eqb m (suc n) ≡ b → (m ≤ n → f m ≤ f n) → f m ≤ f (suc n)
    go true q r = rw (eqb-true m (suc n) q) (omega arith)
    go false q r = le_trans (r (omega (arith, eqb-false m (suc n) q))) (up n)

years_monotone : (m n : ℕ) → m ≤ n → days_of_years m ≤ days_of_years n
unfolding days_of_years
years_monotone = monotone days_of_years λ k. omega arith

months_monotone : (leap : Bool) (m n : ℕ) → m ≤ n → days_of_months leap m ≤ days_of_months leap n
unfolding days_of_months
months_monotone leap = monotone (days_of_months leap) λ k. omega arith

-- the days before a month and the month's own are the days to its end
pub month_end : (leap : Bool) (m : ℕ) → 1 ≤ m → days_of_months leap (m - 1) + days_in_month leap m ≡ days_of_months leap m
unfolding days_of_months
month_end leap zero h = omega arith
month_end leap (suc k) h = simp unary_clauses

-- the days before a year and the year's own are the days to its end
pub year_end : (y : ℕ) → first_year ≤ y → days_of_years (y - first_year) + pick (leap_year y) 366 365 ≡ days_of_years (suc (y - first_year))
unfolding days_of_years
year_end y h = rw (add-sub_of_le h)

year_length : (leap : Bool) → days_of_months leap 12 ≡ pick leap 366 365
unfolding days_of_months days_in_month
year_length true = refl
year_length false = refl

-- the number of an existing date: at most that of its month's last day and of its year's, and in the range of the laws
module _ (d : Date) (v : Exists d) where
  within_month : days_of_months (leap_year d.year) (d.month - 1) + d.day ≤ days_of_months (leap_year d.year) d.month
  within_month = omega (arith, month_end (leap_year d.year) d.month v.first_month)

  within_year : day_number d ≤ days_of_years (suc (d.year - first_year))
  unfolding day_number
  within_year =
      omega (
        arith,
        within_month,
        months_monotone (leap_year d.year) d.month 12 v.last_month,
        year_length (leap_year d.year),
        year_end d.year v.not_before,
      )

  in_range_lem : (1 ≤ day_number d) × (day_number d ≤ last_day_number)
  unfolding day_number days_of_years leap_year
  in_range_lem = (omega arith, le_trans within_year (years_monotone (suc (d.year - first_year)) 110 (omega arith)))

either_true : (a b : Bool) → either a b ≡ true → (a ≡ true) ⊎ (b ≡ true)
either_true true b e = inl refl
either_true false b e = inr e

-- a later date has a greater number: by its year, by its month in the same year, by its day in the same month
module _ (d e : Date) (v : Exists d) (w : Exists e) where
  later_year : d.year < e.year → day_number d < day_number e
  unfolding day_number
  later_year h = omega (arith, within_year d v, years_monotone (suc (d.year - first_year)) (e.year - first_year) (omega arith))

  later_month : d.year ≡ e.year → d.month < e.month → day_number d < day_number e
  unfolding day_number
  later_month y h =
      rw (← y) (omega (arith, within_month d v, months_monotone (leap_year d.year) d.month (e.month - 1) (omega arith)))

  later_day : d.year ≡ e.year → d.month ≡ e.month → d.day < e.day → day_number d < day_number e
  unfolding day_number
  later_day y m h = rw (y, m) (omega arith)

  later_in_year : d.year ≡ e.year →
      either (ltb d.month e.month) (both (eqb d.month e.month) (ltb d.day e.day)) ≡ true → day_number d < day_number e
  later_in_year y h =
      ⊎_elim
      (λ m. later_month y (ltb-true _ _ m))
      (λ t. let m = both_true (eqb d.month e.month) _ t in later_day y (eqb-true _ _ m.0) (ltb-true _ _ m.1))
      (either_true (ltb d.month e.month) _ h)

  later : earlier d e ≡ true → day_number d < day_number e
  later h =
      ⊎_elim
      (λ y. later_year (ltb-true _ _ y))
      (λ t. let y = both_true (eqb d.year e.year) _ t in later_in_year (eqb-true _ _ y.0) y.1)
      (either_true (ltb d.year e.year) _ h)

pub same_fields : {y m d z n e : ℕ} → y ≡ z → m ≡ n → d ≡ e → ymd y m d ≡ ymd z n e
same_fields p q r = rw (p, q, r)

-- two dates with one number: neither is later by a field, so that the fields are equal
module _ (d e : Date) (v : Exists d) (w : Exists e) (n : day_number d ≡ day_number e) where
  same_year : d.year ≡ e.year
  same_year =
      let less : d.year < e.year → ⊥ = λ h. omega (arith, later_year d e v w h) in
      let more : e.year < d.year → ⊥ = λ h. omega (arith, later_year e d w v h) in
      omega arith

  same_month : d.month ≡ e.month
  same_month =
      let less : d.month < e.month → ⊥ = λ h. omega (arith, later_month d e v w same_year h) in
      let more : e.month < d.month → ⊥ = λ h. omega (arith, later_month e d w v (sym same_year) h) in
      omega arith

  same_day : d.day ≡ e.day
  same_day =
      let less : d.day < e.day → ⊥ = λ h. omega (arith, later_day d e v w same_year same_month h) in
      let more : e.day < d.day → ⊥ = λ h. omega (arith, later_day e d w v (sym same_year) (sym same_month) h) in
      omega arith

  same_date : d ≡ e
  same_date = same_fields same_year same_month same_day

pub calendar_laws : CalendarLaws
calendar_laws =
    record {
      in_range = λ d h. in_range_lem d (exists d h);
      rising = λ d e h g. later d e (exists d h) (exists e g);
      only_equal = λ d e h g. same_date d e (exists d h) (exists e g);
    }
