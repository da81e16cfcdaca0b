-- Each date in range but the first has a number one above that of the day before, and no other numbering does that.
-- Assumes nothing.
use mathlib.Core.Path.{◌≡◌, refl, sym, ◌∙◌, ap}
use mathlib.Core.Bool.{Bool, true, false}
use Prim.Native.Nat.{ℕ, zero, suc, ◌+◌, ◌-◌, ◌≤◌, ◌<◌}
use native.Mathlib.Omega.{arith}
use lib.Dec.{ltb, eqb}
use borrow.Author.Tests.{lt-ltb, le-ltb, le-leb, eq-eqb, ltb-true, ltb-false, eqb-true}
use Rattle.laws.specs.Choice.{pick}
use Rattle.laws.proofs.EveryNumber.{all_at}
use Rattle.dates.specs.Calendar.{first_year, last_year, leap_year, days_in_month, date_exists, days_of_years, days_of_months, day_number}
use Rattle.dates.specs.Laws.{earlier, ymd}
use Rattle.dates.specs.DayByDay.{first_date, day_before, CountsDays, days_before_month, number_by_cases, DayByDay}
use Rattle.dates.specs.declared.Date.{Date}
use Rattle.dates.proofs.ClosedForms.{Exists, exists, month_long_lem}
use Rattle.dates.proofs.CalendarLaws.{month_end, year_end, same_fields, calendar_laws}

-- the days before a month are those of the months before, added up
abbrev sum_right : Bool → ℕ → Bool
sum_right leap m = eqb (days_before_month leap m) (days_of_months leap (m - 1))

months_added : (leap : Bool) (m : ℕ) → m ≤ 12 → days_before_month leap m ≡ days_of_months leap (m - 1)
unfolding days_before_month days_of_months days_in_month
months_added true m h = eqb-true _ _ (all_at (sum_right true) 13 refl m (omega arith))
months_added false m h = eqb-true _ _ (all_at (sum_right false) 13 refl m (omega arith))

december : (leap : Bool) → days_of_months leap 11 + 31 ≡ pick leap 366 365
unfolding days_of_months days_in_month
december true = refl
december false = refl

december_days : (leap : Bool) → days_in_month leap 12 ≡ 31
unfolding days_in_month
december_days leap = refl

january : (leap : Bool) → days_of_months leap 0 ≡ 0
unfolding days_of_months
january leap = refl

is_date : (y m k : ℕ) → first_year ≤ y → y ≤ last_year → 1 ≤ k → k ≤ days_in_month (leap_year y) m → date_exists (ymd y m k) ≡ true
unfolding date_exists
is_date y m k a b c d = rw (le-leb first_year y a, le-leb y last_year b, le-leb 1 k c, le-leb k _ d)

module _ (d : Date) (v : Exists d) (later : d ≡ first_date → ⊥) where
  -- what holds of the day less one, of the last day of the month before and of 31 December of the year before holds of the day before
  three_ways : (P : Date → Type 0) →
      (1 < d.day → P (ymd d.year d.month (d.day - 1))) →
      (d.day ≡ 1 → 1 < d.month → P (ymd d.year (d.month - 1) (days_in_month (leap_year d.year) (d.month - 1)))) →
      (d.day ≡ 1 → d.month ≡ 1 → first_year < d.year → P (ymd (d.year - 1) 12 31)) → P (day_before d)
  unfolding day_before
  three_ways P same_month same_year year_before = go (ltb 1 d.day) (ltb 1 d.month) refl refl
    where
      go : (a b : Bool) → ltb 1 d.day ≡ a → ltb 1 d.month ≡ b →
          P (pick a (ymd d.year d.month (d.day - 1))
          (pick b (ymd d.year (d.month - 1) (days_in_month (leap_year d.year) (d.month - 1))) (ymd (d.year - 1) 12 31)))
      go true b p q = same_month (ltb-true 1 d.day p)
      go false true p q = same_year (omega (arith, ltb-false 1 d.day p, v.first_day)) (ltb-true 1 d.month q)
      go false false p q =
          let k : d.day ≡ 1 = omega (arith, ltb-false 1 d.day p, v.first_day) in
          let m : d.month ≡ 1 = omega (arith, ltb-false 1 d.month q, v.first_month) in
          let y : d.year ≡ first_year → ⊥ = λ e. later (same_fields e m k) in
          year_before k m (omega (arith, v.not_before))

  before_exists : date_exists (day_before d) ≡ true
  before_exists =
      three_ways
      (λ e. date_exists e ≡ true)
      (λ k. is_date _ _ _ v.not_before v.not_after (omega arith) (omega (arith, v.last_day)))
      (λ k m. is_date _ _ _ v.not_before v.not_after (omega (arith, month_long_lem (leap_year d.year) (d.month - 1) (omega arith) (omega (arith, v.last_month)))) (omega arith))
      (λ k m y. is_date _ _ _ (omega arith) (omega (arith, v.not_after)) (omega arith) (omega (arith, december_days (leap_year (d.year - 1)))))

  before_earlier : earlier (day_before d) d ≡ true
  before_earlier =
      let year = le-ltb d.year d.year (omega arith) in
      let same_year = eq-eqb d.year d.year refl in
      let month = le-ltb d.month d.month (omega arith) in
      let same_month = eq-eqb d.month d.month refl in
      three_ways
      (λ e. earlier e d ≡ true)
      (λ k. rw (year, same_year, month, same_month, lt-ltb (d.day - 1) d.day (omega arith)))
      (λ k m. rw (year, same_year, lt-ltb (d.month - 1) d.month (omega arith)))
      (λ k m y. rw (lt-ltb (d.year - 1) d.year (omega arith)))

  one_above : day_number d ≡ day_number (day_before d) + 1
  unfolding day_number
  one_above =
      three_ways
      (λ e. day_number d ≡ day_number e + 1)
      (λ k. omega arith)
      (λ k m.
      omega (arith, month_end (leap_year d.year) (d.month - 1) (omega arith)))
      (λ k m y.
      let a = year_end (d.year - 1) (omega arith) in
      let b = december (leap_year (d.year - 1)) in
      let n : suc (d.year - 1 - first_year) ≡ d.year - first_year = omega arith in
      rw (k, m, january (leap_year d.year)) (omega (arith, rw n at a)))

first_number_lem : day_number first_date ≡ 1
unfolding day_number days_of_years days_of_months leap_year
first_number_lem = refl

counts : CountsDays day_number
counts = record { first = omega (arith, first_number_lem); one_above = λ d h. one_above d (exists d h) }

first_exists : date_exists first_date ≡ true
unfolding date_exists leap_year days_in_month
first_exists = refl

-- two ways of numbering: by induction on the day number
module _ (f g : Date → ℕ) (p : CountsDays f) (q : CountsDays g) where
  agree : (n : ℕ) (d : Date) → date_exists d ≡ true → day_number d ≡ suc n → f d ≡ g d
  agree zero d h e =
      let s = calendar_laws.only_equal d first_date h first_exists (e ∙ sym first_number_lem) in
      rw s (omega (arith, p.first, q.first))
  agree (suc n) d h e =
      let later : d ≡ first_date → ⊥ = λ s. omega (arith, e, first_number_lem, ap day_number s) in
      let v = exists d h in
      let before = agree n (day_before d) (before_exists d v later) (omega (arith, one_above d v later)) in
      p.one_above d h later ∙ ap (λ k. k + 1) before ∙ sym (q.one_above d h later)

  one_way : (d : Date) → date_exists d ≡ true → f d ≡ g d
  one_way d h = let r = calendar_laws.in_range d h in agree (day_number d - 1) d h (omega arith)

by_cases : (d : Date) → Exists d → day_number d ≡ number_by_cases d
unfolding day_number number_by_cases
by_cases d v = rw (months_added (leap_year d.year) d.month v.last_month)

pub day_by_day : DayByDay
day_by_day =
    record {
      in_range = λ d h. before_exists d (exists d h);
      is_earlier = λ d h. before_earlier d (exists d h);
      counted = counts;
      one_way = one_way;
      by_cases = λ d h. by_cases d (exists d h);
    }
