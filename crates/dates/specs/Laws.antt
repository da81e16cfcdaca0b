-- Document 01, "Dates and records": what a reader can expect of the calendar; proved in proofs/CalendarLaws.antt.
-- Assumes nothing.
use Rattle.std.specs.Prelude.{◌≡◌, Bool, true, ℕ, ◌≤◌, ◌<◌, ltb, eqb}
use Rattle.laws.specs.Choice.{both, either}
use Rattle.dates.specs.Calendar.{last_day_number, date_exists, day_number}
use Rattle.dates.specs.declared.Date.{Date}

-- by year, then month, then day
abbrev pub earlier : Date → Date → Bool
earlier d e =
    either (ltb d.year e.year)
    (both (eqb d.year e.year) (either (ltb d.month e.month) (both (eqb d.month e.month) (ltb d.day e.day))))

pub record CalendarLaws : Type 0 where
  pub in_range : (d : Date) → date_exists d ≡ true → (1 ≤ day_number d) × (day_number d ≤ last_day_number)
  pub rising : (d e : Date) → date_exists d ≡ true → date_exists e ≡ true → earlier d e ≡ true → day_number d < day_number e
  pub only_equal : (d e : Date) → date_exists d ≡ true → date_exists e ≡ true → day_number d ≡ day_number e → d ≡ e

abbrev pub ymd : ℕ → ℕ → ℕ → Date
ymd y m d = record { year = y; month = m; day = d }
