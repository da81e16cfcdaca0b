-- Which records the refusals of adding let through: those with which a list stays lawful, none of a date before randomisation, and such as pass 4 and 5.
-- Assumes nothing.
use mathlib.Core.Path.{◌≡◌, refl, sym}
use mathlib.Core.Bool.{Bool, true, false, not, not-not}
use mathlib.Core.List.{List, [], ◌∷◌}
use mathlib.Core.Logic.{◌↔◌}
use Prim.Native.Nat.{ℕ, ◌≤◌, ◌<◌}
use native.Mathlib.Omega.{arith}
use lib.Dec.{leb}
use lib.ListN.{length}
use borrow.Author.Tests.{le-leb, lt-leb, lt-ltb}
use Rattle.laws.specs.Choice.{both, pick}
use Rattle.laws.specs.Refusals.{Refusal, first, NoneMeets, Each}
use Rattle.laws.proofs.Tests.{never, both_with_true, both_with_false, not_leb, not_ltb}
use Rattle.laws.proofs.FirstRefusal.{none_meets}
use Rattle.dates.specs.declared.Date.{Date}
use Rattle.dates.specs.Calendar.{date_exists, day_number}
use Rattle.dates.specs.Answers.{refused, study_day_of}
use Rattle.records.specs.declared.Entry.{Entry}
use Rattle.records.specs.declared.Entry.TheVariants as E
use Rattle.records.specs.declared.Record.{Record}
use Rattle.records.specs.Entries.{date_of, Five}
use Rattle.records.specs.Refusals.{most_targets, without_disease, outside_limits, not_zero, refusal_of_record}
use Rattle.records.proofs.NoOwnRefusal.{passes}
use Rattle.records.specs.Forms.{new_unit}
use Rattle.outcome_rules.specs.StudyRecords.{Baseline, StudyRecord, baseline, visit, therapy, death, entry_passes, fields_pass, study_day, entry_on_study_day, on_study_day}
use Rattle.outcome_rules.specs.LawfulLists.{Past, latest_day, died, fits, lawful_behind}
use Rattle.outcome_rules.specs.Adding.{is_baseline, too_early, refusals_of_study_record}
use Rattle.outcome_rules.proofs.OneRecordMore.{from_day_1}

-- what holds of 8 to 11 holds of the number of each refusal behind a list
pub each_behind : (P : ℕ → Type 0) → P 8 → P 9 → P 10 → P 11 → (b : Baseline) (p : Past) (r : StudyRecord) → Each P (refusals_of_study_record b p r)
unfolding refusals_of_study_record
each_behind P eight nine ten eleven b p r = (eight, (nine, (ten, (eleven, tt))))

-- that none meets, as one test
abbrev clear : List Refusal → Bool
clear [] = true
clear (r ∷ rs) = both (not r.meets) (clear rs)

none_clear : (rs : List Refusal) → NoneMeets rs ↔ (clear rs ≡ true)
none_clear [] = (λ h. refl, λ e. tt)
none_clear (r ∷ rs) = go r.meets (none_clear rs)
  where
    go : (m : Bool) → NoneMeets rs ↔ (clear rs ≡ true) → ((m ≡ false) × NoneMeets rs) ↔ (both (not m) (clear rs) ≡ true)
    go true rest = (λ h. absurd (never h.0), λ e. absurd (never (sym e)))
    go false rest = (λ h. rest.0 h.1, λ e. (refl, rest.1 e))

longer_lawful : (b : Baseline) (p : Past) (r : StudyRecord) → lawful_behind b p ≡ true → lawful_behind b (r ∷ p) ≡ clear (refusals_of_study_record b p r)
unfolding refusals_of_study_record
longer_lawful b p (baseline x) l = rw l (both_with_false (not (died p)))
longer_lawful b p (visit d v) l = rw (l, not_leb d (latest_day p), not-not (fits b v), both_with_true (fits b v))
longer_lawful b p (therapy d) l = rw (l, not_ltb d (latest_day p), both_with_true (leb (latest_day p) d))
longer_lawful b p (death d) l = rw (l, not_ltb d (latest_day p), both_with_true (leb (latest_day p) d))

pub one_more : (b : Baseline) (p : Past) (r : StudyRecord) → lawful_behind b p ≡ true → (first (refusals_of_study_record b p r) ≡ 0) ↔ (lawful_behind b (r ∷ p) ≡ true)
one_more b p r l =
    let none = none_meets (refusals_of_study_record b p r) (each_behind (λ (n : ℕ). 1 ≤ n) (omega arith) (omega arith) (omega arith) (omega arith) b p r) in
    let test = none_clear (refusals_of_study_record b p r) in
    rw (longer_lawful b p r l) (λ e. test.0 (none.0 e), λ e. none.1 (test.1 e))

before_randomisation : (randomisation d : Date) → day_number d < day_number randomisation → study_day randomisation d ≡ 0
unfolding study_day_of
before_randomisation randomisation d h =
    rw (lt-leb (day_number randomisation) (day_number d) h, study_day) (go (both (date_exists d) (date_exists randomisation)))
  where
    go : (x : Bool) → (pick x (refused 10) (refused 3)).day ≡ 0
    go true = refl
    go false = refl

early : (randomisation : Date) (p : Past) (e : Entry) (marks : List Bool) (sizes : List ℕ) →
    is_baseline (entry_on_study_day new_unit randomisation e marks sizes) ≡ false → day_number (date_of e) < day_number randomisation →
    too_early (latest_day p) (entry_on_study_day new_unit randomisation e marks sizes) ≡ true
early randomisation p (E.Baseline b) marks sizes n h = absurd (never n)
early randomisation p (E.Visit v) marks sizes n h = rw (before_randomisation randomisation v.date h, le-leb 0 (latest_day p) (omega arith))
early randomisation p (E.Therapy d) marks sizes n h = rw (before_randomisation randomisation d h, lt-ltb 0 (latest_day p) (from_day_1 p))
early randomisation p (E.Death d) marks sizes n h = rw (before_randomisation randomisation d h, lt-ltb 0 (latest_day p) (from_day_1 p))

pub too_early_lem : (randomisation : Date) (p : Past) (r : Record) → is_baseline (on_study_day new_unit randomisation r) ≡ false →
    day_number (date_of r.entry) < day_number randomisation → too_early (latest_day p) (on_study_day new_unit randomisation r) ≡ true
too_early_lem randomisation p r n h = early randomisation p r.entry r.marks r.sizes n h

-- 4 and 5 do not look at the date
fields_on_day : (randomisation : Date) (e : Entry) (marks : List Bool) (sizes : List ℕ) → length marks ≡ most_targets → length sizes ≡ most_targets →
    outside_limits new_unit e marks sizes ≡ false → not_zero e marks sizes ≡ false → fields_pass new_unit (entry_on_study_day new_unit randomisation e marks sizes) ≡ true
unfolding entry_passes outside_limits not_zero without_disease
fields_on_day randomisation (E.Baseline b) marks sizes m s limits zeros = rw (m, s, limits, zeros)
fields_on_day randomisation (E.Visit v) marks sizes m s limits zeros = rw (m, s, limits, zeros)
fields_on_day randomisation (E.Therapy d) marks sizes m s limits zeros = refl
fields_on_day randomisation (E.Death d) marks sizes m s limits zeros = refl

pub own_passed : (randomisation : Date) (r : Record) → Five r → refusal_of_record new_unit r ≡ 0 → fields_pass new_unit (on_study_day new_unit randomisation r) ≡ true
own_passed randomisation r five e =
    let own = passes new_unit r false false e in
    fields_on_day randomisation r.entry r.marks r.sizes five.marks five.sizes own.limits own.zeros
