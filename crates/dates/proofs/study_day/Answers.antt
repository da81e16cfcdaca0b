-- `dates::study_day` meets its contract: what the two day numbers say of their dates picks the definition's case.
-- Assumes nothing.
use mathlib.Core.Path.{◌≡◌, refl, ap}
use mathlib.Core.Bool.{Bool, true, false}
use Prim.Native.Nat.{ℕ, ◌+◌, ◌-◌, ◌≤◌, ◌<◌}
use native.Mathlib.Omega.{arith}
use lib.Dec.{leb}
use borrow.Author.Tests.{le-leb, lt-leb}
use Rattle.std.proofs.lemmas.Result.{err_from_is_err_and}
use Rattle.laws.specs.Choice.{pick}
use Rattle.laws.proofs.Tests.{both_with_false}
use Rattle.dates.specs.Calendar.{date_exists, day_number}
use Rattle.dates.specs.Answers.{Counted, counted, refused, day_number_of, study_day_of}
use Rattle.dates.specs.declared.Date.{Date}
use Rattle.dates.proofs.study_day.Goals as goal

not_refused : (n : ℕ) → counted n ≡ refused 3 → ⊥
not_refused n e = let z : ◌≡◌ {A = ℕ} 0 3 = ap (λ (x : Counted). x.refusal) e in omega arith

-- a date without a day number does not exist
unknown : (d : Date) → refused 3 ≡ day_number_of d → date_exists d ≡ false
unfolding day_number_of
unknown d e = go (date_exists d) e
  where
    go : (b : Bool) → refused 3 ≡ pick b (counted (day_number d)) (refused 3) → b ≡ false
    go true q = absurd (not_refused (day_number d) (cc))
    go false q = refl

-- a date with a day number exists, and the number is its own
known : (d : Date) (n : ℕ) → counted n ≡ day_number_of d → (date_exists d ≡ true) × (n ≡ day_number d)
unfolding day_number_of
known d n e = go (date_exists d) e
  where
    go : (b : Bool) → counted n ≡ pick b (counted (day_number d)) (refused 3) → (b ≡ true) × (n ≡ day_number d)
    go true q = (refl, ap (λ (x : Counted). x.day) q)
    go false q = absurd (not_refused n q)

no_date : (d r : Date) → refused 3 ≡ day_number_of d → refused 3 ≡ study_day_of d r
unfolding study_day_of
no_date d r e = rw (unknown d e)

no_randomisation : (d r : Date) → refused 3 ≡ day_number_of r → refused 3 ≡ study_day_of d r
unfolding study_day_of
no_randomisation d r e = rw (unknown r e, both_with_false (date_exists d))

-- the answer where both dates have a day number
module _ (d r : Date) (n m : ℕ) (e : counted n ≡ day_number_of d) (f : counted m ≡ day_number_of r) where
  both_known : pick (leb m n) (counted (n - m + 1)) (refused 10) ≡ study_day_of d r
  unfolding study_day_of
  both_known = let x = known d n e in let y = known r m f in rw (x.0, y.0, ← x.1, ← y.1)

  from_randomisation : m ≤ n → counted (n - m + 1) ≡ study_day_of d r
  from_randomisation h = rw (le-leb m n h) at both_known

  before_randomisation : n < m → refused 10 ≡ study_day_of d r
  before_randomisation h = rw (lt-leb m n h) at both_known

pub returns-in_err-day : goal.returns-in_err-day
returns-in_err-day c = let p = err_from_is_err_and c.from_residual.result c.from_residual.ensures.1 in rw (p.1, p.2) (no_date _ _ c.in_err-day.ensures)

pub returns-in_err-first : goal.returns-in_err-first
returns-in_err-first c =
    let p = err_from_is_err_and c.from_residual-in_err-first.result c.from_residual-in_err-first.ensures.1 in
    rw (p.1, p.2) (no_randomisation _ _ c.in_err-first.ensures)

pub returns-then-day-first : goal.returns-then-day-first
returns-then-day-first c = before_randomisation _ _ _ _ c.in_ok-day.ensures c.in_ok-first.ensures c.if-day-first.true

pub returns : goal.returns
returns c = from_randomisation _ _ _ _ c.in_ok-day.ensures c.in_ok-first.ensures c.if-day-first.false
