-- One record more behind a lawful list and one occurrence more in its course, and days that are recorded or absent.
-- Assumes nothing.
use mathlib.Core.Path.{◌≡◌, refl, sym, ◌∙◌}
use mathlib.Core.Bool.{Bool, true, false, not}
use mathlib.Core.List.{[], ◌∷◌, ◌++◌}
use Prim.Native.Nat.{ℕ, ◌≤◌}
use native.Mathlib.Omega.{arith}
use lib.Dec.{ltb}
use borrow.Author.Tests.{leb-true, ltb-true, not-true}
use Rattle.laws.proofs.Tests.{never, both_true}
use Rattle.outcome_rules.specs.Values.{Day, none, on, is_recorded, ◌or_else◌}
use Rattle.outcome_rules.specs.StudyRecords.{Baseline, StudyRecord, baseline, visit, therapy, death, day_of, all_pass}
use Rattle.outcome_rules.specs.LawfulLists.{Past, latest_day, death_day, died, fits, lawful_next, lawful_behind}
use Rattle.outcome_rules.specs.Course.{Occurrence, judged_visit, therapy_on, death_on, Course, judge, course, day_in, latest_day_in, death_day_in, visits_in}
use Rattle.outcome_rules.proofs.BaselineMissing.{AllNE, missing_visits}

pub recorded_on : (x : Day) → is_recorded x ≡ true → (d : ℕ) × (x ≡ on d)
recorded_on none e = absurd (never (sym e))
recorded_on (on d) e = (d, refl)

pub absent : (x : Day) → is_recorded x ≡ false → x ≡ none
absent none e = refl
absent (on d) e = absurd (never e)

pub recorded_keeps : (x y : Day) → is_recorded x ≡ true → is_recorded (x or_else y) ≡ true
recorded_keeps none y e = absurd (never (sym e))
recorded_keeps (on d) y e = refl

-- what a lawful list says of its newest record
pub record Next (b : Baseline) (p : Past) (r : StudyRecord) : Type 0 where
  pub before : lawful_behind b p ≡ true
  pub alive : died p ≡ false
  pub place : lawful_next b (latest_day p) r ≡ true

pub next : (b : Baseline) (p : Past) (r : StudyRecord) → lawful_behind b (r ∷ p) ≡ true → Next b p r
next b p r l =
    let whole = both_true (lawful_behind b p) _ l in
    let rest = both_true (not (died p)) _ whole.1 in
    record { before = whole.0; alive = not-true (died p) rest.0; place = rest.1 }

-- no day is before the latest so far
pub rising : (b : Baseline) (latest : ℕ) (r : StudyRecord) → lawful_next b latest r ≡ true → latest ≤ day_of r
rising b latest (baseline x) e = absurd (never (sym e))
rising b latest (visit d v) e = let h = ltb-true latest d (both_true (ltb latest d) (fits b v) e).0 in omega arith
rising b latest (therapy d) e = leb-true latest d e
rising b latest (death d) e = leb-true latest d e

pub latest_is_last : (b : Baseline) (p : Past) (r : StudyRecord) → lawful_behind b (r ∷ p) ≡ true → latest_day (r ∷ p) ≡ day_of r
latest_is_last b p r l = let h = rising b (latest_day p) r (next b p r l).place in omega arith

pub from_day_1 : (p : Past) → 1 ≤ latest_day p
from_day_1 [] = omega arith
from_day_1 (r ∷ p) = let h = from_day_1 p in omega arith

-- ---- the course of a list

pub from_day_1_in : (c : Course) → 1 ≤ latest_day_in c
from_day_1_in [] = omega arith
from_day_1_in (e ∷ c) = let h = from_day_1_in c in omega arith

module _ (b : Baseline) where
  pub latest_in : (p : Past) → latest_day_in (course b p) ≡ latest_day p
  latest_in [] = refl
  latest_in (baseline x ∷ p) = let h = latest_in p in let one = from_day_1 p in omega arith
  latest_in (visit d v ∷ p) = rw (latest_in p)
  latest_in (therapy d ∷ p) = rw (latest_in p)
  latest_in (death d ∷ p) = rw (latest_in p)

  pub death_in : (p : Past) → death_day_in (course b p) ≡ death_day p
  death_in [] = refl
  death_in (baseline x ∷ p) = death_in p
  death_in (visit d v ∷ p) = death_in p
  death_in (therapy d ∷ p) = death_in p
  death_in (death d ∷ p) = rw (death_in p)

-- what a lawful list says of its newest occurrence
pub record Follows (assessed : Bool) (c : Course) (e : Occurrence) : Type 0 where
  pub alive : death_day_in c ≡ none
  pub later : latest_day_in c ≤ day_in e
  pub unassessed : assessed ≡ false → AllNE (visits_in (e ∷ c))

follows : (b : Baseline) (p : Past) (r : StudyRecord) (e : Occurrence) → lawful_behind b (r ∷ p) ≡ true → course b (r ∷ p) ≡ e ∷ course b p → day_in e ≡ day_of r →
    Follows b.assessed (course b p) e
follows b p r e l q day =
    let n = next b p r l in
    let up = rising b (latest_day p) r n.place in
    record {
      alive = death_in b p ∙ absent (death_day p) n.alive;
      later = omega (arith, latest_in b p);
      unassessed = λ m. rw q at (missing_visits b (r ∷ p) m);
    }

-- what is read from the course is the same behind every lawful run of further records
abbrev pub Unchanged : {A : Type 0} → (Course → A) → Baseline → Past → Type 0
Unchanged part b p =
    (run : Past) → all_pass b.unit run ≡ true → lawful_behind b (run ++ p) ≡ true → part (course b (run ++ p)) ≡ part (course b p)

-- so it is where each further occurrence keeps it, together with a reason for that
pub unchanged_by : {A : Type 0} (part : Course → A) (Reason : Course → Type 0) (b : Baseline) →
    ((c : Course) (e : Occurrence) → Follows b.assessed c e → Reason c → Reason (e ∷ c) × (part (e ∷ c) ≡ part c)) →
    (p : Past) → Reason (course b p) → Unchanged part b p
unchanged_by part Reason b keep p why run passes l = (go run l).1
  where
    step : (p : Past) (r : StudyRecord) → lawful_behind b (r ∷ p) ≡ true → Reason (course b p) →
        Reason (course b (r ∷ p)) × (part (course b (r ∷ p)) ≡ part (course b p))
    step p (baseline x) l w = (w, refl)
    step p (visit d v) l w = keep (course b p) (judged_visit (judge b p d v)) (follows b p (visit d v) (judged_visit (judge b p d v)) l refl refl) w
    step p (therapy d) l w = keep (course b p) (therapy_on d) (follows b p (therapy d) (therapy_on d) l refl refl) w
    step p (death d) l w = keep (course b p) (death_on d) (follows b p (death d) (death_on d) l refl refl) w

    go : (run : Past) → lawful_behind b (run ++ p) ≡ true → Reason (course b (run ++ p)) × (part (course b (run ++ p)) ≡ part (course b p))
    go [] l = (why, refl)
    go (r ∷ run) l =
        let before = go run (next b (run ++ p) r l).before in
        let kept = step (run ++ p) r l before.0 in
        (kept.0, kept.1 ∙ before.1)
