-- A part that no run changes is the same after the runs that are built here: a CR visit on the day after the latest, two CR visits that confirm each other, and a death.
-- Assumes nothing.
use mathlib.Core.Path.{◌≡◌, refl}
use mathlib.Core.Bool.{true, false}
use mathlib.Core.List.{[], ◌∷◌}
use Prim.Native.Nat.{ℕ, suc, ◌+◌}
use native.Mathlib.Omega.{arith}
use borrow.Author.Tests.{le-leb}
use Rattle.response_rules.specs.Words.{CR}
use Rattle.outcome_rules.specs.Values.{none}
use Rattle.outcome_rules.specs.StudyRecords.{Baseline, visit, death, baseline_passes}
use Rattle.outcome_rules.specs.LawfulLists.{Past, latest_day, died, lawful_behind}
use Rattle.outcome_rules.specs.Course.{Occurrence, judged_visit, death_on, Course, course, latest_day_in, death_day_in}
use Rattle.outcome_rules.specs.BestResponse.{confirmation_days}
use Rattle.outcome_rules.proofs.OneRecordMore.{latest_in, death_in, Unchanged}
use Rattle.outcome_rules.proofs.CompleteVisit.{complete_visit, complete_answer, complete_passes, complete_lawful}

abbrev pub cr_on : ℕ → Occurrence
cr_on d = judged_visit (record { day = d; answer = CR })

abbrev pub one_more : Course → Course
one_more c = cr_on (suc (latest_day_in c)) ∷ c

abbrev pub two_more : Course → Course
two_more c = cr_on (suc (latest_day_in c) + confirmation_days) ∷ one_more c

abbrev pub death_now : Course → Course
death_now c = death_on (latest_day_in c) ∷ c

module _ {A : Type 0} (part : Course → A) (b : Baseline) (p : Past) (lawfully : lawful_behind b p ≡ true) (alive : death_day_in (course b p) ≡ none)
    (lasts : Unchanged part b p) where
  abbrev day : ℕ
  day = latest_day p

  living : died p ≡ false
  living = rw (← death_in b p, alive)

  pub same_after_death : part (death_now (course b p)) ≡ part (course b p)
  same_after_death = rw (latest_in b p) (lasts (death day ∷ []) refl (rw (lawfully, living, le-leb day day (omega arith))))

  abbrev more : Past
  more = visit (suc day) (complete_visit b) ∷ p

  one_more_lawful : lawful_behind b more ≡ true
  one_more_lawful = complete_lawful b p (suc day) lawfully living (omega arith)

  module _ (passes : baseline_passes b ≡ true) (assessed : b.assessed ≡ true) where
    pub same_after_one : part (one_more (course b p)) ≡ part (course b p)
    same_after_one =
        rw (latest_in b p)
        (rw (complete_answer b p passes assessed) at
        (lasts (visit (suc day) (complete_visit b) ∷ []) (rw (complete_passes b (suc day))) one_more_lawful))

    pub same_after_two : part (two_more (course b p)) ≡ part (course b p)
    same_after_two =
        rw (latest_in b p)
        (rw (complete_answer b p passes assessed, complete_answer b more passes assessed) at
        (lasts (visit (suc day + confirmation_days) (complete_visit b) ∷ visit (suc day) (complete_visit b) ∷ []) (rw (complete_passes b (suc day)))
        (complete_lawful b more (suc day + confirmation_days) one_more_lawful living (omega arith))))
