-- Reasons for which PFS stays unchanged: each further occurrence of a lawful list keeps it, and a reason for it. The mark is not named here.
-- Assumes nothing.
use mathlib.Core.Path.{◌≡◌, refl, sym, ap, ◌∙◌}
use mathlib.Core.Bool.{Bool, true, false}
use mathlib.Core.List.{◌∷◌}
use Prim.Native.Nat.{ℕ, ◌-◌, ◌<◌}
use native.Mathlib.Omega.{arith}
use borrow.Author.Tests.{lt-leb}
use Rattle.laws.proofs.Tests.{never}
use Rattle.outcome_rules.specs.Values.{none, on, is_recorded}
use Rattle.outcome_rules.specs.StudyRecords.{Baseline}
use Rattle.outcome_rules.specs.LawfulLists.{Past}
use Rattle.outcome_rules.specs.Course.{Occurrence, judged_visit, therapy_on, death_on, Course, course, day_in, latest_day_in, death_day_in, visits_in, progression}
use Rattle.outcome_rules.specs.Pfs.{early_death_limit, pfs}
use Rattle.outcome_rules.proofs.OneRecordMore.{recorded_on, recorded_keeps, Follows, unchanged_by, Unchanged}
use Rattle.outcome_rules.proofs.BaselineMissing.{AllNE, no_progression, no_evaluable}

-- PFS: a progression or a death is recorded, or the baseline is missing and a death from now on is no early one
pub data PfsOver (assessed : Bool) (c : Course) : Type 0 where
  progressed : is_recorded (progression c) ≡ true → PfsOver assessed c
  dead : is_recorded (death_day_in c) ≡ true → PfsOver assessed c
  late : assessed ≡ false → early_death_limit < latest_day_in c - 1 → PfsOver assessed c

module _ (c : Course) where
  progression_keeps : (e : Occurrence) → is_recorded (progression c) ≡ true → is_recorded (progression (e ∷ c)) ≡ true
  progression_keeps (judged_visit j) q = recorded_keeps (progression c) _ q
  progression_keeps (therapy_on d) q = q
  progression_keeps (death_on d) q = q

  pfs_progressed : (e : Occurrence) (d : ℕ) → progression c ≡ on d → pfs (e ∷ c) ≡ pfs c
  unfolding pfs
  pfs_progressed (judged_visit j) d q = rw q
  pfs_progressed (therapy_on t) d q = refl
  pfs_progressed (death_on t) d q = rw q

  pfs_late : (e : Occurrence) → AllNE (visits_in (e ∷ c)) → death_day_in c ≡ none → early_death_limit < day_in e - 1 → pfs (e ∷ c) ≡ pfs c
  unfolding pfs
  pfs_late (judged_visit j) u a h = rw (no_progression (visits_in c) u.1, u.0, a, no_evaluable (visits_in c) u.1)
  pfs_late (therapy_on t) u a h = refl
  pfs_late (death_on t) u a h = rw (no_progression (visits_in c) u, no_evaluable (visits_in c) u, a, lt-leb (t - 1) early_death_limit h)

pub pfs_keeps : {assessed : Bool} (c : Course) (e : Occurrence) → Follows assessed c e → PfsOver assessed c → PfsOver assessed (e ∷ c) × (pfs (e ∷ c) ≡ pfs c)
pfs_keeps c e f (progressed q) = let d = recorded_on (progression c) q in (progressed (progression_keeps c e q), pfs_progressed c e d.0 d.1)
pfs_keeps c e f (dead q) = absurd (never (sym q ∙ ap is_recorded f.alive))
pfs_keeps c e f (late m h) = let up = f.later in (late m (omega arith), pfs_late c e (f.unassessed m) f.alive (omega arith))

pub pfs_unchanged : (b : Baseline) (p : Past) → PfsOver b.assessed (course b p) → Unchanged pfs b p
pfs_unchanged b p why = unchanged_by pfs (PfsOver b.assessed) b pfs_keeps p why
