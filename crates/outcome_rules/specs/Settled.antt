-- Document 01, "Settled", a term of its own: the marks, each of which says whether a further record can still change its part of the outcome.
-- Assumes nothing.
use Rattle.std.specs.Prelude.{ℕ, ◌+◌, Bool, not, leb}
use Rattle.laws.specs.Choice.{either, pick}
use Rattle.response_rules.specs.Words.{Word}
use Rattle.outcome_rules.specs.Values.{is_recorded, Duration, exists, Outcome}
use Rattle.outcome_rules.specs.StudyRecords.{Baseline}
use Rattle.outcome_rules.specs.LawfulLists.{Past}
use Rattle.outcome_rules.specs.Course.{Course, course, latest_day_in, death_day_in, therapy_recorded, progression}
use Rattle.outcome_rules.specs.Pfs.{early_death_limit, pfs}
use Rattle.outcome_rules.specs.BestResponse.{is_cr, best}
use Rattle.outcome_rules.specs.Duration.{duration}

-- 93: from this day on no death is an early one
unfoldable pub settled_from : ℕ
settled_from = early_death_limit + 2

-- baseline assessed, a progression or death is recorded; baseline missing, a death is recorded or the latest day is at least 93
unfoldable pub pfs_settled_by : Bool → Bool → Bool → ℕ → Bool
pfs_settled_by assessed progressed dead latest = pick assessed (either progressed dead) (either dead (leb settled_from latest))

-- progression, therapy, death, baseline missing, or best is CR
unfoldable pub best_settled_by : Bool → Bool → Bool → Bool → Word → Bool
best_settled_by progressed therapy_recorded dead assessed best =
    either progressed (either therapy_recorded (either dead (either (not assessed) (is_cr best))))

-- where it exists, PFS is settled; where not, best is settled
unfoldable pub duration_settled_by : Duration → Bool → Bool → Bool
duration_settled_by duration pfs_settled best_settled = pick (exists duration) pfs_settled best_settled

unfoldable pub pfs_settled : Bool → Course → Bool
pfs_settled assessed c = pfs_settled_by assessed (is_recorded (progression c)) (is_recorded (death_day_in c)) (latest_day_in c)

unfoldable pub best_settled : Bool → Course → Bool
best_settled assessed c = best_settled_by (is_recorded (progression c)) (therapy_recorded c) (is_recorded (death_day_in c)) assessed (best c)

unfoldable pub duration_settled : Bool → Course → Bool
duration_settled assessed c = duration_settled_by (duration c) (pfs_settled assessed c) (best_settled assessed c)

-- the outcome with its marks, from whether the baseline was assessed and the course
abbrev pub outcome_from : Bool → Course → Outcome
outcome_from assessed c =
    record {
      pfs = pfs c;
      best = best c;
      duration = duration c;
      pfs_settled = pfs_settled assessed c;
      best_settled = best_settled assessed c;
      duration_settled = duration_settled assessed c;
    }

abbrev pub outcome : Baseline → Past → Outcome
outcome b p = outcome_from b.assessed (course b p)
