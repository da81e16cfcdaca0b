-- Document 01, "Contracts" a and "Where a call stops", 12: what reading the outcome promises, for every subject.
-- Assumes nothing.
use Rattle.std.specs.Prelude.{◌≡◌, Bool, ℕ, Result, Ok, Err}
use Rattle.laws.specs.Choice.{pick}
use Rattle.response_rules.specs.Words.{Word}
use Rattle.outcome_rules.specs.Values.{is_recorded, Pfs, Duration, Outcome, day_value, pfs_values, best_word, duration_values}
use Rattle.outcome_rules.specs.Pfs.{pfs_of}
use Rattle.outcome_rules.specs.Duration.{duration_of}
use Rattle.outcome_rules.specs.Settled.{pfs_settled_by, best_settled_by, duration_settled_by}
use Rattle.subject.specs.declared.Subject.{Subject}
use Rattle.subject.specs.Range.{in_range}
use Rattle.outcome.specs.declared.OutcomeResult.{OutcomeResult}
use Rattle.outcome.specs.declared.OutOfRange.{OutOfRange}

-- a refusal's number, or the outcome
pub data Reading : Type 0 where
  refused : ℕ → Reading
  outcome : Outcome → Reading

abbrev pub outcome_values : OutcomeResult → Outcome
outcome_values o =
    record {
      pfs = pfs_values o.pfs;
      best = best_word o.best;
      duration = duration_values o.duration;
      pfs_settled = o.settled.pfs;
      best_settled = o.settled.best;
      duration_settled = o.settled.duration;
    }

abbrev pub reading_values : Result OutcomeResult OutOfRange → Reading
reading_values (Err e) = refused 12
reading_values (Ok o) = outcome (outcome_values o)

-- the parts and the marks from what is held
abbrev pub pfs_held : Subject → Pfs
pfs_held s =
    pfs_of (day_value s.followup.event.progression) (day_value s.followup.deathday) s.followup.event.lastvisit.0
    (day_value s.followup.event.lastevaluable)

abbrev pub best_held : Subject → Word
best_held s = best_word s.followup.counting.best

abbrev pub duration_held : Subject → Duration
duration_held s = duration_of (best_held s) (day_value s.followup.counting.firstresponse) (pfs_held s)

abbrev pub pfs_settled_held : Subject → Bool
pfs_settled_held s =
    pfs_settled_by s.enrolment.disease.assessed (is_recorded (day_value s.followup.event.progression)) (is_recorded (day_value s.followup.deathday))
    s.followup.latestday.0

abbrev pub best_settled_held : Subject → Bool
best_settled_held s =
    best_settled_by (is_recorded (day_value s.followup.event.progression)) s.followup.therapyrecorded (is_recorded (day_value s.followup.deathday))
    s.enrolment.disease.assessed (best_held s)

unfoldable pub outcome_of : Subject → Outcome
outcome_of s =
    record {
      pfs = pfs_held s;
      best = best_held s;
      duration = duration_held s;
      pfs_settled = pfs_settled_held s;
      best_settled = best_settled_held s;
      duration_settled = duration_settled_by (duration_held s) (pfs_settled_held s) (best_settled_held s);
    }

-- 12, or the outcome
unfoldable pub reading_of : Subject → Reading
reading_of s = pick (in_range s) (outcome (outcome_of s)) (refused 12)

pub record ReadsOutcome (s : Subject) (o : Result OutcomeResult OutOfRange) : Type 0 where
  pub answer : reading_values o ≡ reading_of s
