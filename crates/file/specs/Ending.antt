-- Document 01, "Where a call stops", 14: what ending a file promises, on the held subject.
-- Assumes nothing.
use Rattle.std.specs.Prelude.{◌≡◌, not, [], ◌∷◌, ℕ, Result}
use Rattle.laws.specs.Refusals.{◌when◌}
use Rattle.outcome_rules.specs.Values.{day_value}
use Rattle.subject.specs.declared.Subject.{Subject}
use Rattle.subject.specs.Range.{in_range}
use Rattle.outcome.specs.ReadingOutcome.{pfs_held, duration_held, outcome_of}
use Rattle.file.specs.Verdict.{Verdict, accepted, unless_refused, starts_late, file_values}
use Rattle.outcome.specs.declared.OutcomeResult.{OutcomeResult}
use Rattle.file.specs.declared.FileRefusal.{FileRefusal}

-- behind the last record: 12, which no subject of a file meets, or 14, or the outcome
unfoldable pub verdict_held : Subject → ℕ → Verdict
verdict_held s last =
    unless_refused (12 when not (in_range s) ∷ 14 when starts_late (duration_held s) (day_value s.followup.counting.firstresponse) (pfs_held s) ∷ []) last
    (accepted (outcome_of s))

pub record EndsFile (s : Subject) (last : ℕ) (a : Result OutcomeResult FileRefusal) : Type 0 where
  pub answer : file_values a ≡ verdict_held s last
