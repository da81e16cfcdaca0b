-- Document 01, "Outcome": study days as they are held, some of which may be absent.
-- Assumes nothing.
use Rattle.std.specs.Prelude.{ℕ, Bool, false, Option, Some, None}
use Rattle.dates.specs.declared.StudyDay.{StudyDay}
use Rattle.outcome_rules.specs.Values.{Day, none, on}
use Rattle.outcome_rules.specs.BestResponse.{confirms}

abbrev pub at : ℕ → StudyDay
at d = record { 0 = d }

abbrev pub maybe : Day → Option StudyDay
maybe none = None
maybe (on d) = Some (at d)

abbrev pub first_recorded : Option StudyDay → StudyDay → Option StudyDay
first_recorded None d = Some d
first_recorded (Some e) d = Some e

-- 28 days or more after a day that is recorded
abbrev pub confirmed_on : Option StudyDay → ℕ → Bool
confirmed_on None d = false
confirmed_on (Some e) d = confirms e.0 d
