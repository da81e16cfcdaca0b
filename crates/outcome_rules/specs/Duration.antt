-- Document 01, "Outcome": duration of response.
-- Assumes nothing.
use Rattle.std.specs.Prelude.{◌+◌, ◌-◌, List, [], ◌∷◌}
use Rattle.laws.specs.Choice.{pick}
use Rattle.response_rules.specs.Words.{Word}
use Rattle.outcome_rules.specs.Values.{Day, none, on, ◌or_else◌, Pfs, Duration, no_duration, for_days}
use Rattle.outcome_rules.specs.Course.{Judged, Course, counting_visits}
use Rattle.outcome_rules.specs.Pfs.{pfs}
use Rattle.outcome_rules.specs.BestResponse.{is_response, best}

-- the first CR or PR of the counting visits
abbrev pub first_response : List Judged → Day
first_response [] = none
first_response (j ∷ js) = first_response js or_else (pick (is_response j.answer) (on j.day) none)

-- exists when best is CR or PR: PFS day − first counting CR or PR day + 1, with PFS's status; `-` stops at 0
abbrev pub duration_of : Word → Day → Pfs → Duration
duration_of best none pfs = no_duration
duration_of best (on first) pfs = pick (is_response best) (for_days pfs.status (pfs.day - first + 1)) no_duration

unfoldable pub duration : Course → Duration
duration c = duration_of (best c) (first_response (counting_visits c)) (pfs c)
