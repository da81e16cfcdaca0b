-- Document 01, "Outcome": two visits missed, and progression-free survival (PFS).
-- Assumes nothing.
use Rattle.std.specs.Prelude.{ℕ, ◌-◌, Bool, List, [], ◌∷◌, leb, ltb}
use Rattle.laws.specs.Choice.{pick}
use Rattle.response_rules.specs.OverallAnswer.{evaluable}
use Rattle.outcome_rules.specs.Values.{Day, none, on, is_recorded, or_day1, Pfs, event, censored}
use Rattle.outcome_rules.specs.Course.{Judged, Course, death_day_in, visits_in, first_pd, progression}

-- the visits recorded before the event: before progression where there is one, and else all, since nothing is recorded after a death
abbrev pub before_event : List Judged → List Judged
before_event [] = []
before_event (j ∷ js) = pick (is_recorded (first_pd (j ∷ js))) (before_event js) (j ∷ before_event js)

-- v, document 01's letter: the day of the last visit recorded before the event, evaluable or not, or day 1
abbrev pub last_visit : List Judged → ℕ
last_visit [] = 1
last_visit (j ∷ js) = j.day

abbrev pub last_evaluable : List Judged → Day
last_evaluable [] = none
last_evaluable (j ∷ js) = pick (evaluable j.answer) (on j.day) (last_evaluable js)

-- v = 1, 91 days; 2 to 119, 98; 120 to 161, 112; from 162, 126; there is no day 0
unfoldable pub gap_limit : ℕ → ℕ
gap_limit v = pick (leb v 1) 91 (pick (leb v 119) 98 (pick (leb v 161) 112 126))

-- two visits missed, a term of document 01: event day − v exceeds the limit; `-` stops at 0, so a v after the event would be no gap
abbrev pub two_visits_missed : ℕ → ℕ → Bool
two_visits_missed day v = ltb (gap_limit v) (day - v)

-- the early-death limit: death day − 1 is at most this
unfoldable pub early_death_limit : ℕ
early_death_limit = 91

-- event that day, or, two visits missed, censored at the last evaluable visit before it (day 1 if none)
abbrev pub event_unless_missed : ℕ → ℕ → Day → Pfs
event_unless_missed day v evaluable = pick (two_visits_missed day v) (censored (or_day1 evaluable)) (event day)

-- from the days of progression and death, v, and the last evaluable visit before the event
abbrev pub pfs_of : Day → Day → ℕ → Day → Pfs
pfs_of (on d) death v evaluable = event_unless_missed d v evaluable
pfs_of none (on d) v none = pick (leb (d - 1) early_death_limit) (event d) (censored 1)
pfs_of none (on d) v (on e) = event_unless_missed d v (on e)
pfs_of none none v evaluable = censored (or_day1 evaluable)

unfoldable pub pfs : Course → Pfs
pfs c = pfs_of (progression c) (death_day_in c) (last_visit (before_event (visits_in c))) (last_evaluable (before_event (visits_in c)))
