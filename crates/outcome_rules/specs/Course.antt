-- Document 01, "Outcome": the course of a subject, a term of our own: what was recorded behind the baseline, newest first, with each visit judged. The
-- outcome and its marks are read from the course and from whether the baseline was assessed; neither sizes nor statuses are looked at again.
-- Assumes nothing.
use Rattle.std.specs.Prelude.{ℕ, max, Bool, true, false, List, [], ◌∷◌}
use Rattle.laws.specs.Choice.{either, pick}
use Rattle.response_rules.specs.Words.{Word, overall_word}
use Rattle.response_rules.specs.OverallAnswer.{is_pd}
use Rattle.response_rules.specs.Inputs.{Visit}
use Rattle.response_rules.specs.VisitAnswers.{overall_answer_after}
use Rattle.outcome_rules.specs.declared.JudgedVisit.{JudgedVisit}
use Rattle.outcome_rules.specs.Values.{Day, none, on, is_recorded, ◌or_else◌}
use Rattle.outcome_rules.specs.StudyRecords.{Baseline, baseline, visit, therapy, death, disease}
use Rattle.outcome_rules.specs.LawfulLists.{Past}

abbrev pub visits_of : Past → List Visit
visits_of [] = []
visits_of (baseline b ∷ p) = visits_of p
visits_of (visit d v ∷ p) = v ∷ visits_of p
visits_of (therapy d ∷ p) = visits_of p
visits_of (death d ∷ p) = visits_of p

-- a visit as judged: its day and its overall answer
pub record Judged : Type 0 where
  pub day : ℕ
  pub answer : Word

abbrev pub judged_values : JudgedVisit → Judged
judged_values j = record { day = j.day.0; answer = overall_word j.answer }

-- what is recorded behind a baseline
pub data Occurrence : Type 0 where
  judged_visit : Judged → Occurrence
  therapy_on : ℕ → Occurrence
  death_on : ℕ → Occurrence

abbrev pub Course : Type 0
Course = List Occurrence

-- the overall answer at a visit, after the earlier ones
unfoldable pub overall_at : Baseline → Past → Visit → Word
overall_at b p v = overall_answer_after b.unit (disease b) (visits_of p) v

abbrev pub judge : Baseline → Past → ℕ → Visit → Judged
judge b p d v = record { day = d; answer = overall_at b p v }

-- each visit is judged once, here, after those before it
abbrev pub course : Baseline → Past → Course
course b [] = []
course b (baseline x ∷ p) = course b p
course b (visit d v ∷ p) = judged_visit (judge b p d v) ∷ course b p
course b (therapy d ∷ p) = therapy_on d ∷ course b p
course b (death d ∷ p) = death_on d ∷ course b p

-- the latest day, the death, therapy and the visits in a course; the first two are those of its records (`ListLaws`)
abbrev pub day_in : Occurrence → ℕ
day_in (judged_visit j) = j.day
day_in (therapy_on d) = d
day_in (death_on d) = d

abbrev pub latest_day_in : Course → ℕ
latest_day_in [] = 1
latest_day_in (e ∷ c) = max (day_in e) (latest_day_in c)

abbrev pub death_day_in : Course → Day
death_day_in [] = none
death_day_in (judged_visit j ∷ c) = death_day_in c
death_day_in (therapy_on d ∷ c) = death_day_in c
death_day_in (death_on d ∷ c) = death_day_in c or_else on d

abbrev pub therapy_recorded : Course → Bool
therapy_recorded [] = false
therapy_recorded (judged_visit j ∷ c) = therapy_recorded c
therapy_recorded (therapy_on d ∷ c) = true
therapy_recorded (death_on d ∷ c) = therapy_recorded c

abbrev pub visits_in : Course → List Judged
visits_in [] = []
visits_in (judged_visit j ∷ c) = j ∷ visits_in c
visits_in (therapy_on d ∷ c) = visits_in c
visits_in (death_on d ∷ c) = visits_in c

-- progression is the first overall PD
abbrev pub first_pd : List Judged → Day
first_pd [] = none
first_pd (j ∷ js) = first_pd js or_else (pick (is_pd j.answer) (on j.day) none)

abbrev pub progression : Course → Day
progression c = first_pd (visits_in c)

-- no further visit counts: a therapy or a progression is recorded
abbrev pub counting_closed : Course → Bool
counting_closed c = either (therapy_recorded c) (is_recorded (progression c))

-- counting visits, a term of document 01: those recorded before the first therapy, up to and with progression
abbrev pub counting_visits : Course → List Judged
counting_visits [] = []
counting_visits (judged_visit j ∷ c) = pick (counting_closed c) (counting_visits c) (j ∷ counting_visits c)
counting_visits (therapy_on d ∷ c) = counting_visits c
counting_visits (death_on d ∷ c) = counting_visits c
