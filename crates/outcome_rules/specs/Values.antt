-- Document 01, "Outcome": the values of its parts, and the word and values of each declared case.
-- Assumes nothing.
use Rattle.std.specs.Prelude.{ℕ, Bool, true, false, Option, Some, None}
use Rattle.dates.specs.declared.StudyDay.{StudyDay}
use Rattle.response_rules.specs.Words.{Word, CR, PR, SD, PD, NE}
use Rattle.outcome_rules.specs.declared.PfsStatus.{PfsStatus}
use Rattle.outcome_rules.specs.declared.PfsStatus.TheVariants as E
use Rattle.outcome_rules.specs.declared.PfsResult.{PfsResult}
use Rattle.outcome_rules.specs.declared.BestResponse.{BestResponse}
use Rattle.outcome_rules.specs.declared.BestResponse.TheVariants as B
use Rattle.outcome_rules.specs.declared.DurationResult.{DurationResult}

-- a study day that may be absent
pub data Day : Type 0 where
  none : Day
  on : ℕ → Day

abbrev pub is_recorded : Day → Bool
is_recorded none = false
is_recorded (on d) = true

infixr 20 ◌or_else◌
abbrev pub ◌or_else◌ : Day → Day → Day
◌or_else◌ none e = e
◌or_else◌ (on d) e = on d

abbrev pub or_day1 : Day → ℕ
or_day1 none = 1
or_day1 (on d) = d

-- the status of PFS and of duration, by the listing's words
pub data PfsWord : Type 0 where
  EVENT : PfsWord
  CENSORED : PfsWord

-- PFS: a status and a day
pub record Pfs : Type 0 where
  pub status : PfsWord
  pub day : ℕ

abbrev pub event : ℕ → Pfs
event d = record { status = EVENT; day = d }

abbrev pub censored : ℕ → Pfs
censored d = record { status = CENSORED; day = d }

-- duration: none, or a status and days
pub data Duration : Type 0 where
  no_duration : Duration
  for_days : PfsWord → ℕ → Duration

abbrev pub exists : Duration → Bool
exists no_duration = false
exists (for_days s n) = true

-- the outcome: its three parts, and for each whether it is settled
pub record Outcome : Type 0 where
  pub pfs : Pfs
  pub best : Word
  pub duration : Duration
  pub pfs_settled : Bool
  pub best_settled : Bool
  pub duration_settled : Bool

-- the declared cases
abbrev pub day_value : Option StudyDay → Day
day_value None = none
day_value (Some d) = on d.0

abbrev pub pfs_status_word : PfsStatus → PfsWord
pfs_status_word E.Event = EVENT
pfs_status_word E.Censored = CENSORED

abbrev pub pfs_values : PfsResult → Pfs
pfs_values r = record { status = pfs_status_word r.status; day = r.day.0 }

abbrev pub best_word : BestResponse → Word
best_word B.CR = CR
best_word B.PR = PR
best_word B.SD = SD
best_word B.PD = PD
best_word B.NE = NE

abbrev pub duration_values : Option DurationResult → Duration
duration_values None = no_duration
duration_values (Some r) = for_days (pfs_status_word r.status) r.days
