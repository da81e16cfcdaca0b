-- Document 01, "Dates and records", "Outcome" and "Settled": what a reader can expect of lists; proved in proofs/.
-- Assumes nothing.
use Rattle.std.specs.Prelude.{◌≡◌, true, false, List, [], ◌∷◌, ◌++◌, ◌↔◌, ◌<◌}
use Rattle.laws.specs.Refusals.{first}
use Rattle.dates.specs.declared.Date.{Date}
use Rattle.dates.specs.Calendar.{day_number}
use Rattle.records.specs.declared.Record.{Record}
use Rattle.records.specs.Entries.{date_of, Five}
use Rattle.records.specs.Refusals.{refusal_of_record}
use Rattle.records.specs.Forms.{new_unit}
use Rattle.outcome_rules.specs.Values.{exists}
use Rattle.outcome_rules.specs.StudyRecords.{Baseline, StudyRecord, day_of, fields_pass, on_study_day, on_study_days}
use Rattle.outcome_rules.specs.LawfulLists.{Past, latest_day, death_day, lawful_behind, lawful}
use Rattle.outcome_rules.specs.Course.{Course, course, latest_day_in, death_day_in}
use Rattle.outcome_rules.specs.BestResponse.{is_response, best}
use Rattle.outcome_rules.specs.Duration.{duration}
use Rattle.outcome_rules.specs.MarksExact.{MarksExactOn}
use Rattle.outcome_rules.specs.Adding.{is_baseline, too_early, refusals_of_study_record, refusal_of_opening, refusal_of_adding, Call, accepted}

pub record ListLaws : Type 0 where
  -- in a lawful list the latest day is that of the last record
  pub latest_is_last : (b : Baseline) (p : Past) (r : StudyRecord) → lawful_behind b (r ∷ p) ≡ true → latest_day (r ∷ p) ≡ day_of r
  -- the latest day and the death in a course are those of its records
  pub latest_in_course : (b : Baseline) (p : Past) → latest_day_in (course b p) ≡ latest_day p
  pub death_in_course : (b : Baseline) (p : Past) → death_day_in (course b p) ≡ death_day p
  -- duration exists exactly when best is CR or PR
  pub duration_exists : (c : Course) → exists (duration c) ≡ is_response (best c)

pub record AddingLaws : Type 0 where
  -- none of 8 to 11 meets a record exactly when the list with it is lawful too
  pub one_more : (b : Baseline) (p : Past) (r : StudyRecord) → lawful_behind b p ≡ true →
      (first (refusals_of_study_record b p r) ≡ 0) ↔ (lawful_behind b (r ∷ p) ≡ true)
  -- a date before randomisation is too early after any list, also where day 1 is not
  pub before_randomisation : (randomisation : Date) (p : Past) (r : Record) → is_baseline (on_study_day new_unit randomisation r) ≡ false →
      day_number (date_of r.entry) < day_number randomisation → too_early (latest_day p) (on_study_day new_unit randomisation r) ≡ true
  -- a record that none of its own refusals meets passes 4 and 5 on its study day
  pub own_passed : (randomisation : Date) (r : Record) → Five r → refusal_of_record new_unit r ≡ 0 → fields_pass new_unit (on_study_day new_unit randomisation r) ≡ true

pub record CallLaws : Type 0 where
  -- from an accepted opening every list of calls leads to a lawful list
  pub accepted_lawful : (b : Record) (cs : List Call) → refusal_of_opening new_unit b ≡ 0 → lawful (on_study_days new_unit (accepted new_unit b cs)) ≡ true
  -- behind which a record goes exactly where none of 3 to 5 meets it and the list with it is lawful
  pub added_exactly : (b : Record) (cs : List Call) (r : Record) → refusal_of_opening new_unit b ≡ 0 →
      (refusal_of_adding new_unit (accepted new_unit b cs) r ≡ 0) ↔ ((refusal_of_record new_unit r ≡ 0) × (lawful (on_study_days new_unit (accepted new_unit b cs ++ (r ∷ []))) ≡ true))
  -- and each mark of the outcome of that list is true exactly when no run changes its part
  pub accepted_exact : (b : Record) (cs : List Call) → Five b → refusal_of_opening new_unit b ≡ 0 → MarksExactOn (on_study_days new_unit (accepted new_unit b cs))
