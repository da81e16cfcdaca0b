-- Document 01, "Dates and records": lawful lists. Here and in the definitions that follow the records behind a baseline stand with the newest first:
-- `r ∷ p` is p with r recorded behind it, and p is what was recorded before r.
-- Assumes nothing.
use Rattle.std.specs.Prelude.{ℕ, max, Bool, true, false, not, List, [], ◌∷◌, reverse, leb, ltb, eqb, get_or}
use Rattle.laws.specs.Choice.{both, pick, some}
use Rattle.records.specs.declared.Status.{Status}
use Rattle.records.specs.Entries.{status_number}
use Rattle.records.specs.Refusals.{most_targets}
use Rattle.response_rules.specs.Inputs.{Visit}
use Rattle.outcome_rules.specs.Values.{Day, none, on, is_recorded, ◌or_else◌}
use Rattle.outcome_rules.specs.StudyRecords.{Baseline, StudyRecord, baseline, visit, therapy, death, day_of, from_baseline}

abbrev pub Past : Type 0
Past = List StudyRecord

-- the latest day, a term of document 01, starts at 1
abbrev pub latest_day : Past → ℕ
latest_day [] = 1
latest_day (r ∷ p) = max (day_of r) (latest_day p)

abbrev pub death_day : Past → Day
death_day [] = none
death_day (baseline b ∷ p) = death_day p
death_day (visit d v ∷ p) = death_day p
death_day (therapy d ∷ p) = death_day p
death_day (death d ∷ p) = death_day p or_else on d

abbrev pub died : Past → Bool
died p = is_recorded (death_day p)

-- targets beyond the count unmeasured, status 0 exactly when no non-target lesions were recorded
unfoldable pub measured_beyond : ℕ → List Bool → Bool
measured_beyond count measured = some (λ (i : ℕ). both (leb count i) (get_or measured i false)) most_targets

abbrev pub status_fits : Bool → Status → Bool
status_fits nontarget status = pick nontarget (not (eqb (status_number status) 0)) (eqb (status_number status) 0)

unfoldable pub fits_by : ℕ → Bool → Status → List Bool → Bool
fits_by count nontarget status measured = both (not (measured_beyond count measured)) (status_fits nontarget status)

unfoldable pub fits : Baseline → Visit → Bool
fits b v = fits_by b.count b.nontarget v.status v.measured

-- no other baseline; each therapy or death on or after the latest day so far; each visit later than it, and fitting the baseline
abbrev pub lawful_next : Baseline → ℕ → StudyRecord → Bool
lawful_next b latest (baseline x) = false
lawful_next b latest (visit d v) = both (ltb latest d) (fits b v)
lawful_next b latest (therapy d) = leb latest d
lawful_next b latest (death d) = leb latest d

-- nothing after a death
abbrev pub lawful_behind : Baseline → Past → Bool
lawful_behind b [] = true
lawful_behind b (r ∷ p) = both (lawful_behind b p) (both (not (died p)) (lawful_next b (latest_day p) r))

-- lawful, a term of document 01: a list in the order recorded that opens with a baseline
abbrev pub lawful : List StudyRecord → Bool
lawful = from_baseline false (λ (b : Baseline) (rs : List StudyRecord). lawful_behind b (reverse rs))
