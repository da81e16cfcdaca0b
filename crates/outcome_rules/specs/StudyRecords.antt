-- Document 01, "Dates and records" and "Settled": records on their study days, however late, with the four cases of the record. A therapy and a death
-- have a day alone, since everything beside it is zero.
-- Assumes nothing.
use Rattle.std.specs.Prelude.{ℕ, Bool, true, not, List, [], ◌∷◌, map, eqb, length}
use Rattle.laws.specs.Choice.{both, either}
use Rattle.dates.specs.declared.Date.{Date}
use Rattle.dates.specs.Answers.{study_day_of}
use Rattle.dates.specs.Laws.{ymd}
use Rattle.records.specs.declared.BaselineEntry.{BaselineEntry}
use Rattle.records.specs.declared.VisitEntry.{VisitEntry}
use Rattle.records.specs.declared.Entry.{Entry}
use Rattle.records.specs.declared.Entry.TheVariants as E
use Rattle.records.specs.declared.Record.{Record}
use Rattle.records.specs.Entries.{date_of}
use Rattle.records.specs.Refusals.{most_targets, outside_limits, not_zero}
use Rattle.response_rules.specs.declared.BaselineDisease.{BaselineDisease}
use Rattle.response_rules.specs.Inputs.{Visit, visit_of, disease_of}

pub record Baseline : Type 0 where
  -- how many units of size a millimetre has in the records of the subject (document 02, request 1)
  pub unit : ℕ
  pub assessed : Bool
  pub nontarget : Bool
  pub count : ℕ
  pub nodes : List Bool
  pub sizes : List ℕ

pub data StudyRecord : Type 0 where
  baseline : Baseline → StudyRecord
  visit : ℕ → Visit → StudyRecord
  therapy : ℕ → StudyRecord
  death : ℕ → StudyRecord

-- randomisation is day 1
abbrev pub day_of : StudyRecord → ℕ
day_of (baseline b) = 1
day_of (visit d v) = d
day_of (therapy d) = d
day_of (death d) = d

-- the entries of a record, with the date 0000-00-00, since neither the response rules nor 4 and 5 look at it
abbrev pub entry_of_baseline : Baseline → BaselineEntry
entry_of_baseline b = record { date = ymd 0 0 0; assessed = b.assessed; nontarget = b.nontarget; count = b.count }

abbrev pub entry_of_visit : Visit → VisitEntry
entry_of_visit v = record { date = ymd 0 0 0; status = v.status; newlesion = v.new_lesion }

abbrev pub disease : Baseline → BaselineDisease
disease b = disease_of (entry_of_baseline b) b.nodes b.sizes

-- five marks and five sizes, and neither 4 nor 5 meets
unfoldable pub entry_passes : ℕ → Entry → List Bool → List ℕ → Bool
entry_passes unit e marks sizes =
    both (both (eqb (length marks) most_targets) (eqb (length sizes) most_targets))
    (not (either (outside_limits unit e marks sizes) (not_zero e marks sizes)))

-- neither 4 nor 5 meets the fields of a baseline other than the date
abbrev pub baseline_passes : Baseline → Bool
baseline_passes b = entry_passes b.unit (E.Baseline (entry_of_baseline b)) b.nodes b.sizes

-- nor those of any record, with sizes of which a millimetre has so many units
abbrev pub fields_pass : ℕ → StudyRecord → Bool
fields_pass unit (baseline b) = baseline_passes b
fields_pass unit (visit d v) = entry_passes unit (E.Visit (entry_of_visit v)) v.measured v.sizes
fields_pass unit (therapy d) = true
fields_pass unit (death d) = true

abbrev pub all_pass : ℕ → List StudyRecord → Bool
all_pass unit [] = true
all_pass unit (r ∷ rs) = both (fields_pass unit r) (all_pass unit rs)

-- the study day of a date; 0, which is no study day, where the date is before randomisation or either of them does not exist
abbrev pub study_day : Date → Date → ℕ
study_day randomisation d = (study_day_of d randomisation).day

-- a function of a baseline and the records behind it, on a list of records in the order recorded; `otherwise` where it does not open with a baseline
abbrev pub from_baseline {ℓ} : {A : Type ℓ} → A → (Baseline → List StudyRecord → A) → List StudyRecord → A
from_baseline otherwise f [] = otherwise
from_baseline otherwise f (baseline b ∷ rs) = f b rs
from_baseline otherwise f (visit d v ∷ rs) = otherwise
from_baseline otherwise f (therapy d ∷ rs) = otherwise
from_baseline otherwise f (death d ∷ rs) = otherwise

-- of sizes of which a millimetre has so many units
module _ (unit : ℕ) where
  -- a record with its date on its study day
  abbrev pub entry_on_study_day : Date → Entry → List Bool → List ℕ → StudyRecord
  entry_on_study_day randomisation (E.Baseline b) marks sizes =
      baseline (record { unit = unit; assessed = b.assessed; nontarget = b.nontarget; count = b.count; nodes = marks; sizes = sizes })
  entry_on_study_day randomisation (E.Visit v) marks sizes = visit (study_day randomisation v.date) (visit_of v marks sizes)
  entry_on_study_day randomisation (E.Therapy d) marks sizes = therapy (study_day randomisation d)
  entry_on_study_day randomisation (E.Death d) marks sizes = death (study_day randomisation d)

  abbrev pub on_study_day : Date → Record → StudyRecord
  on_study_day randomisation r = entry_on_study_day randomisation r.entry r.marks r.sizes

  -- a list of records, in the order recorded: the date of the first is the randomisation date
  abbrev pub on_study_days : List Record → List StudyRecord
  on_study_days [] = []
  on_study_days (b ∷ rs) = map (on_study_day (date_of b.entry)) (b ∷ rs)
