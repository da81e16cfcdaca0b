-- What is opened is what is held after the baseline alone.
-- Assumes nothing.
use mathlib.Core.Path.{◌≡◌, refl}
use mathlib.Core.Bool.{Bool}
use mathlib.Core.List.{List, []}
use Prim.Native.Nat.{ℕ}
use Rattle.records.specs.Forms.{new_unit}
use Rattle.records.specs.declared.BaselineEntry.{BaselineEntry}
use Rattle.outcome_rules.specs.StudyRecords.{Baseline}
use Rattle.subject.specs.Summary.{event_of, counting_of, summary}
use Rattle.subject.specs.Opening.{subject_of_baseline}

abbrev pub baseline_of : BaselineEntry → List Bool → List ℕ → Baseline
baseline_of b nodes sizes = record { unit = new_unit; assessed = b.assessed; nontarget = b.nontarget; count = b.count; nodes = nodes; sizes = sizes }

pub opening_follows : (b : BaselineEntry) (nodes : List Bool) (sizes : List ℕ) →
    subject_of_baseline b nodes sizes ≡ summary b.date (baseline_of b nodes sizes) []
unfolding subject_of_baseline summary event_of counting_of
opening_follows b nodes sizes = refl
