-- With baseline missing every overall answer is NE: there is no progression, and no visit is evaluable.
-- Assumes nothing.
use mathlib.Core.Path.{◌≡◌, refl}
use mathlib.Core.Bool.{false}
use mathlib.Core.List.{List, [], ◌∷◌}
use Rattle.response_rules.specs.Words.{NE}
use Rattle.response_rules.proofs.Laws.{overall_laws}
use Rattle.outcome_rules.specs.Values.{none}
use Rattle.outcome_rules.specs.StudyRecords.{Baseline, baseline, visit, therapy, death, disease}
use Rattle.outcome_rules.specs.LawfulLists.{Past}
use Rattle.outcome_rules.specs.Course.{visits_of, Judged, overall_at, course, visits_in, first_pd}
use Rattle.outcome_rules.specs.Pfs.{before_event, last_evaluable}

abbrev pub AllNE : List Judged → Type 0
AllNE [] = Unit {0}
AllNE (j ∷ js) = (j.answer ≡ NE) × AllNE js

pub missing_visits : (b : Baseline) (p : Past) → b.assessed ≡ false → AllNE (visits_in (course b p))
unfolding overall_at
missing_visits b [] m = tt
missing_visits b (baseline x ∷ p) m = missing_visits b p m
missing_visits b (visit d v ∷ p) m = (overall_laws.missing b.unit (disease b) (visits_of p) v m, missing_visits b p m)
missing_visits b (therapy d ∷ p) m = missing_visits b p m
missing_visits b (death d ∷ p) m = missing_visits b p m

pub no_progression : (js : List Judged) → AllNE js → first_pd js ≡ none
no_progression [] u = refl
no_progression (j ∷ js) u = rw (no_progression js u.1, u.0)

pub no_evaluable : (js : List Judged) → AllNE js → last_evaluable (before_event js) ≡ none
no_evaluable [] u = refl
no_evaluable (j ∷ js) u = rw (no_progression js u.1, u.0) (no_evaluable js u.1)
