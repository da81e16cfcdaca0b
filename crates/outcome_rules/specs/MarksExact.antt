-- Document 01, "Settled" and demand 3: each mark is true exactly when no lawful run of further records changes its part of the outcome.
-- Assumes nothing.
use Rattle.std.specs.Prelude.{true, List, ◌∷◌, ◌++◌, reverse, ◌≡◌, ◌↔◌}
use Rattle.outcome_rules.specs.Values.{Outcome}
use Rattle.outcome_rules.specs.StudyRecords.{Baseline, StudyRecord, baseline, baseline_passes, all_pass, from_baseline}
use Rattle.outcome_rules.specs.LawfulLists.{Past, lawful_behind, lawful}
use Rattle.outcome_rules.specs.Settled.{outcome}

-- A part of the outcome is equal behind every lawful run of further records whose fields pass 4 and 5, the empty run among them; newest first. Equal
-- values of PFS have the same status and day, and equal durations are none both times or have the same days and status.
abbrev pub NoRunChanges : {A : Type 0} → (Outcome → A) → Baseline → Past → Type 0
NoRunChanges part b p = (run : Past) → all_pass b.unit run ≡ true → lawful_behind b (run ++ p) ≡ true → part (outcome b (run ++ p)) ≡ part (outcome b p)

-- each mark is true exactly when no run changes its part
pub record MarksExact (b : Baseline) (p : Past) : Type 0 where
  pub pfs : ((outcome b p).pfs_settled ≡ true) ↔ NoRunChanges (λ (o : Outcome). o.pfs) b p
  pub best : ((outcome b p).best_settled ≡ true) ↔ NoRunChanges (λ (o : Outcome). o.best) b p
  pub duration : ((outcome b p).duration_settled ≡ true) ↔ NoRunChanges (λ (o : Outcome). o.duration) b p

-- of every lawful list whose baseline passes 4 and 5
pub record EveryMarkExact : Type 0 where
  pub exact : (b : Baseline) (p : Past) → baseline_passes b ≡ true → lawful_behind b p ≡ true → MarksExact b p

-- the same in the order recorded, with the run behind the list
abbrev pub outcome_in_order : Baseline → List StudyRecord → Outcome
outcome_in_order b rs = outcome b (reverse rs)

abbrev pub NoRunChangesInOrder : {A : Type 0} → (Outcome → A) → Baseline → List StudyRecord → Type 0
NoRunChangesInOrder part b rs =
    (run : List StudyRecord) → all_pass b.unit run ≡ true → lawful (baseline b ∷ rs ++ run) ≡ true →
    part (outcome_in_order b (rs ++ run)) ≡ part (outcome_in_order b rs)

pub record MarksExactInOrder (b : Baseline) (rs : List StudyRecord) : Type 0 where
  pub pfs : ((outcome_in_order b rs).pfs_settled ≡ true) ↔ NoRunChangesInOrder (λ (o : Outcome). o.pfs) b rs
  pub best : ((outcome_in_order b rs).best_settled ≡ true) ↔ NoRunChangesInOrder (λ (o : Outcome). o.best) b rs
  pub duration : ((outcome_in_order b rs).duration_settled ≡ true) ↔ NoRunChangesInOrder (λ (o : Outcome). o.duration) b rs

pub record EveryMarkExactInOrder : Type 0 where
  pub exact : (b : Baseline) (rs : List StudyRecord) → baseline_passes b ≡ true → lawful (baseline b ∷ rs) ≡ true → MarksExactInOrder b rs

-- the list opens with a baseline, and its marks are exact
abbrev pub MarksExactOn : List StudyRecord → Type 0
MarksExactOn = from_baseline ⊥ MarksExactInOrder
