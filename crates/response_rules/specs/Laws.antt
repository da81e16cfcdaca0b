-- Document 01, "Visit responses" and "Change in size, file and listing": what holds of every visit; proved in proofs/Laws.antt.
-- Assumes nothing.
use Rattle.std.specs.Prelude.{◌≡◌, true, false, List, reverse, ℕ, ◌+◌, ◌*◌, ◌≤◌, ◌<◌}
use Rattle.response_rules.specs.Words.{PD, NE, status_word}
use Rattle.response_rules.specs.SumOfDiameters.{all_measured}
use Rattle.response_rules.specs.Inputs.{Visit}
use Rattle.response_rules.specs.Nadir.{earlier_of, nadir_of}
use Rattle.response_rules.specs.Change.{none, nearest, change_of}
use Rattle.response_rules.specs.VisitAnswers.{target_answer_after, overall_answer_after}
use Rattle.response_rules.specs.declared.BaselineDisease.{BaselineDisease}

pub record OverallLaws : Type 0 where
  -- with baseline missing every overall answer is NE, new lesion or not
  pub missing : (unit : ℕ) (b : BaselineDisease) (vs : List Visit) (v : Visit) → b.assessed ≡ false → overall_answer_after unit b vs v ≡ NE
  -- a new lesion, target PD or non-target PD gives PD
  pub new_lesion : (unit : ℕ) (b : BaselineDisease) (vs : List Visit) (v : Visit) → b.assessed ≡ true → v.new_lesion ≡ true → overall_answer_after unit b vs v ≡ PD
  pub target_pd : (unit : ℕ) (b : BaselineDisease) (vs : List Visit) (v : Visit) → b.assessed ≡ true → target_answer_after unit b vs v ≡ PD → overall_answer_after unit b vs v ≡ PD
  pub nontarget_pd : (unit : ℕ) (b : BaselineDisease) (vs : List Visit) (v : Visit) → b.assessed ≡ true → status_word v.status ≡ PD →
      overall_answer_after unit b vs v ≡ PD

pub record NadirLaws : Type 0 where
  -- what earlier visits leave is the nadir of document 01
  pub nadir : (b : BaselineDisease) (vs : List Visit) → (earlier_of b vs).nadir ≡ nadir_of b vs
  -- which does not depend on the order of the visits
  pub any_order : (b : BaselineDisease) (vs : List Visit) → nadir_of b (reverse vs) ≡ nadir_of b vs

pub record ChangeLaws : Type 0 where
  -- nearest: n / d is from a half below to less than a half above, so that a half is rounded to the larger
  pub rounded : (n d : ℕ) → 1 ≤ d → (2 * d * nearest n d ≤ 2 * n + d) × (2 * n < 2 * d * nearest n d + d)
  -- none without targets, or with one unmeasured
  pub no_targets : (b : BaselineDisease) (v : Visit) → b.count ≡ 0 → change_of b v ≡ none
  pub unmeasured : (b : BaselineDisease) (v : Visit) → all_measured b.count v.measured ≡ false → change_of b v ≡ none
