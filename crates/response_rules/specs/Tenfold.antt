-- Document 02, request 1: sizes times ten, by ten times as many units a millimetre, have the same answers and the same change. Proved in
-- proofs/Tenfold.antt.
-- Assumes nothing.
use Rattle.std.specs.Prelude.{◌≡◌, List, map, ℕ, ◌*◌}
use Rattle.records.specs.Tenfold.{times_ten}
use Rattle.response_rules.specs.Inputs.{Visit}
use Rattle.response_rules.specs.Change.{change_of}
use Rattle.response_rules.specs.VisitAnswers.{target_answer_after, overall_answer_after}
use Rattle.response_rules.specs.declared.BaselineDisease.{BaselineDisease}

abbrev pub tenfold_disease : BaselineDisease → BaselineDisease
tenfold_disease b = record { assessed = b.assessed; count = b.count; nodes = b.nodes; baselinesum = 10 * b.baselinesum }

abbrev pub tenfold_visit : Visit → Visit
tenfold_visit v = record { status = v.status; new_lesion = v.new_lesion; measured = v.measured; sizes = times_ten v.sizes }

pub record TenfoldAnswers : Type 0 where
  pub target : (unit : ℕ) (b : BaselineDisease) (vs : List Visit) (v : Visit) →
      target_answer_after (10 * unit) (tenfold_disease b) (map tenfold_visit vs) (tenfold_visit v) ≡ target_answer_after unit b vs v
  pub overall : (unit : ℕ) (b : BaselineDisease) (vs : List Visit) (v : Visit) →
      overall_answer_after (10 * unit) (tenfold_disease b) (map tenfold_visit vs) (tenfold_visit v) ≡ overall_answer_after unit b vs v
  pub change : (b : BaselineDisease) (v : Visit) → change_of (tenfold_disease b) (tenfold_visit v) ≡ change_of b v
