-- Document 01, "Visit responses" and the change of "Change in size, file and listing": what judging a baseline and a visit promises.
-- Assumes nothing.
use Rattle.std.specs.Prelude.{◌≡◌, Bool, List, [], ℕ}
use Rattle.records.specs.declared.BaselineEntry.{BaselineEntry}
use Rattle.records.specs.Forms.{new_unit}
use Rattle.response_rules.specs.Words.{target_word, overall_word}
use Rattle.response_rules.specs.Inputs.{Visit, disease_of}
use Rattle.response_rules.specs.TargetAnswer.{target_answer}
use Rattle.response_rules.specs.Nadir.{earlier_of, after_visit}
use Rattle.response_rules.specs.VisitAnswers.{overall_answer}
use Rattle.response_rules.specs.Change.{change_values, change_of}
use Rattle.response_rules.specs.declared.BaselineDisease.{BaselineDisease}
use Rattle.response_rules.specs.declared.Earlier.{Earlier}
use Rattle.response.specs.declared.BaselineAnswer.{BaselineAnswer}
use Rattle.response.specs.declared.VisitAnswer.{VisitAnswer}

pub record JudgesBaseline (entry : BaselineEntry) (nodes : List Bool) (sizes : List ℕ) (a : BaselineAnswer) : Type 0 where
  pub disease : a.disease ≡ disease_of entry nodes sizes
  pub after : a.after ≡ earlier_of (disease_of entry nodes sizes) []

pub record JudgesVisit (b : BaselineDisease) (e : Earlier) (v : Visit) (a : VisitAnswer) : Type 0 where
  pub target : target_word a.target ≡ target_answer new_unit b e v
  pub overall : overall_word a.overall ≡ overall_answer new_unit b e v
  pub change : change_values a.change ≡ change_of b v
  pub after : a.after ≡ after_visit b e v
