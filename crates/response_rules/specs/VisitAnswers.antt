-- Document 01, "Visit responses" and the change of "Change in size, file and listing": the answers at a visit, after what earlier visits leave and after a
-- list of them.
-- Assumes nothing.
use Rattle.std.specs.Prelude.{ℕ, List}
use Rattle.response_rules.specs.Words.{Word, status_word}
use Rattle.response_rules.specs.Inputs.{Visit}
use Rattle.response_rules.specs.TargetAnswer.{target_answer}
use Rattle.response_rules.specs.Nadir.{earlier_of}
use Rattle.response_rules.specs.OverallAnswer.{overall_by}
use Rattle.response_rules.specs.declared.BaselineDisease.{BaselineDisease}
use Rattle.response_rules.specs.declared.Earlier.{Earlier}

-- by sizes of which a millimetre has so many units
module _ (unit : ℕ) where
  unfoldable pub overall_answer : BaselineDisease → Earlier → Visit → Word
  overall_answer b earlier v = overall_by b.assessed v.new_lesion (target_answer unit b earlier v) (status_word v.status)

  abbrev pub target_answer_after : BaselineDisease → List Visit → Visit → Word
  target_answer_after b earlier v = target_answer unit b (earlier_of b earlier) v

  abbrev pub overall_answer_after : BaselineDisease → List Visit → Visit → Word
  overall_answer_after b earlier v = overall_answer b (earlier_of b earlier) v
