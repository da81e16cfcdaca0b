-- A new lesion is PD overall where the baseline was assessed.
-- Assumes nothing.
use mathlib.Core.Path.{◌≡◌}
use mathlib.Core.Bool.{Bool, true, false, not}
use Rattle.records.specs.declared.Status.{Status}
use Rattle.response_rules.specs.Words.{PD, target_word, status_word}
use Rattle.response_rules.specs.OverallAnswer.{overall_by}
use Rattle.response_rules.specs.declared.TargetAnswer.{TargetAnswer}

module _ (assessed new_lesion : Bool) (t : TargetAnswer) (s : Status) (h : not assessed ≡ false) where
  pub new_lesion_lem : new_lesion ≡ true → PD ≡ overall_by assessed new_lesion (target_word t) (status_word s)
  unfolding overall_by
  new_lesion_lem n = rw (h, n)
