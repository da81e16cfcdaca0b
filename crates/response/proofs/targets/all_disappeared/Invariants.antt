-- Every target before i has disappeared.
-- Assumes nothing.
use Rattle.std.proofs.Common.{◌≡◌, ℕ, true, false}
use lib.Dec.{leb}
use lib.ListN.{get_or}
use Rattle.laws.specs.Choice.{either, all}
use Rattle.records.specs.Forms.{new_unit}
use Rattle.response_rules.specs.TargetAnswer.{disappeared}
use Rattle.response.proofs.targets.all_disappeared.Given as goal

abbrev pub invariant-loop-i : goal.invariant-loop-i
invariant-loop-i l = all (λ (i : ℕ). either (leb l.count i) (disappeared new_unit (get_or l.nodes i false) (get_or l.sizes i 0))) l.i ≡ true
