-- Every target before i is measured.
-- Assumes nothing.
use Rattle.std.proofs.Common.{◌≡◌, ℕ, true, false}
use lib.Dec.{leb}
use lib.ListN.{get_or}
use Rattle.laws.specs.Choice.{either, all}
use Rattle.response.proofs.sums.all_measured.Given as goal

abbrev pub invariant-loop-i : goal.invariant-loop-i
invariant-loop-i l = all (λ (i : ℕ). either (leb l.count i) (get_or l.measured i false)) l.i ≡ true
