-- No target before i is beyond the count and measured.
-- Assumes nothing.
use Rattle.std.proofs.Common.{◌≡◌, ℕ, false}
use lib.Dec.{leb}
use lib.ListN.{get_or}
use Rattle.laws.specs.Choice.{both, some}
use Rattle.adding.proofs.fitting.measured_beyond.Given as goal

abbrev pub invariant-loop-i : goal.invariant-loop-i
invariant-loop-i l = some (λ (i : ℕ). both (leb l.count i) (get_or l.measured i false)) l.i ≡ false
