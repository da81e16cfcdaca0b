-- The sum of the measured targets before i.
-- Assumes nothing.
use Rattle.std.proofs.Common.{◌≡◌, ◌≤◌, ℕ, ◌*◌, false}
use lib.ListN.{get_or}
use Rattle.response_rules.specs.SumOfDiameters.{sum_where}
use Rattle.response.proofs.sums.sum_of_diameters.Given as goal

abbrev pub invariant-loop-i : goal.invariant-loop-i
invariant-loop-i l = (l.sum ≡ sum_where (λ (i : ℕ). get_or l.measured i false) l.sizes l.i) × (l.sum ≤ 65535 * l.i)
