-- `records::targets::some_measured_outside_limits` meets its contract.
-- Assumes nothing.
use Rattle.std.proofs.Common.{rules, ℕ}
use Rattle.records.specs.Forms.{new_unit}
use Rattle.records.specs.Refusals.{measured_outside_limits}
use Rattle.records.proofs.targets.some_measured_outside_limits.Goals as goal

pub returns : goal.returns
returns c = c.some_target.ensures (λ (i : ℕ). measured_outside_limits new_unit) (λ i mark size r k. search rules)
