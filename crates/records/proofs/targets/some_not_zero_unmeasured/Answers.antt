-- `records::targets::some_not_zero_unmeasured` meets its contract.
-- Assumes nothing.
use Rattle.std.proofs.Common.{rules, ℕ}
use Rattle.records.specs.Refusals.{not_zero_unmeasured}
use Rattle.records.proofs.targets.some_not_zero_unmeasured.Goals as goal

pub returns : goal.returns
returns c = c.some_target.ensures (λ (i : ℕ). not_zero_unmeasured) (λ i mark size r k. search rules)
