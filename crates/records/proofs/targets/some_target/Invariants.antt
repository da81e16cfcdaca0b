-- No target before i passes the test.
-- Assumes nothing.
use Rattle.std.proofs.Common.{◌≡◌, ℕ, Bool, false}
use Rattle.laws.specs.Choice.{some}
use Rattle.records.specs.Refusals.{target_at}
use Rattle.records.proofs.targets.some_target.Given as goal

abbrev pub invariant-loop-i : goal.invariant-loop-i
invariant-loop-i g l =
    (f : ℕ → Bool → ℕ → Bool) → ((i : ℕ) (mark : Bool) (size : ℕ) (r : Bool) → goal.F-post g l.test i mark size r → r ≡ f i mark size) →
    some (target_at f l.marks l.sizes) l.i ≡ false
