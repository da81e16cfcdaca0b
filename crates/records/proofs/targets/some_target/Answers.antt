-- `records::targets::some_target` meets its contract.
-- Assumes nothing.
use Rattle.std.proofs.Common.{◌≡◌, sym}
use native.Mathlib.Omega.{arith}
use Rattle.records.proofs.targets.some_target.Goals as goal

pub returns : goal.returns
returns g c =
    let e : c.loop-i.i ≡ 5 = omega arith in
    λ f same. sym (rw e at (c.loop-i.invariant f same))
