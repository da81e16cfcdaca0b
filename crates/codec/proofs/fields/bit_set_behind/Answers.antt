-- `codec::fields::bit_set_behind` meets its contract.
-- Assumes nothing.
use mathlib.Core.Path.{◌∙◌}
use Prim.Native.Nat.{◌-◌}
use native.Mathlib.Omega.{arith}
use lib.Dec.{ltb}
use lib.ListN.{length, take, drop}
use Rattle.std.proofs.Common.{rules, tests}
use Rattle.std.proofs.lemmas.Iterator.{YieldsList-from_slice}
use Rattle.std.proofs.lemmas.Iterator.Search.{any_from_yields_List}
use Rattle.codec.proofs.SomeByteSet.{set_behind}
use Rattle.codec.proofs.fields.bit_set_behind.Goals as goal

pub returns : goal.returns
returns c = λ form l.
    let s = c.args.s.now in
    let n = c.args.first in
    any_from_yields_List (ltb 0) _ _ _ c.any.ensures.ran (YieldsList-from_slice (take (length s - n) (drop n s)) cc) (λ x b q k. search (rules, tests))
    ∙ set_behind form s (λ k. omega (arith, c.type_inv.s k)) l n c.requires
