-- `response::targets::all_disappeared` meets its contract.
-- Assumes nothing.
use Rattle.std.proofs.Common.{◌≡◌, refl, sym, ◌∙◌, ◌<◌, ℕ, Bool, true, false}
use lib.Dec.{leb}
use lib.ListN.{get_or}
use native.Mathlib.Omega.{arith}
use borrow.Author.Tests.{lt-leb}
use Rattle.laws.specs.Choice.{either, all}
use Rattle.laws.proofs.Tests.{never}
use Rattle.laws.proofs.EveryNumber.{all_at}
use Rattle.records.specs.Forms.{new_unit}
use Rattle.response_rules.specs.TargetAnswer.{disappeared, all_disappeared}
use Rattle.response.proofs.targets.all_disappeared.Goals as goal

all_false : (f : ℕ → Bool) (n k : ℕ) → k < n → f k ≡ false → false ≡ all f n
all_false f n k h q = go (all f n) refl
  where
    go : (b : Bool) → all f n ≡ b → false ≡ b
    go true e = absurd (never (sym (all_at f n e k h) ∙ q))
    go false e = refl

pub returns-then-not-has_disappeared : goal.returns-then-not-has_disappeared
unfolding all_disappeared
returns-then-not-has_disappeared c =
    let i = c.loop-i.i in
    let l : i < c.args.count = omega arith in
    let q : either (leb c.args.count i) (disappeared new_unit (get_or c.args.nodes i false) (get_or c.args.sizes i 0)) ≡ false =
    rw (lt-leb c.args.count i l, ← c.has_disappeared.ensures) c.if-not-has_disappeared.true in
    all_false (λ (j : ℕ). either (leb c.args.count j) (disappeared new_unit (get_or c.args.nodes j false) (get_or c.args.sizes j 0))) 5 i (omega arith) q

pub returns : goal.returns
unfolding all_disappeared
returns c = let e : c.loop-i.i ≡ 5 = omega arith in sym (rw e at c.loop-i.invariant)
