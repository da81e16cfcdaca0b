-- `converter::judging::judge_old` meets its contract: the records before the next part are taken, and the verdict is that of the rest behind them.
-- Assumes nothing.
use mathlib.Core.Path.{◌≡◌}
use Prim.Native.Nat.{◌+◌, ◌*◌, ◌/◌, ◌≤◌}
use lib.ListN.{length, drop}
use Rattle.converter.proofs.TurnsOfJudging.{Standing}
use Rattle.converter.proofs.judging.judge_old.Given as goal

abbrev pub invariant-loop-k : goal.invariant-loop-k
invariant-loop-k l =
    (l.k-iterator.iter.size ≡ 11) × (l.k-iterator.iter.rest.now ≡ drop ((l.k-iterator.count + 1) * 11) l.old) × (l.k-iterator.count + 1 ≤ length l.old / 11) ×
    Standing l.old l.subject (l.k-iterator.count + 1)
