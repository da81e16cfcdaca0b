-- `file::judge_file` meets its contract: the records before the next part are taken, and the verdict is that of the rest behind them.
-- Assumes nothing.
use mathlib.Core.Path.{◌≡◌}
use Prim.Native.Nat.{◌+◌, ◌*◌, ◌/◌, ◌≤◌}
use lib.ListN.{length, drop}
use Rattle.codec.specs.Bytes.{record_length}
use Rattle.file.proofs.TurnsOfLoop.{Standing}
use Rattle.file.proofs.judge_file.Given as goal

abbrev pub invariant-loop-k : goal.invariant-loop-k
invariant-loop-k l =
    (l.k-iterator.iter.size ≡ record_length) × (l.k-iterator.iter.rest.now ≡ drop ((l.k-iterator.count + 1) * record_length) l.bytes) ×
    (l.k-iterator.count + 1 ≤ length l.bytes / record_length) × Standing l.bytes l.subject (l.k-iterator.count + 1)
