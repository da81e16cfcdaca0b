-- `converter::output::write_records` meets its contract: the records before the next part are stored, and everything past them is as it was.
-- Assumes nothing.
use mathlib.Core.Path.{◌≡◌}
use Prim.Native.Nat.{◌*◌, ◌/◌, ◌≤◌}
use lib.ListN.{length, drop}
use Rattle.converter.proofs.TurnsOfWriting.{Stored}
use Rattle.converter.proofs.output.write_records.Given as goal

abbrev pub invariant-loop-k : goal.invariant-loop-k
invariant-loop-k l =
    (l.k-iterator.iter.size ≡ 11) × (l.k-iterator.iter.rest.now ≡ drop (l.k-iterator.count * 11) l.old) × (l.k-iterator.count ≤ length l.old / 11) ×
    (length l.out ≡ length l.initial.out) × Stored l.old l.initial.out l.out l.k-iterator.count
