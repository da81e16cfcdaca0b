-- `listing::judge_into` meets its contract: the records before the next part are taken, and their lines written.
-- Assumes nothing.
use mathlib.Core.Path.{◌≡◌}
use Prim.Native.Nat.{◌+◌, ◌*◌, ◌/◌, ◌≤◌}
use lib.ListN.{length, drop}
use Rattle.codec.specs.Bytes.{record_length}
use Rattle.listing.proofs.TurnsOfLoop.{Printing}
use Rattle.listing.proofs.judge_into.Given as goal

abbrev pub invariant-loop-k : goal.invariant-loop-k
invariant-loop-k l =
    (l.k-iterator.iter.size ≡ record_length) × (l.k-iterator.iter.rest.now ≡ drop ((l.k-iterator.count + 1) * record_length) l.bytes) ×
    (l.k-iterator.count + 1 ≤ length l.bytes / record_length) × (length l.page ≡ length l.initial.page) × (l.at ≤ 24 * l.k-iterator.count) ×
    Printing l.bytes l.initial.page l.page l.subject l.at (l.k-iterator.count + 1)
