-- `history::replay::replay` meets its contract: the loop makes a list of calls, and demand 3 says what is read after it.
-- Assumes nothing.
use mathlib.Core.Path.{◌≡◌}
use lib.ListN.{drop}
use Rattle.codec.specs.Bytes.{record_length}
use Rattle.history.proofs.ReplayAsCalls.{Goes}
use Rattle.history.proofs.replay.replay.Given as goal

abbrev pub invariant-loop-part : goal.invariant-loop-part
invariant-loop-part l =
    (l.part-iterator.size ≡ record_length) × Goes (drop record_length l.bytes) l.initial.subject l.subject l.part-iterator.rest.now
