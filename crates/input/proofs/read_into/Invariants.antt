-- `input::read_into` meets its contract: each read that is not the last brings a byte, so that it ends.
-- Assumes nothing.
use Rattle.std.proofs.Common.{◌+◌, ◌-◌, ◌≡◌, ◌≤◌, length, drop}
use Rattle.codec.specs.Parts.{most_bytes}
use Rattle.records.specs.Forms.{new_form}
use Rattle.input.proofs.read_into.Given as goal

abbrev pub invariant-loop-count : goal.invariant-loop-count
invariant-loop-count g l =
    (length l.chunk ≡ 4096) × (length l.bytes ≡ 65536) × (l.count ≤ most_bytes new_form + 4096) × (drop l.count l.bytes ≡ drop l.count l.initial.bytes)

abbrev pub decreases-loop-count : goal.decreases-loop-count
decreases-loop-count g l = most_bytes new_form + 1 - l.count
