-- `file::ending::end_file` meets its contract.
-- Assumes nothing.
use native.Mathlib.Omega.{arith}
use Rattle.file.proofs.Returns.{ends_outside, ends_late, ends_accepted}
use Rattle.file.proofs.ending.end_file.Goals as goal

pub returns-in_default : goal.returns-in_default
returns-in_default c = search ends_outside

pub returns-then-starts_late : goal.returns-then-starts_late
returns-then-starts_late c = search ends_late

pub returns : goal.returns
returns c = grind (arith, ends_accepted)
