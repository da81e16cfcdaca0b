-- `records::not_zero` meets its contract: at each return the tests that led there decide the definition's.
-- Assumes nothing.
use Rattle.laws.proofs.Tests.{tests}
use Rattle.records.specs.Refusals.{not_zero}
use Rattle.records.proofs.not_zero.Goals as goal

-- a count that passed its test is 0: stated first, since a count passed over is wrong here
missing_baseline : goal.returns-else-b-gt0
missing_baseline c = unfold not_zero in rw (c.if-b.false, c.if-b-2.false) (search (tests, c.some_not_zero_beyond_count-else-b-gt0.ensures))

pub returns-then-b : goal.returns-then-b
returns-then-b c = unfold not_zero in rw c.if-b.true c.some_not_zero_beyond_count.ensures

pub returns-then-b-2 : goal.returns-then-b-2
returns-then-b-2 c = unfold not_zero in rw (c.if-b.false, c.if-b-2.true)

pub returns-then-b-gt0 : goal.returns-then-b-gt0
returns-then-b-gt0 c = unfold not_zero in rw (c.if-b.false, c.if-b-2.false) (search tests)

pub returns-else-b-gt0 : goal.returns-else-b-gt0
returns-else-b-gt0 c = missing_baseline c
