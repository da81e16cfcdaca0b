-- `records::outside_limits` meets its contract: at each return the tests that led there decide the definition's.
-- Assumes nothing.
use Rattle.laws.proofs.Tests.{tests}
use Rattle.records.specs.Refusals.{outside_limits, without_disease}
use Rattle.records.proofs.outside_limits.Goals as goal

-- a count that passed its test is at most the most: stated first, since a count too many is wrong here
counted : goal.returns-else-without_disease
counted c = unfold outside_limits without_disease in rw c.if-b.true (search (tests, c.some_size_outside_limits.ensures, ← c.without_disease.ensures, c.if-without_disease.false))

pub returns-then-b-gt-MOST_TARGETS : goal.returns-then-b-gt-MOST_TARGETS
returns-then-b-gt-MOST_TARGETS c = unfold outside_limits without_disease in rw c.if-b.true (search tests)

pub returns-then-without_disease : goal.returns-then-without_disease
returns-then-without_disease c = unfold outside_limits without_disease in rw c.if-b.true (search (tests, ← c.without_disease.ensures, c.if-without_disease.true))

pub returns-else-without_disease : goal.returns-else-without_disease
returns-else-without_disease c = counted c

pub returns-else-b : goal.returns-else-b
returns-else-b c = unfold outside_limits without_disease in rw c.if-b.false
