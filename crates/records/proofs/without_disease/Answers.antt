-- `records::without_disease` meets its contract.
-- Assumes nothing.
use Rattle.laws.proofs.Tests.{tests}
use Rattle.records.specs.Refusals.{without_disease}
use Rattle.records.proofs.without_disease.Goals as goal

pub returns-then-b-eq0 : goal.returns-then-b-eq0
returns-then-b-eq0 c = unfold without_disease in search tests

pub returns-else-b-eq0 : goal.returns-else-b-eq0
returns-else-b-eq0 c = unfold without_disease in search tests
