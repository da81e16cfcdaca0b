-- `subject::opening::subject_of_baseline` meets its contract.
-- Assumes nothing.
use Rattle.subject.proofs.OpeningReturns.{first_made}
use Rattle.subject.proofs.opening.subject_of_baseline.Goals as goal

pub returns : goal.returns
returns c = search first_made
