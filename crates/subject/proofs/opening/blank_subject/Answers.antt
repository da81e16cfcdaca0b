-- `subject::opening::blank_subject` meets its contract.
-- Assumes nothing.
use Rattle.subject.proofs.OpeningReturns.{blank_made}
use Rattle.subject.proofs.opening.blank_subject.Goals as goal

pub returns : goal.returns
returns c = search blank_made
