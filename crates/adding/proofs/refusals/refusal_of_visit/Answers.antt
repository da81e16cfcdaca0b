-- `adding::refusals::refusal_of_visit` meets its contract.
-- Assumes nothing.
use Rattle.adding.proofs.Returns.{refusal_as_tested}
use Rattle.adding.proofs.refusals.refusal_of_visit.Goals as goal

pub returns : goal.returns
returns c = search refusal_as_tested
