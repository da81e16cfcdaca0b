-- `adding::calls::added` meets its contract.
-- Assumes nothing.
use Rattle.adding.proofs.AddingAnswers.{value_added}
use Rattle.adding.proofs.calls.added.Goals as goal

pub returns : goal.returns
returns c = search value_added
