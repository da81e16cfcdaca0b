-- `adding::calls::add_bytes` meets its contract.
-- Assumes nothing.
use Rattle.adding.proofs.AddingAnswers.{bytes_added}
use Rattle.adding.proofs.calls.add_bytes.Goals as goal

pub returns : goal.returns
returns c = search bytes_added
