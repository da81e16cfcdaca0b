-- `adding::stepping::place_visit` meets its contract.
-- Assumes nothing.
use Rattle.adding.proofs.Returns.{visit_placed}
use Rattle.adding.proofs.stepping.place_visit.Goals as goal

pub returns : goal.returns
returns c = search visit_placed
