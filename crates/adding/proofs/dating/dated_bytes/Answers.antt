-- `adding::dating::dated_bytes` meets its contract.
-- Assumes nothing.
use Rattle.adding.proofs.AddingAnswers.{visit_dated_lem, other_dated}
use Rattle.adding.proofs.dating.dated_bytes.Goals as goal

pub returns-then-v : goal.returns-then-v
returns-then-v c = search visit_dated_lem

pub returns : goal.returns
returns c = search other_dated
