-- `records::check_visit` meets its contract: `search` finds what the tests said.
-- Assumes nothing.
use Rattle.records.proofs.Returns.{visit_refusal}
use Rattle.records.proofs.check_visit.Goals as goal

pub returns : goal.returns
returns c = search visit_refusal
