-- `converter::placing::add_old` meets its contract.
-- Assumes nothing.
use mathlib.Core.Path.{sym, ◌∙◌}
use Rattle.converter.proofs.PlacingReturns.{add_unread}
use Rattle.converter.proofs.placing.add_old.Goals as goal

pub returns-then-is_err : goal.returns-then-is_err
returns-then-is_err c = add_unread _ _ c.read_old-read.ensures (sym c.is_err.ensures.value ∙ c.if-is_err.true) _ c.read_number.ensures _
