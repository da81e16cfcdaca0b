-- `listing::outcomes::put_status_line` meets its contract.
-- Assumes nothing.
use borrow.Author.Rules.{rules}
use Rattle.listing.proofs.TextsWritten.{then_puts}
use Rattle.listing.proofs.outcomes.put_status_line.Goals as goal

pub returns : goal.returns
returns c = (then_puts c.put.ensures (then_puts c.put_status.ensures.0 (then_puts c.put-2.ensures (then_puts c.put_decimal.ensures.0 c.put-3.ensures))), search rules)
