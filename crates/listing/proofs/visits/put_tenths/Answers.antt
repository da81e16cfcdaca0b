-- `listing::visits::put_tenths` meets its contract.
-- Assumes nothing.
use borrow.Author.Rules.{rules}
use Rattle.listing.proofs.DigitsStored.{tenths_text_lem}
use Rattle.listing.proofs.TextsWritten.{then_puts, as_puts}
use Rattle.listing.proofs.visits.put_tenths.Goals as goal

pub returns : goal.returns
returns c = (as_puts (tenths_text_lem _ _ c.digit.ensures) (then_puts c.put_decimal.ensures.0 c.put.ensures), search rules)
