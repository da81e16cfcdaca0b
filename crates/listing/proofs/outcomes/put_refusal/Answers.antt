-- `listing::outcomes::put_refusal` meets its contract.
-- Assumes nothing.
use borrow.Author.Rules.{rules}
use Rattle.listing_text.specs.Text.{refusal_text}
use Rattle.listing.proofs.TextsWritten.{then_puts}
use Rattle.listing.proofs.outcomes.put_refusal.Goals as goal

pub returns : goal.returns
returns c = unfold refusal_text in let w = then_puts c.put.ensures (then_puts c.put_decimal.ensures.0 (then_puts c.put-2.ensures (then_puts c.put_decimal-2.ensures.0 c.put-3.ensures))) in search rules
