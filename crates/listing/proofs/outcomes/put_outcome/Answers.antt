-- `listing::outcomes::put_outcome` meets its contract.
-- Assumes nothing.
use borrow.Author.Rules.{rules}
use Rattle.listing_text.specs.Text.{outcome_text}
use Rattle.listing.proofs.TextsWritten.{then_puts}
use Rattle.listing.proofs.outcomes.put_outcome.Goals as goal

pub returns : goal.returns
returns c = unfold outcome_text in let w = then_puts c.put_pfs.ensures.0 (then_puts c.put_best.ensures.0 (then_puts c.put_duration.ensures.0 c.put_settled.ensures)) in search rules
