-- `listing::visits::put_visit` meets its contract.
-- Assumes nothing.
use Rattle.listing_text.specs.Text.{visit_text}
use Rattle.listing.proofs.TextsWritten.{then_puts}
use Rattle.listing.proofs.visits.put_visit.Goals as goal

pub returns : goal.returns
returns c = unfold visit_text in then_puts c.put_start.ensures.0 (then_puts c.put_answers.ensures c.put_end.ensures.0)
