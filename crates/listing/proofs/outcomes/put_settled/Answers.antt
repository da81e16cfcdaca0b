-- `listing::outcomes::put_settled` meets its contract.
-- Assumes nothing.
use borrow.Author.Rules.{rules}
use Rattle.listing_text.specs.Text.{settled_text}
use Rattle.listing.proofs.outcomes.put_settled.Goals as goal

pub returns : goal.returns
returns c = unfold settled_text in search rules
