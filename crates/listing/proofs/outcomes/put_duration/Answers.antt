-- `listing::outcomes::put_duration` meets its contract.
-- Assumes nothing.
use borrow.Author.Rules.{rules}
use Rattle.listing_text.specs.Text.{duration_text}
use Rattle.listing.proofs.outcomes.put_duration.Goals as goal

pub returns-in-None : goal.returns-in-None
returns-in-None c = unfold duration_text in search rules

pub returns-in-Some : goal.returns-in-Some
returns-in-Some c = unfold duration_text in search rules
