-- `listing::outcomes::put_best` meets its contract.
-- Assumes nothing.
use borrow.Author.Rules.{rules}
use Rattle.listing_text.specs.Text.{best_text}
use Rattle.listing.proofs.TextsWritten.{then_puts}
use Rattle.listing.proofs.outcomes.put_best.Goals as goal

pub returns : goal.returns
returns c = unfold best_text in (then_puts c.put.ensures (then_puts c.put_word.ensures c.put-2.ensures), search rules)
