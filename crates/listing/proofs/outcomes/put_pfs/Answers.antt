-- `listing::outcomes::put_pfs` meets its contract.
-- Assumes nothing.
use Rattle.listing_text.specs.Text.{pfs_text}
use Rattle.listing.proofs.outcomes.put_pfs.Goals as goal

pub returns : goal.returns
returns c = unfold pfs_text in c.put_status_line.ensures
