-- `history::listing` meets its contract.
-- Assumes nothing.
use mathlib.Core.Path.{sym}
use lib.Seq.{length-take-le}
use Rattle.listing.proofs.PageAfterListing.{within_page}
use Rattle.history.proofs.listing.Goals as goal

pub slice_bounds-page-end : goal.slice_bounds-page-end
slice_bounds-page-end c = within_page _ _ _ _ c.list-n.ensures

pub slice_bounds-print_listing-end : goal.slice_bounds-print_listing-end
slice_bounds-print_listing-end c = sym (length-take-le c.list-n.result c.list-n.new.page (within_page _ _ _ _ c.list-n.ensures))
