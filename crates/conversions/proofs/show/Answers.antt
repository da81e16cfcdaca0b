-- `conversions::show` meets its contract.
-- Assumes nothing.
use mathlib.Core.Path.{sym}
use lib.Seq.{length-take-le}
use Rattle.converter.proofs.OldFilesKept.{within_output}
use Rattle.conversions.proofs.show.Goals as goal

pub slice_bounds-out-end : goal.slice_bounds-out-end
slice_bounds-out-end c = within_output c.convert.ensures c.in-Ok.is

pub slice_bounds-show_file-end-in-Ok : goal.slice_bounds-show_file-end-in-Ok
slice_bounds-show_file-end-in-Ok c = sym (length-take-le _ c.convert.new.out (within_output c.convert.ensures c.in-Ok.is))
