-- `convert::print_converted` meets its contract.
-- Assumes nothing.
use mathlib.Core.Path.{sym}
use lib.Seq.{length-take-le}
use Rattle.converter.proofs.OldFilesKept.{within_output}
use Rattle.convert.proofs.print_converted.Goals as goal

pub slice_bounds-out-end : goal.slice_bounds-out-end
slice_bounds-out-end g c = within_output c.convert.ensures c.in-Ok.is

pub slice_bounds-write_all-end : goal.slice_bounds-write_all-end
slice_bounds-write_all-end g c = sym (length-take-le _ c.convert.new.out (within_output c.convert.ensures c.in-Ok.is))
