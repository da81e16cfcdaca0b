-- `input::read_into` meets its contract: what a chunk brought is stored behind the bytes read, and those past it stay as they were.
-- Assumes nothing.
use Rattle.std.proofs.Common.{rules, arith}
use Rattle.input.proofs.ChunksStored.{rest_kept}
use Rattle.input.proofs.read_into.Goals as goal

pub loop-count-preserved : goal.loop-count-preserved
loop-count-preserved g c =
    let i = c.loop-count.invariant in (
      search rules,
      search rules,
      omega (arith, i, c.loop-count-test.true, c.in-Ok.ensures.bound, c.read.auto.buf),
      rest_kept _ c.loop-count.bytes c.read.new.buf _ c.loop-count.count c.in-Ok.n c.store.ensures i.3 (omega (arith, i)) (search rules),
    )
