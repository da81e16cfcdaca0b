-- `history::replay::replay` meets its contract: the loop makes a list of calls, and demand 3 says what is read after it.
-- Assumes nothing.
use mathlib.Core.Path.{◌≡◌, ◌∙◌}
use lib.ListN.{drop}
use Rattle.file.proofs.ChunksAsParts.{whole_rest}
use Rattle.history.proofs.ReplayAsCalls.{turn, ended, empty, replayed}
use Rattle.history.proofs.replay.replay.Goals as goal

pub returns-then-bytes-lt-RECORD_LENGTH : goal.returns-then-bytes-lt-RECORD_LENGTH
returns-then-bytes-lt-RECORD_LENGTH c = empty c.args.bytes.now _ c.if-bytes-lt-RECORD_LENGTH.true

pub loop-part-init : goal.loop-part-init
loop-part-init c =
    let i = c.into_iter-part-iterator.ensures.into_iter_gives in
    let left : c.chunks_exact-part-items.result.rest.now ≡ drop 13 c.args.bytes.now = c.chunks_exact-part-items.ensures.rest ∙ whole_rest c.args.bytes.now 13 in
    rw i (c.chunks_exact-part-items.ensures.size, rw left (λ t w. w))

pub loop-part-preserved : goal.loop-part-preserved
loop-part-preserved c =
    let i = c.loop-part.invariant in
    let s = c.in-Some.ensures.steps in
    (s.0 ∙ i.0, turn _ _ _ _ _ _ _ _ _ _ s.1.0 (s.1.1 ∙ i.0) i.1 c.record_in-in-loop-part.ensures c.added-addition.ensures c.read_outcome-between.ensures)

pub returns : goal.returns
returns c =
    let i = c.loop-part.invariant in
    let s = c.in-None.ensures.steps in
    replayed c.args.bytes.now _ _ _ _ _ c.if-bytes-lt-RECORD_LENGTH.false c.record_in.ensures c.open_subject-opened.ensures (ended _ _ _ _ (rw i.0 at s.1.0) i.1) c.read_outcome.ensures
