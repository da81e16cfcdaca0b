-- `file::judge_file` meets its contract: the records before the next part are taken, and the verdict is that of the rest behind them.
-- Assumes nothing.
use mathlib.Core.Path.{◌≡◌, sym, ap, ◌∙◌}
use native.Mathlib.Omega.{arith}
use Prim.Native.Nat.{◌+◌, ◌-◌, ◌*◌, ◌/◌}
use lib.ListN.{length, take, drop, length-drop}
use Rattle.codec.proofs.PartsJoined.{fair_length}
use Rattle.file.proofs.ChunksAsParts.{whole_rest, chunk_is_part, left_behind, chunk_within}
use Rattle.file.proofs.TurnsOfLoop.{bad, first_refused, first_standing, turn_refused, turn, ended}
use Rattle.file.proofs.judge_file.Goals as goal
use Rattle.records.specs.Forms.{new_form}

pub returns-then-bad_length : goal.returns-then-bad_length
returns-then-bad_length c = bad _ _ (sym c.bad_length.ensures ∙ c.if-bad_length.true) c.refused.ensures

pub slice_bounds-open_bytes-end : goal.slice_bounds-open_bytes-end
slice_bounds-open_bytes-end c = let h = fair_length new_form (length c.args.bytes.now) (sym c.bad_length.ensures ∙ c.if-bad_length.false) in omega arith

pub returns-then-is_err : goal.returns-then-is_err
returns-then-is_err c = first_refused _ (sym c.bad_length.ensures ∙ c.if-bad_length.false) _ _ c.open_bytes-first.ensures _ (sym c.is_err.ensures.value ∙ c.if-is_err.true) (rw c.open_number.ensures at c.refused-then-is_err.ensures)

pub loop-k-init : goal.loop-k-init
loop-k-init c =
    let h = fair_length new_form (length c.args.bytes.now) (sym c.bad_length.ensures ∙ c.if-bad_length.false) in
    let e = c.enumerate-k-items.ensures in
    let i = c.into_iter-k-iterator.ensures.into_iter_gives in
    let n : c.into_iter-k-iterator.result.count ≡ 0 = rw i e.count in
    rw n (
      rw (i, e.source) c.chunks_exact.ensures.size,
      rw (i, e.source) (c.chunks_exact.ensures.rest ∙ whole_rest c.args.bytes.now 13),
      omega arith,
      first_standing _ (sym c.bad_length.ensures ∙ c.if-bad_length.false) _ _ c.open_bytes-first.ensures (sym c.is_err.ensures.value ∙ c.if-is_err.false),
    )

pub returns-then-is_err-2 : goal.returns-then-is_err-2
returns-then-is_err-2 c =
    let i = c.loop-k.invariant in
    let s = c.in-Some.ensures.steps in
    let size = s.0.1.1 ∙ i.0 in
    let part = chunk_is_part new_form _ _ _ _ (c.loop-k.k-iterator.count + 1) i.1 s.0.1.0 size in
    let within = chunk_within new_form _ _ _ _ (c.loop-k.k-iterator.count + 1) i.1 s.0.1.0 size in
    turn_refused _ _ _ i.3 (omega (arith, within)) _ _ (rw part at c.add_bytes-addition.ensures) _ (sym c.is_err-in-loop-k.ensures.value ∙ c.if-is_err-2.true) (rw (c.add_number.ensures, s.1) at c.refused-then-is_err-2.ensures)

pub loop-k-preserved : goal.loop-k-preserved
loop-k-preserved c =
    let i = c.loop-k.invariant in
    let s = c.in-Some.ensures.steps in
    let size = s.0.1.1 ∙ i.0 in
    let part = chunk_is_part new_form _ _ _ _ (c.loop-k.k-iterator.count + 1) i.1 s.0.1.0 size in
    let left = left_behind new_form _ _ _ _ (c.loop-k.k-iterator.count + 1) i.1 s.0.1.0 size in
    let within = chunk_within new_form _ _ _ _ (c.loop-k.k-iterator.count + 1) i.1 s.0.1.0 size in
    rw s.2 (
      s.0.0 ∙ i.0,
      left,
      omega (arith, within),
      turn _ _ _ i.3 (omega (arith, within)) _ _ (rw part at c.add_bytes-addition.ensures) (sym c.is_err-in-loop-k.ensures.value ∙ c.if-is_err-2.false),
    )

pub returns : goal.returns
returns c =
    let i = c.loop-k.invariant in
    let s = c.in-None.ensures.steps in
    let left = ap length i.1 ∙ length-drop ((c.loop-k.k-iterator.count + 1) * 13) c.args.bytes.now in
    let later = ap length (whole_rest c.args.bytes.now 13) ∙ length-drop 13 c.args.bytes.now in
    let last : length (take (length c.args.bytes.now - 13) (drop 13 c.args.bytes.now)) / 13 ≡ c.loop-k.k-iterator.count + 1 - 1 = omega (arith, left, later, s.0.1.0, i.0, i.2) in
    ended _ _ _ i.3 (omega (arith, left, s.0.1.0, i.0)) _ (rw last at c.end_file.ensures)
