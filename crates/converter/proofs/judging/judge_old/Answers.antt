-- `converter::judging::judge_old` meets its contract: the records before index k are taken, and the verdict is that of the rest behind them.
-- Assumes nothing.
use mathlib.Core.Path.{◌≡◌, refl, sym, ap, ◌∙◌}
use native.Mathlib.Omega.{arith}
use Prim.Native.Nat.{◌+◌, ◌-◌, ◌*◌, ◌/◌}
use lib.ListN.{length, take, drop, length-drop}
use Rattle.records.specs.Forms.{old_form}
use Rattle.codec.proofs.PartsJoined.{fair_length}
use Rattle.file.proofs.ChunksAsParts.{whole_rest, chunk_is_part, left_behind, chunk_within}
use Rattle.converter.proofs.TurnsOfJudging.{bad, first_refused, first_standing, turn_refused, turn, ended}
use Rattle.converter.proofs.judging.judge_old.Goals as goal

pub returns-then-bad_old_length : goal.returns-then-bad_old_length
returns-then-bad_old_length c = bad _ _ (sym c.bad_old_length.ensures ∙ c.if-bad_old_length.true) c.refused.ensures

pub slice_bounds-open_old-end : goal.slice_bounds-open_old-end
slice_bounds-open_old-end c = let h = fair_length old_form (length c.args.old.now) (sym c.bad_old_length.ensures ∙ c.if-bad_old_length.false) in omega arith

pub returns-in-Err : goal.returns-in-Err
returns-in-Err c =
    let met = c.in-Err.ensures in
    first_refused _ (sym c.bad_old_length.ensures ∙ c.if-bad_old_length.false) _ _ met.1.1 _ met.0 c.refused-in-Err.ensures

pub loop-k-init : goal.loop-k-init
loop-k-init c =
    let h = fair_length old_form (length c.args.old.now) (sym c.bad_old_length.ensures ∙ c.if-bad_old_length.false) in
    let e = c.enumerate-k-items.ensures in
    let i = c.into_iter-k-iterator.ensures.into_iter_gives in
    let n : c.into_iter-k-iterator.result.count ≡ 0 = rw i e.count in
    rw n (
      rw (i, e.source) c.chunks_exact.ensures.size,
      rw (i, e.source) (c.chunks_exact.ensures.rest ∙ whole_rest c.args.old.now 11),
      omega arith,
      first_standing _ (sym c.bad_old_length.ensures ∙ c.if-bad_old_length.false) _ _ c.in-Ok.ensures refl,
    )

pub returns-in-Err-add_old : goal.returns-in-Err-add_old
returns-in-Err-add_old c =
    let i = c.loop-k.invariant in
    let s = c.in-Some.ensures.steps in
    let size = s.0.1.1 ∙ i.0 in
    let part = chunk_is_part old_form _ _ _ _ (c.loop-k.k-iterator.count + 1) i.1 s.0.1.0 size in
    let within = chunk_within old_form _ _ _ _ (c.loop-k.k-iterator.count + 1) i.1 s.0.1.0 size in
    let met = rw part at c.in-Err-add_old.ensures in
    turn_refused _ _ _ i.3 (omega (arith, within)) _ _ met.1.1 _ met.0 (rw s.1 at c.refused-in-Err-add_old.ensures)

pub loop-k-preserved : goal.loop-k-preserved
loop-k-preserved c =
    let i = c.loop-k.invariant in
    let s = c.in-Some.ensures.steps in
    let size = s.0.1.1 ∙ i.0 in
    let part = chunk_is_part old_form _ _ _ _ (c.loop-k.k-iterator.count + 1) i.1 s.0.1.0 size in
    let left = left_behind old_form _ _ _ _ (c.loop-k.k-iterator.count + 1) i.1 s.0.1.0 size in
    let within = chunk_within old_form _ _ _ _ (c.loop-k.k-iterator.count + 1) i.1 s.0.1.0 size in
    rw s.2 (
      s.0.0 ∙ i.0,
      left,
      omega (arith, within),
      turn _ _ _ i.3 (omega (arith, within)) _ _ (rw part at c.in-Ok-add_old.ensures) refl,
    )

pub returns : goal.returns
returns c =
    let i = c.loop-k.invariant in
    let s = c.in-None.ensures.steps in
    let left = ap length i.1 ∙ length-drop ((c.loop-k.k-iterator.count + 1) * 11) c.args.old.now in
    let later = ap length (whole_rest c.args.old.now 11) ∙ length-drop 11 c.args.old.now in
    let last : length (take (length c.args.old.now - 11) (drop 11 c.args.old.now)) / 11 ≡ c.loop-k.k-iterator.count + 1 - 1 = omega (arith, left, later, s.0.1.0, i.0, i.2) in
    ended _ _ _ i.3 (omega (arith, left, s.0.1.0, i.0)) _ (rw last at c.end_file.ensures)
