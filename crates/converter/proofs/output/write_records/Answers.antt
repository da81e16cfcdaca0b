-- `converter::output::write_records` meets its contract: the records before the next part are stored, and everything past them is as it was.
-- Assumes nothing.
use mathlib.Core.Path.{◌≡◌, refl, ap, ◌∙◌}
use Prim.Native.Nat.{◌*◌}
use native.Mathlib.Omega.{arith}
use lib.ListN.{length, length-drop}
use Rattle.records.specs.Forms.{old_form}
use Rattle.file.proofs.ChunksAsParts.{chunk_is_part, left_behind, chunk_within}
use Rattle.converter.proofs.ConvertedFile.{converted_length}
use Rattle.converter.proofs.TurnsOfWriting.{nothing_stored, part_read, one_stored, all_stored}
use Rattle.converter.proofs.output.write_records.Goals as goal

pub loop-k-init : goal.loop-k-init
loop-k-init c =
    let e = c.enumerate-k-items.ensures in
    let i = c.into_iter-k-iterator.ensures.into_iter_gives in
    let n : c.into_iter-k-iterator.result.count ≡ 0 = rw i e.count in
    rw n (rw (i, e.source) c.chunks_exact.ensures.size, rw (i, e.source) c.chunks_exact.ensures.rest, omega arith, refl, nothing_stored _ _ c.requires.0)

pub write_record-requires : goal.write_record-requires
write_record-requires c =
    let i = c.loop-k.invariant in
    let s = c.in-Some.ensures.steps in
    let size = s.0.1.1 ∙ i.0 in
    let part = chunk_is_part old_form _ _ _ _ c.loop-k.k-iterator.count i.1 s.0.1.0 size in
    let within = chunk_within old_form _ _ _ _ c.loop-k.k-iterator.count i.1 s.0.1.0 size in
    (rw part (part_read _ _ _ _ i.4 (omega (arith, within))), omega (arith, within, s.1, i.3, converted_length c.args.old.now, c.requires.1))

pub loop-k-preserved : goal.loop-k-preserved
loop-k-preserved c =
    let i = c.loop-k.invariant in
    let s = c.in-Some.ensures.steps in
    let size = s.0.1.1 ∙ i.0 in
    let part = chunk_is_part old_form _ _ _ _ c.loop-k.k-iterator.count i.1 s.0.1.0 size in
    let left = left_behind old_form _ _ _ _ c.loop-k.k-iterator.count i.1 s.0.1.0 size in
    let within = chunk_within old_form _ _ _ _ c.loop-k.k-iterator.count i.1 s.0.1.0 size in
    rw s.2 (
      s.0.0 ∙ i.0,
      left,
      omega (arith, within),
      c.write_record.auto.out ∙ i.3,
      one_stored _ _ _ _ i.4 (omega (arith, within)) _ (rw (s.1, part) at c.write_record.ensures),
    )

pub shape_of-out : goal.shape_of-out
shape_of-out c = c.loop-k.invariant.3

pub returns : goal.returns
returns c =
    let i = c.loop-k.invariant in
    let s = c.in-None.ensures.steps in
    let left = ap length i.1 ∙ length-drop (c.loop-k.k-iterator.count * 11) c.args.old.now in
    all_stored _ _ _ _ i.4 (omega (arith, left, s.0.1.0, i.0))
