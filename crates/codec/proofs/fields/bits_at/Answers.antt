-- `codec::fields::bits_at` meets its contract: the law on a field read from three bytes, at what was found.
-- Assumes nothing.
use mathlib.Core.Path.{refl}
use native.Mathlib.Omega.{arith}
use Rattle.codec.proofs.FieldOfThreeBytes.{field_read}
use Rattle.codec.proofs.fields.bits_at.Goals as goal

pub returns : goal.returns
returns c = λ form l. let w = c in let p = w.requires in field_read form _ (λ k. omega (arith, w.shared_slice_known-1.given k)) l _ _ _ _ _ refl (rw l at p.1) p.2 (rw (c.byte_before-first.ensures.0, c.byte_before-second.ensures.0, c.byte_before-third.ensures.0)) c.bits_of.ensures
