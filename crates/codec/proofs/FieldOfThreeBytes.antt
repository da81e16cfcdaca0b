-- A field read from the three bytes that end where it ends is the field of the bytes' number.
-- Assumes nothing.
use mathlib.Core.Path.{◌≡◌, ◌∙◌, ap}
use mathlib.Core.List.{List}
use Prim.Native.Nat.{ℕ, ◌+◌, ◌-◌, ◌*◌, ◌/◌, ◌%◌, ◌^◌, ◌≤◌}
use native.Mathlib.Omega.{arith}
use lib.ListN.{length}
use Rattle.laws.specs.Layout.{leading, AreBytes, before}
use Rattle.laws.proofs.FieldOfBytes.{leading_all, three_last, field_at_lem}
use Rattle.records.specs.Forms.{Form}
use Rattle.codec.specs.Bytes.{bytes_number}
use Rattle.codec.specs.Fields.{field_at}

-- a power of two by a shift
module _ (form : Form) (s : List ℕ) (b : AreBytes s) (l : length s ≡ form.record_length) where
  bytes_leading : leading s form.record_length ≡ bytes_number form s
  unfolding bytes_number
  bytes_leading = rw l at (leading_all s)

  -- k bytes hold the bits up to the field's end
  pub field_read : (at width k window r : ℕ) → k ≡ (at + width + 7) / 8 → at + width ≤ 8 * form.record_length → width ≤ 16 →
      window ≡ before s k 3 * 65536 + before s k 2 * 256 + before s k 1 → r ≡ window / 2 ^ (k * 8 - (at + width)) % 2 ^ width →
      r ≡ field_at form s at width
  field_read at width k window r e h w we re =
      re
      ∙ rw (we, three_last s b k, field_at_lem s b k (form.record_length - k) (k * 8 - (at + width)) width (omega arith))
      (rw (let z : k + (form.record_length - k) ≡ form.record_length = omega arith in z, bytes_leading)
      (ap (λ (n : ℕ). bytes_number form s / 2 ^ n % 2 ^ width) (omega arith)))
