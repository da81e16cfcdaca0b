-- Document 01, "Dates and records": the fields of a record's bytes by the bit where they start, bit 0 being the most significant.
-- Assumes nothing.
use Rattle.std.specs.Prelude.{ℕ, ◌+◌, ◌-◌, ◌*◌, ◌/◌, ◌%◌, ◌^◌, List, [], ◌∷◌}
use Rattle.records.specs.Forms.{Form}
use Rattle.codec.specs.Bytes.{bytes_number}

module _ (form : Form) where
  -- the field of a width
  abbrev pub field_at : List ℕ → ℕ → ℕ → ℕ
  field_at s at width = bytes_number form s / 2 ^ (8 * form.record_length - (at + width)) % 2 ^ width

  -- the bits of a target
  abbrev pub target_width : ℕ
  target_width = 1 + form.size_width

  -- the fields of the five targets
  abbrev pub targets_at : List ℕ → ℕ → List ℕ
  targets_at s at =
      field_at s at 1 ∷ field_at s (at + 1) form.size_width
      ∷ field_at s (at + target_width) 1 ∷ field_at s (at + (target_width + 1)) form.size_width
      ∷ field_at s (at + 2 * target_width) 1 ∷ field_at s (at + (2 * target_width + 1)) form.size_width
      ∷ field_at s (at + 3 * target_width) 1 ∷ field_at s (at + (3 * target_width + 1)) form.size_width
      ∷ field_at s (at + 4 * target_width) 1 ∷ field_at s (at + (4 * target_width + 1)) form.size_width ∷ []
