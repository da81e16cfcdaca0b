-- Document 02, request 1: the numbers by which the bytes of a record of either form are read.
-- Assumes nothing.
use Rattle.std.specs.Prelude.{ℕ}
use Rattle.records.specs.Forms.{Form, old_form, new_form}

-- a form, its record's length in bytes, the width of a size in bits, and how many tenths of a millimetre a size counts
pub data IsForm : Form → ℕ → ℕ → ℕ → Type 0 where
  old : IsForm old_form 11 10 10
  new : IsForm new_form 13 13 1
