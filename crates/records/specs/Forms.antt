-- Document 02, request 1: the form of a record, a term of our own. Every call reads and writes the new form; the old one is that of document 01's files,
-- which the converter reads.
-- Assumes nothing.
use Rattle.std.specs.Prelude.{ℕ}

pub record Form : Type 0 where
  -- in bytes
  pub record_length : ℕ
  -- in bits
  pub size_width : ℕ
  -- how many units of size a millimetre has
  pub unit : ℕ

-- whole millimetres in 10 bits
abbrev pub old_unit : ℕ
old_unit = 1

abbrev pub old_form : Form
old_form = record { record_length = 11; size_width = 10; unit = old_unit }

-- tenths of a millimetre in 13 bits
abbrev pub new_unit : ℕ
new_unit = 10

abbrev pub new_form : Form
new_form = record { record_length = 13; size_width = 13; unit = new_unit }
