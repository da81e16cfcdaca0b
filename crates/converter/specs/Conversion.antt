-- Document 02, request 1: a file of the old form turned into the new one, each size times ten, and what converting promises.
-- Assumes nothing.
use Rattle.std.specs.Prelude.{◌≡◌, List, map, ◌++◌, ℕ, ltb, length, drop, Result, Ok, Err}
use Rattle.laws.specs.Choice.{pick}
use Rattle.records.specs.Forms.{old_form, new_form}
use Rattle.records.specs.Tenfold.{tenfold}
use Rattle.codec.specs.Bytes.{bytes_of}
use Rattle.codec.specs.Reading.{record_of_bytes}
use Rattle.codec.specs.Parts.{parts_of, joined}
use Rattle.file.specs.Verdict as F
use Rattle.file.specs.declared.FileRefusal.{FileRefusal}

-- the record that the bytes of a part are read as, written in the new form
abbrev pub converted_part : List ℕ → List ℕ
converted_part part = bytes_of new_form (tenfold (record_of_bytes old_form part))

unfoldable pub converted : List ℕ → List ℕ
converted s = joined (map converted_part (parts_of old_form s))

-- a refusal's number and the index of a record, or how many bytes were written
pub data Conversion : Type 0 where
  refused : ℕ → ℕ → Conversion
  written : ℕ → Conversion

-- as the old file call refused; then 6, with index 0, where the output is too short for the whole of it
abbrev pub conversion_by : F.Verdict → ℕ → ℕ → Conversion
conversion_by (F.refused number index) size room = refused number index
conversion_by (F.accepted o) size room = pick (ltb room size) (refused 6 0) (written size)

unfoldable pub conversion_of : List ℕ → List ℕ → Conversion
conversion_of s out = conversion_by (F.verdict_of old_form s) (length (converted s)) (length out)

-- bytes past what was written are untouched, and all of them where a refusal meets
abbrev pub output_by : Conversion → List ℕ → List ℕ → List ℕ
output_by (refused number index) text out = out
output_by (written size) text out = text ++ drop size out

unfoldable pub output_of : List ℕ → List ℕ → List ℕ
output_of s out = output_by (conversion_of s out) (converted s) out

-- the declared cases
abbrev pub conversion_values : Result ℕ FileRefusal → Conversion
conversion_values (Err r) = refused r.number r.index
conversion_values (Ok size) = written size

-- the promise of converting, with the output at entry and at exit
pub record Converts (s out : List ℕ) (a : Result ℕ FileRefusal) (left : List ℕ) : Type 0 where
  pub answer : conversion_values a ≡ conversion_of s out
  pub output : left ≡ output_of s out
