-- Document 02, request 1: what reading a record of the old form promises: the refusal by the old form's length and limits, or the record with each size
-- times ten.
-- Assumes nothing.
use Rattle.std.specs.Prelude.{◌≡◌, List, ℕ}
use Rattle.laws.specs.Layout.{AreBytes}
use Rattle.records.specs.Forms.{old_form}
use Rattle.records.specs.Tenfold.{tenfold}
use Rattle.codec.specs.Reading.{read_number, refusal_of_bytes, record_of_bytes}
use Rattle.codec.specs.declared.ReadResult.{ReadResult}

pub record ReadsOld (s : List ℕ) (x : ReadResult) : Type 0 where
  pub answer : read_number x.answer ≡ refusal_of_bytes old_form s
  -- beside a refusal the blank record
  pub found : x.found ≡ tenfold (record_of_bytes old_form s)
  -- the type `u8` gives it
  pub octets : AreBytes s
