-- Document 01, "Where a call stops", writing, with the length of document 02, request 1: 3 to 5, then 6, or the 13 bytes with every byte past them as it was.
-- Assumes nothing.
use Rattle.std.specs.Prelude.{◌≡◌, ℕ, List, [], ◌∷◌, ◌++◌, ltb, eqb, length, drop, Result, Ok, Err}
use Rattle.laws.specs.Choice.{pick}
use Rattle.laws.specs.Refusals.{◌when◌, first}
use Rattle.records.specs.Entries.{Five}
use Rattle.records.specs.Forms.{new_form, new_unit}
use Rattle.records.specs.Refusals.{own_number, refusals_of_record}
use Rattle.records.specs.declared.Record.{Record}
use Rattle.codec.specs.Bytes.{record_length, bytes_of}
use Rattle.writing.specs.declared.WriteRefusal.{WriteRefusal}
use Rattle.writing.specs.declared.WriteRefusal.TheVariants.{Own, ShortOutput}

-- the number of each case in document 01; 0 where no refusal meets
abbrev pub write_number : Result (Unit {0}) WriteRefusal → ℕ
write_number (Ok u) = 0
write_number (Err (Own own)) = own_number own
write_number (Err ShortOutput) = 6

-- 3 to 5, then 6
unfoldable pub refusal_of_writing : Record → List ℕ → ℕ
refusal_of_writing r out = first (refusals_of_record new_unit r ++ 6 when ltb (length out) record_length ∷ [])

-- the 13 bytes and what stood past them; as it was where refused
unfoldable pub output_of : Record → List ℕ → List ℕ
output_of r out = pick (eqb (refusal_of_writing r out) 0) (bytes_of new_form r ++ drop record_length out) out

-- the promise of writing, with the output at entry and at exit
pub record Writes (r : Record) (out : List ℕ) (a : Result (Unit {0}) WriteRefusal) (last : List ℕ) : Type 0 where
  pub answer : write_number a ≡ refusal_of_writing r out
  pub left : last ≡ output_of r out
  -- the type `[_; 5]` gives it
  pub five : Five r
