-- Document 02, request 1: a record of the old form with each size times ten. What 3 to 5 say of it by the new form's limits is what they say of the record by
-- the old form's; proved in proofs/Tenfold.antt.
-- Assumes nothing.
use Rattle.std.specs.Prelude.{◌≡◌, Bool, List, map, ℕ, ◌*◌}
use Rattle.records.specs.Forms.{old_unit, new_unit}
use Rattle.records.specs.Refusals.{refusals_of_read}
use Rattle.records.specs.declared.Record.{Record}

abbrev pub times_ten : List ℕ → List ℕ
times_ten sizes = map (λ (size : ℕ). 10 * size) sizes

abbrev pub tenfold : Record → Record
tenfold r = record { entry = r.entry; sizes = times_ten r.sizes; marks = r.marks }

pub record TenfoldRefusals : Type 0 where
  pub same : (r : Record) (badstatus spare : Bool) → refusals_of_read new_unit (tenfold r) badstatus spare ≡ refusals_of_read old_unit r badstatus spare
