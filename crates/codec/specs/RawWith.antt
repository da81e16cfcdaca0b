-- Document 02, request 1: what is read before it is judged, with its record changed: a record of the old form into one with each size times ten.
-- Assumes nothing.
use Rattle.std.specs.Prelude.{List, map, ℕ, ◌*◌}
use Rattle.records.specs.declared.Record.{Record}
use Rattle.codec.specs.declared.Raw.{Raw}
use Rattle.codec.specs.declared.VisitFields.{VisitFields}

abbrev pub raw_with : (Record → Record) → Raw → Raw
raw_with change w = record { read = change w.read; badstatus = w.badstatus; spare = w.spare }

-- with each size so many times; 10 times it is `tenfold`
module _ (k : ℕ) where
  abbrev pub times : List ℕ → List ℕ
  times sizes = map (λ (size : ℕ). k * size) sizes

  abbrev pub sizes_times : Record → Record
  sizes_times r = record { entry = r.entry; sizes = times r.sizes; marks = r.marks }

  abbrev pub visit_times : VisitFields → VisitFields
  visit_times v = record { isvisit = v.isvisit; entry = v.entry; measured = v.measured; sizes = times v.sizes; badstatus = v.badstatus; spare = v.spare }
