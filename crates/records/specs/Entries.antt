-- Document 01, "Dates and records": the parts of a record value.
-- Assumes nothing.
use Rattle.std.specs.Prelude.{◌≡◌, ℕ, length}
use Rattle.dates.specs.declared.Date.{Date}
use Rattle.records.specs.declared.Entry.{Entry}
use Rattle.records.specs.declared.Entry.TheVariants.{Baseline, Visit, Therapy, Death}
use Rattle.records.specs.declared.Record.{Record}
use Rattle.records.specs.declared.Status.{Status}
use Rattle.records.specs.declared.Status.TheVariants.{NA, CR, NN, PD, NE}

abbrev pub date_of : Entry → Date
date_of (Baseline b) = b.date
date_of (Visit v) = v.date
date_of (Therapy d) = d
date_of (Death d) = d

-- the numbers of kinds and statuses
abbrev pub kind_number : Entry → ℕ
kind_number (Baseline b) = 1
kind_number (Visit v) = 2
kind_number (Therapy d) = 3
kind_number (Death d) = 4

abbrev pub status_number : Status → ℕ
status_number NA = 0
status_number CR = 1
status_number NN = 2
status_number PD = 3
status_number NE = 4

-- there are five sizes and five marks: the declared type gives it
pub record Five (r : Record) : Type 0 where
  pub sizes : length r.sizes ≡ 5
  pub marks : length r.marks ≡ 5
