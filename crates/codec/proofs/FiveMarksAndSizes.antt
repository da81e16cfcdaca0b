-- The record that bytes are read as has five marks and five sizes.
-- Assumes nothing.
use mathlib.Core.Path.{refl}
use mathlib.Core.Bool.{Bool, true, false}
use mathlib.Core.List.{List}
use Prim.Native.Nat.{ℕ}
use lib.Dec.{eqb}
use Rattle.laws.specs.Choice.{pick}
use Rattle.records.specs.declared.Record.{Record}
use Rattle.records.specs.declared.Entry.{Entry}
use Rattle.records.specs.declared.Entry.TheVariants as E
use Rattle.records.specs.Entries.{Five}
use Rattle.records.specs.Forms.{Form}
use Rattle.codec.specs.Bytes.{bytes_number}
use Rattle.codec.specs.Reading.{baseline_in, visit_in, date_in, spare_in, kind_in, raw_in, refusal_of_bytes, blank_record, record_of_bytes}

-- what either of two has five of, their choice has
choice_five : {A : Type 0} (of : A → Record) (x : Bool) (v w : A) → Five (of v) → Five (of w) → Five (of (pick x v w))
choice_five of true v w a b = a
choice_five of false v w a b = b

module _ (form : Form) where
  baseline_five : (n : ℕ) → Five (baseline_in form n).read
  unfolding baseline_in
  baseline_five n = record { sizes = refl; marks = refl }

  visit_five : (n : ℕ) → Five (visit_in form n).read
  unfolding visit_in
  visit_five n = record { sizes = refl; marks = refl }

  spare_five : (e : Entry) (n : ℕ) → Five (spare_in form e n).read
  unfolding spare_in
  spare_five e n = record { sizes = refl; marks = refl }

  raw_five : (kind n : ℕ) → Five (raw_in form kind n).read
  unfolding raw_in
  raw_five kind n =
      choice_five (λ w. w.read) (eqb kind 1) (baseline_in form n) _ (baseline_five n)
      (choice_five (λ w. w.read) (eqb kind 2) (visit_in form n) _ (visit_five n)
      (choice_five (λ w. w.read) (eqb kind 3) (spare_in form (E.Therapy (date_in form n)) n) _ (spare_five _ n) (spare_five _ n)))

  pub found_five : (s : List ℕ) → Five (record_of_bytes form s)
  unfolding record_of_bytes
  found_five s =
      choice_five (λ r. r) (eqb (refusal_of_bytes form s) 0) (raw_in form (kind_in form (bytes_number form s)) (bytes_number form s)).read blank_record
      (raw_five (kind_in form (bytes_number form s)) (bytes_number form s)) (record { sizes = refl; marks = refl })
