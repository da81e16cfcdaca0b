-- Document 01, "Dates and records", with the form of document 02, request 1: both round trips, and the baseline that document 01 prints, stated over the
-- promises of the calls; proved in proofs/RoundTrip.antt.
-- Assumes nothing.
use Rattle.std.specs.Prelude.{◌≡◌, ℕ, ◌≤◌, List, ◌++◌, length, take, drop, Result}
use Rattle.records.specs.Forms.{new_unit}
use Rattle.records.specs.Refusals.{refusal_of_record}
use Rattle.records.specs.declared.Record.{Record}
use Rattle.codec.specs.Bytes.{record_length}
use Rattle.codec.specs.Examples.{printed_baseline, printed_bytes}
use Rattle.codec.specs.Reading.{read_number, Reads}
use Rattle.codec.specs.declared.ReadResult.{ReadResult}
use Rattle.writing.specs.Writing.{write_number, Writes}
use Rattle.writing.specs.declared.WriteRefusal.{WriteRefusal}

pub record RoundTrips : Type 0 where
  -- a record that no refusal meets is written where there is room, and reading what is written gives the same record
  pub read_back : (r : Record) (out last : List ℕ) (a : Result (Unit {0}) WriteRefusal) (x : ReadResult) → refusal_of_record new_unit r ≡ 0 → record_length ≤ length out →
      Writes r out a last → Reads (take record_length last) x →
      (write_number a ≡ 0) × (read_number x.answer ≡ 0) × (x.found ≡ r)
  -- bytes that are read are 13, and writing the record gives the same bytes
  pub written_back : (s out last : List ℕ) (a : Result (Unit {0}) WriteRefusal) (x : ReadResult) → Reads s x → read_number x.answer ≡ 0 →
      record_length ≤ length out → Writes x.found out a last →
      (write_number a ≡ 0) × (last ≡ s ++ drop record_length out)
  -- the baseline of the printed example, its sizes times ten, and its bytes
  pub printed_read : (x : ReadResult) → Reads printed_bytes x → (read_number x.answer ≡ 0) × (x.found ≡ printed_baseline)
  pub printed_written : (out last : List ℕ) (a : Result (Unit {0}) WriteRefusal) → record_length ≤ length out → Writes printed_baseline out a last →
      (write_number a ≡ 0) × (last ≡ printed_bytes ++ drop record_length out)
