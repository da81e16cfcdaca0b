-- Both round trips and the printed baseline, from the promises of reading and writing.
-- Assumes nothing.
use mathlib.Core.Path.{◌≡◌, refl, sym, ◌∙◌, ap}
use mathlib.Core.List.{List, ◌++◌}
use Prim.Native.Nat.{ℕ, ◌≤◌}
use lib.ListN.{length, take, drop}
use borrow.Author.Tests.{le-ltb}
use Rattle.dates.specs.Calendar.{leap_year, days_in_month, date_exists}
use Rattle.records.specs.Forms.{new_form, new_unit}
use Rattle.records.specs.Refusals.{size_outside_limits, not_zero_beyond_count, without_disease, outside_limits, not_zero, refusals_of_read, refusal_of_record}
use Rattle.records.specs.declared.Record.{Record}
use Rattle.records.proofs.NoOwnRefusal.{none_after_own}
use Rattle.codec.specs.Bytes.{record_length, record_number, bytes_of, bytes_number}
use Rattle.codec.specs.Examples.{printed_baseline, printed_bytes}
use Rattle.codec.specs.Reading.{baseline_in, raw_in, refusals_of_record_number, refusals_of_bytes, refusal_of_bytes, record_of_bytes}
use Rattle.codec.proofs.NoRefusalOfBytes.{found_fine}
use Rattle.writing.specs.Writing.{write_number, refusal_of_writing, output_of, Writes}
use Rattle.writing.specs.Laws.{RoundTrips}
use Rattle.writing.specs.declared.WriteRefusal.{WriteRefusal}
use Rattle.std.specs.Prelude.{Result}
use Rattle.writing.proofs.ReadBack.{no_refusal_back, record_back}
use Rattle.writing.proofs.WrittenBack.{bytes_back}

-- a record that no refusal meets, written where there is room
module _ (r : Record) (out last : List ℕ) (a : Result (Unit {0}) WriteRefusal) (fine : refusal_of_record new_unit r ≡ 0) (room : record_length ≤ length out) (w : Writes r out a last) where
  not_refused : refusal_of_writing r out ≡ 0
  unfolding refusal_of_writing
  not_refused = (none_after_own new_unit r _).1 (fine, rw (le-ltb (length out) record_length room))

  done : write_number a ≡ 0
  done = w.answer ∙ not_refused

  -- the first round trip needs the 13 bytes alone
  first_bytes : take record_length last ≡ bytes_of new_form r
  unfolding bytes_of output_of
  first_bytes = ap (take record_length) w.left ∙ rw not_refused

  -- and the second what stands past them too
  pub stored : last ≡ bytes_of new_form r ++ drop record_length out
  unfolding output_of
  stored = w.left ∙ rw not_refused

printed_fine : refusal_of_record new_unit printed_baseline ≡ 0
unfolding refusals_of_read date_exists leap_year days_in_month outside_limits not_zero without_disease size_outside_limits not_zero_beyond_count
printed_fine = refl

printed_bytes_lem : bytes_of new_form printed_baseline ≡ printed_bytes
unfolding bytes_of record_number
printed_bytes_lem = refl

printed_accepted : refusal_of_bytes new_form printed_bytes ≡ 0
unfolding refusals_of_bytes bytes_number refusals_of_record_number raw_in baseline_in refusals_of_read date_exists leap_year days_in_month outside_limits not_zero without_disease size_outside_limits not_zero_beyond_count
printed_accepted = refl

printed_record : record_of_bytes new_form printed_bytes ≡ printed_baseline
unfolding record_of_bytes bytes_number raw_in baseline_in
printed_record = rw printed_accepted

pub round_trips : RoundTrips
round_trips =
    record {
      read_back = λ r out last a x fine room w q.
          let b = first_bytes r out last a fine room w in (
            done r out last a fine room w,
            q.answer ∙ rw b (no_refusal_back r w.five fine),
            q.found ∙ rw b (record_back r w.five fine),
          );
      written_back = λ s out last a x q e room w.
          let accepted = sym q.answer ∙ e in
          let fine : refusal_of_record new_unit x.found ≡ 0 = rw q.found (found_fine new_form s accepted) in (
            done x.found out last a fine room w,
            stored x.found out last a fine room w ∙ rw (q.found, bytes_back s q.octets accepted),
          );
      printed_read = λ x q. (q.answer ∙ printed_accepted, q.found ∙ printed_record);
      printed_written = λ out last a room w. (
        done printed_baseline out last a printed_fine room w,
        stored printed_baseline out last a printed_fine room w ∙ rw printed_bytes_lem,
      );
    }
