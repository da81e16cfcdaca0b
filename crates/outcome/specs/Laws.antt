-- Document 01, "Where a call stops" and "Contracts" a: refusals and ranges, for every record value and every subject. Proved in proofs/CallsInRange.antt.
-- Assumes nothing.
use Rattle.std.specs.Prelude.{◌≡◌, true, false, List, [], ℕ, Result}
use Rattle.records.specs.declared.Record.{Record}
use Rattle.records.specs.Forms.{new_form}
use Rattle.codec.specs.Reading.{refusal_of_bytes, record_of_bytes}
use Rattle.outcome_rules.specs.Values.{Duration, no_duration, for_days}
use Rattle.subject.specs.declared.Subject.{Subject}
use Rattle.subject.specs.Range.{in_range}
use Rattle.subject.specs.Opening.{blank_subject, open_number, Opens}
use Rattle.subject.specs.Laws.{Within}
use Rattle.adding.specs.Refusals.{AddAnswer}
use Rattle.adding.specs.Refusals.{add_number}
use Rattle.adding.specs.Responses.{add_responses}
use Rattle.adding.specs.Promises.{Adds, AddsBytes}
use Rattle.subject.specs.declared.OpenRefusal.{OpenRefusal}
use Rattle.outcome.specs.declared.OutOfRange.{OutOfRange}
use Rattle.outcome.specs.declared.OutcomeResult.{OutcomeResult}
use Rattle.outcome.specs.ReadingOutcome.{Reading, refused, outcome, reading_values, ReadsOutcome}

abbrev pub DurationWithin : Duration → Type 0
DurationWithin no_duration = Unit {0}
DurationWithin (for_days status days) = Within days

-- no refusal, and every day and duration from 1 to 40,177
abbrev pub ReadingWithin : Reading → Type 0
ReadingWithin (refused n) = ⊥
ReadingWithin (outcome o) = Within o.pfs.day × DurationWithin o.duration

pub record CallsInRange : Type 0 where
  -- an accepted opening makes a subject in range, and beside a refused one stands the blank
  pub opened : {r : Record} {a : Result (Unit {0}) OpenRefusal} {s : Subject} → Opens r a s → open_number a ≡ 0 → in_range s ≡ true
  pub not_opened : {r : Record} {a : Result (Unit {0}) OpenRefusal} {s : Subject} → Opens r a s → (open_number a ≡ 0 → ⊥) → s ≡ blank_subject
  -- adding leaves every subject in range in range, and keeps every value where it refuses
  pub added : {s t : Subject} {r : Record} {a : AddAnswer} → Adds s r a t → in_range s ≡ true → in_range t ≡ true
  pub not_added : {s t : Subject} {r : Record} {a : AddAnswer} → Adds s r a t → (add_number a ≡ 0 → ⊥) → t ≡ s
  -- a refusal carries its number and nothing else
  pub not_answered : {s t : Subject} {r : Record} {a : AddAnswer} → Adds s r a t → (add_number a ≡ 0 → ⊥) → add_responses a ≡ []
  -- an addition from bytes is the addition of the record that they are read as; where reading refuses them, or 12 meets the subject, it keeps every value
  pub from_bytes : {s t : Subject} {bytes : List ℕ} {a : AddAnswer} → AddsBytes s bytes a t → refusal_of_bytes new_form bytes ≡ 0 → Adds s (record_of_bytes new_form bytes) a t
  pub not_from_bytes : {s t : Subject} {bytes : List ℕ} {a : AddAnswer} → AddsBytes s bytes a t → in_range s ≡ true → (refusal_of_bytes new_form bytes ≡ 0 → ⊥) →
      (add_number a ≡ refusal_of_bytes new_form bytes) × (add_responses a ≡ []) × (t ≡ s)
  -- every day and duration read from a subject in range is in range
  pub outcome_read : {s : Subject} {o : Result OutcomeResult OutOfRange} → ReadsOutcome s o → in_range s ≡ true → ReadingWithin (reading_values o)
  -- 12 meets every other subject, the blank among them, before the record
  pub added_outside : {s t : Subject} {r : Record} {a : AddAnswer} → Adds s r a t → in_range s ≡ false → add_number a ≡ 12
  pub outcome_read_outside : {s : Subject} {o : Result OutcomeResult OutOfRange} → ReadsOutcome s o → in_range s ≡ false → reading_values o ≡ refused 12
  pub added_bytes_outside : {s t : Subject} {bytes : List ℕ} {a : AddAnswer} → AddsBytes s bytes a t → in_range s ≡ false →
      (add_number a ≡ 12) × (add_responses a ≡ []) × (t ≡ s)
  pub added_to_blank : {t : Subject} {r : Record} {a : AddAnswer} → Adds blank_subject r a t → (add_number a ≡ 12) × (t ≡ blank_subject)
  pub outcome_read_of_blank : {o : Result OutcomeResult OutOfRange} → ReadsOutcome blank_subject o → reading_values o ≡ refused 12
