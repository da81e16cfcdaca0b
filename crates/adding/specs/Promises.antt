-- Document 01, "Contracts" a and "Where a call stops": what adding promises, for every record value, every byte string and every subject.
-- Assumes nothing.
use Rattle.std.specs.Prelude.{◌≡◌, not, List, [], ◌∷◌, ◌++◌, ℕ, eqb}
use Rattle.laws.specs.Choice.{pick}
use Rattle.laws.specs.Refusals.{Refusal, ◌when◌, first}
use Rattle.laws.specs.Layout.{AreBytes}
use Rattle.dates.specs.declared.StudyDay.{StudyDay}
use Rattle.records.specs.declared.Record.{Record}
use Rattle.records.specs.Entries.{date_of}
use Rattle.records.specs.Refusals.{refusals_of_record}
use Rattle.records.specs.Forms.{new_form, new_unit}
use Rattle.codec.specs.Reading.{refusals_of_bytes, record_of_bytes}
use Rattle.outcome_rules.specs.VisitLines.{VisitLine}
use Rattle.subject.specs.declared.Subject.{Subject}
use Rattle.subject.specs.Range.{in_range}
use Rattle.adding.specs.Refusals.{AddAnswer}
use Rattle.adding.specs.OneRecordMore.{held_day, entry_added}
use Rattle.adding.specs.Responses.{add_responses, lines_held}
use Rattle.adding.specs.Refusals.{add_number, refusals_of_entry_held}

-- the study day of a record, and on it 8 to 11, the responses and the subject after it
abbrev pub study_day_held : Subject → Record → StudyDay
study_day_held s r = held_day s.enrolment.randomisation (date_of r.entry)

abbrev pub refusals_of_record_held : Subject → Record → List Refusal
refusals_of_record_held s r = refusals_of_entry_held s.enrolment s.followup (study_day_held s r) r.entry r.marks

abbrev pub responses_held : Subject → Record → List VisitLine
responses_held s r = lines_held s.enrolment s.followup (study_day_held s r) r.entry r.marks r.sizes

abbrev pub added_held : Subject → Record → Subject
added_held s r =
    record { enrolment = s.enrolment; followup = entry_added s.enrolment s.followup (study_day_held s r) r.entry r.marks r.sizes }

-- by the number of the refusal, or 0: beside a refusal no responses, and the subject keeps every value
abbrev pub responses_by : Subject → Record → ℕ → List VisitLine
responses_by s r n = pick (eqb n 0) (responses_held s r) []

abbrev pub subject_by : Subject → Record → ℕ → Subject
subject_by s r n = pick (eqb n 0) (added_held s r) s

pub record Answered (s : Subject) (r : Record) (n : ℕ) (a : AddAnswer) (t : Subject) : Type 0 where
  pub answer : add_number a ≡ n
  pub responses : add_responses a ≡ responses_by s r n
  pub left : t ≡ subject_by s r n

-- 12 before the record, then 3 to 5, then 8 to 11; 0 for none
unfoldable pub refusal_of_adding_held : Subject → Record → ℕ
refusal_of_adding_held s r = first (12 when not (in_range s) ∷ refusals_of_record new_unit r ++ refusals_of_record_held s r)

abbrev pub Adds : Subject → Record → AddAnswer → Subject → Type 0
Adds s r a t = Answered s r (refusal_of_adding_held s r) a t

-- 12 before the bytes, then 1 to 5, then 8 to 11; 0 for none
unfoldable pub refusal_of_adding_bytes_held : Subject → List ℕ → ℕ
refusal_of_adding_bytes_held s bytes = first (12 when not (in_range s) ∷ refusals_of_bytes new_form bytes ++ refusals_of_record_held s (record_of_bytes new_form bytes))

pub record AddsBytes (s : Subject) (bytes : List ℕ) (a : AddAnswer) (t : Subject) : Type 0 where
  pub added : Answered s (record_of_bytes new_form bytes) (refusal_of_adding_bytes_held s bytes) a t
  -- the type `u8` gives it
  pub octets : AreBytes bytes
