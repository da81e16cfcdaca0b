-- Document 01, "Where a call stops": what the parts of adding promise each other. The calls' own promises are in Promises.
-- Assumes nothing.
use Rattle.std.specs.Prelude.{◌≡◌, Bool, true, false, List, [], ℕ, ltb, eqb}
use Rattle.laws.specs.Choice.{pick}
use Rattle.laws.specs.Refusals.{first}
use Rattle.laws.specs.Layout.{AreBytes}
use Rattle.dates.specs.declared.Date.{Date}
use Rattle.dates.specs.declared.StudyDay.{StudyDay}
use Rattle.dates.specs.Calendar.{date_exists}
use Rattle.records.specs.declared.Entry.{Entry}
use Rattle.records.specs.declared.Record.{Record}
use Rattle.records.specs.Entries.{date_of}
use Rattle.records.specs.Refusals.{refusal_of_record}
use Rattle.records.specs.Forms.{new_form, new_unit}
use Rattle.codec.specs.Reading.{refusal_of_bytes, record_of_bytes}
use Rattle.subject.specs.declared.Enrolment.{Enrolment}
use Rattle.subject.specs.declared.FollowUp.{FollowUp}
use Rattle.adding.specs.declared.Dated.{Dated}
use Rattle.adding.specs.declared.Step.{Step}
use Rattle.adding.specs.OneRecordMore.{held_day, entry_added}
use Rattle.adding.specs.Responses.{add_responses, lines_held}
use Rattle.adding.specs.Refusals.{add_number, refusals_of_later_held, refusals_of_entry_held}

-- a record value on its study day, with the number of its own refusal
pub record DatedAs (randomisation : Date) (r : Record) (x : Dated) : Type 0 where
  pub day : x.day ≡ held_day randomisation (date_of r.entry)
  pub own : add_number x.own ≡ refusal_of_record new_unit r
  pub found : x.found ≡ r

-- the same of bytes. The number is that of the bytes where the randomisation date exists; else 12 meets the subject before it
pub record DatedFrom (randomisation : Date) (bytes : List ℕ) (x : Dated) : Type 0 where
  pub own : date_exists randomisation ≡ true → add_number x.own ≡ refusal_of_bytes new_form bytes
  pub day : refusal_of_bytes new_form bytes ≡ 0 → x.day ≡ held_day randomisation (date_of (record_of_bytes new_form bytes).entry)
  pub found : refusal_of_bytes new_form bytes ≡ 0 → x.found ≡ record_of_bytes new_form bytes
  -- the type `u8` gives it
  pub octets : AreBytes bytes

-- a step by the number of its refusal, or 0: the responses, or none, and the next follow-up, or the same one
pub record StepsBy (e : Enrolment) (f : FollowUp) (day : StudyDay) (r : Entry) (marks : List Bool) (sizes : List ℕ) (n : ℕ) (x : Step) : Type 0 where
  pub answer : add_number x.answer ≡ n
  pub responses : add_responses x.answer ≡ pick (eqb n 0) (lines_held e f day r marks sizes) []
  pub left : x.followup ≡ pick (eqb n 0) (entry_added e f day r marks sizes) f

-- 12, then the number of the record's own, then that of 8 to 11, as the code has them
abbrev pub refusal_of_step_held : Bool → ℕ → ℕ → ℕ
refusal_of_step_held inside own n = pick inside (pick (eqb own 0) n own) 12

abbrev pub Steps : Bool → Enrolment → FollowUp → StudyDay → ℕ → Entry → List Bool → List ℕ → Step → Type 0
Steps inside e f day own r marks sizes x = StepsBy e f day r marks sizes (refusal_of_step_held inside own (first (refusals_of_entry_held e f day r marks))) x

-- of a therapy or a death, by the follow-up after it: 9, or 10 before the latest day; no responses
pub record StepsLater (inside : Bool) (f : FollowUp) (d : Dated) (next : FollowUp) (x : Step) : Type 0 where
  pub answer : add_number x.answer ≡ refusal_of_step_held inside (add_number d.own) (first (refusals_of_later_held f (ltb d.day.0 f.latestday.0) false))
  pub responses : add_responses x.answer ≡ []
  pub left : x.followup ≡ pick (eqb (add_number x.answer) 0) next f
