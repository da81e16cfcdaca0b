-- Document 01, "Where a call stops", 1 to 5 and 7, and "Outcome": opening, what is held after a baseline alone, and the blank beside a refusal.
-- Assumes nothing.
use Rattle.std.specs.Prelude.{◌≡◌, ℕ, eqb, Bool, false, List, [], ◌∷◌, ◌++◌, Result, Ok, Err, None}
use Rattle.laws.specs.Choice.{pick}
use Rattle.laws.specs.Refusals.{◌when◌, first}
use Rattle.dates.specs.declared.StudyDay.{StudyDay}
use Rattle.dates.specs.Laws.{ymd}
use Rattle.records.specs.declared.BaselineEntry.{BaselineEntry}
use Rattle.records.specs.declared.Entry.{Entry}
use Rattle.records.specs.declared.Entry.TheVariants as E
use Rattle.records.specs.declared.Record.{Record}
use Rattle.records.specs.Entries.{Five}
use Rattle.records.specs.Refusals.{own_number}
use Rattle.laws.specs.Layout.{AreBytes}
use Rattle.records.specs.Forms.{new_form, new_unit}
use Rattle.codec.specs.Reading.{refusals_of_bytes, record_of_bytes}
use Rattle.response_rules.specs.Inputs.{disease_of}
use Rattle.response_rules.specs.Nadir.{earlier_of}
use Rattle.outcome_rules.specs.declared.BestResponse.TheVariants as B
use Rattle.outcome_rules.specs.Adding.{not_baseline, refusals_of_opening, refusal_of_opening}
use Rattle.subject.specs.declared.OpenRefusal.{OpenRefusal}
use Rattle.subject.specs.declared.OpenRefusal.TheVariants as O
use Rattle.subject.specs.declared.EventDays.{EventDays}
use Rattle.subject.specs.declared.CountingVisits.{CountingVisits}
use Rattle.subject.specs.declared.Subject.{Subject}

-- no progression and no evaluable visit; v is the day given
abbrev pub no_visits : StudyDay → EventDays
no_visits day = record { progression = None; lastvisit = day; lastevaluable = None }

abbrev pub no_counting_visits : CountingVisits
no_counting_visits = record { firstresponse = None; crstart = None; best = B.NE }

-- the latest day and v start at 1
unfoldable pub subject_of_baseline : BaselineEntry → List Bool → List ℕ → Subject
subject_of_baseline b nodes sizes =
    record {
      enrolment = record { randomisation = b.date; nontarget = b.nontarget; disease = disease_of b nodes sizes };
      followup =
          record {
            earlier = earlier_of (disease_of b nodes sizes) [];
            latestday = record { 0 = 1 };
            therapyrecorded = false;
            deathday = None;
            event = no_visits (record { 0 = 1 });
            counting = no_counting_visits;
          };
    }

-- everything zero, so that 12 meets it
unfoldable pub blank_subject : Subject
blank_subject =
    record {
      enrolment =
          record {
            randomisation = ymd 0 0 0;
            nontarget = false;
            disease = record { assessed = false; count = 0; nodes = false ∷ false ∷ false ∷ false ∷ false ∷ []; baselinesum = 0 };
          };
      followup =
          record {
            earlier = record { nadir = 0 };
            latestday = record { 0 = 0 };
            therapyrecorded = false;
            deathday = None;
            event = no_visits (record { 0 = 0 });
            counting = no_counting_visits;
          };
    }

-- the number of each case in document 01; 0 where no refusal meets
abbrev pub open_number : Result (Unit {0}) OpenRefusal → ℕ
open_number (Ok u) = 0
open_number (Err O.WrongLength) = 1
open_number (Err O.NoSuchKind) = 2
open_number (Err (O.Own own)) = own_number own
open_number (Err O.NotBaseline) = 7

-- the subject that a baseline opens; any other record is refused
abbrev pub subject_of_entry : Entry → List Bool → List ℕ → Subject
subject_of_entry (E.Baseline b) marks sizes = subject_of_baseline b marks sizes
subject_of_entry (E.Visit v) marks sizes = blank_subject
subject_of_entry (E.Therapy d) marks sizes = blank_subject
subject_of_entry (E.Death d) marks sizes = blank_subject

-- opening with a record that none of its own refusals meets
pub record OpensChecked (e : Entry) (marks : List Bool) (sizes : List ℕ) (a : Result (Unit {0}) OpenRefusal) (s : Subject) : Type 0 where
  pub answer : open_number a ≡ first (7 when not_baseline e ∷ [])
  pub made : s ≡ subject_of_entry e marks sizes

-- beside a refusal one fixed blank
unfoldable pub opened_subject : Record → Subject
opened_subject r = pick (eqb (refusal_of_opening new_unit r) 0) (subject_of_entry r.entry r.marks r.sizes) blank_subject

-- the first of 3 to 5 and 7, or the subject; and what the declared type of a record gives of its arrays
pub record Opens (r : Record) (a : Result (Unit {0}) OpenRefusal) (s : Subject) : Type 0 where
  pub answer : open_number a ≡ refusal_of_opening new_unit r
  pub made : s ≡ opened_subject r
  pub five : Five r

-- from bytes: 1 and 2 before these; the one record that stands beside a refusal of bytes opens no subject
pub record OpensBytes (s : List ℕ) (a : Result (Unit {0}) OpenRefusal) (t : Subject) : Type 0 where
  pub answer : open_number a ≡ first (refusals_of_bytes new_form s ++ refusals_of_opening new_unit (record_of_bytes new_form s))
  pub made : t ≡ opened_subject (record_of_bytes new_form s)
  -- the type `u8` gives it
  pub octets : AreBytes s
