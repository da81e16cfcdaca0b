-- What adding answers, by value and from bytes, from what its parts promise each other.
-- Assumes nothing.
use mathlib.Core.Path.{◌≡◌, refl, sym, ◌∙◌, ap}
use mathlib.Core.Bool.{Bool, true, false, not}
use mathlib.Core.List.{List, ◌∷◌, ◌++◌}
use Prim.Native.Nat.{ℕ, ◌+◌, ◌-◌}
use native.Mathlib.Omega.{arith}
use lib.Dec.{leb, eqb}
use borrow.Author.Tests.{eqb-true}
use Rattle.std.specs.Prelude.{Result}
use Rattle.laws.specs.Choice.{both, pick}
use Rattle.laws.specs.Refusals.{◌when◌, first}
use Rattle.laws.proofs.Tests.{both_true}
use Rattle.laws.proofs.FirstRefusal.{none_of_both}
use Rattle.laws.specs.Layout.{AreBytes}
use Rattle.dates.specs.declared.Date.{Date}
use Rattle.dates.specs.declared.StudyDay.{StudyDay}
use Rattle.dates.specs.declared.StudyDayRefusal.{StudyDayRefusal}
use Rattle.dates.specs.Calendar.{date_exists, day_number}
use Rattle.dates.specs.Answers.{Counted, counted, refused, study_day_values, study_day_of}
use Rattle.records.specs.declared.Entry.TheVariants as E
use Rattle.records.specs.declared.Record.{Record}
use Rattle.records.specs.Entries.{date_of}
use Rattle.records.specs.Refusals.{refusals_of_fields, refusals_of_read}
use Rattle.records.proofs.NoOwnRefusal.{after_own}
use Rattle.records.specs.Forms.{new_form, new_unit}
use Rattle.codec.specs.declared.VisitFields.{VisitFields}
use Rattle.codec.specs.Reading.{raw_visit, refusals_of_raw, refusals_of_bytes, refusal_of_bytes, record_of_bytes, visit_fields_of, ReadsVisit}
use Rattle.codec.proofs.NoRefusalOfBytes.{bytes_numbered, after_reading}
use Rattle.codec.proofs.VisitFieldsRead.{found_date, is_visit}
use Rattle.subject.specs.declared.Subject.{Subject}
use Rattle.subject.specs.Range.{enrolment_in_range, follow_up_in_range, in_range}
use Rattle.adding.specs.declared.AddRefusal.{AddRefusal}
use Rattle.adding.specs.declared.AddResult.{AddResult}
use Rattle.adding.specs.declared.Dated.{Dated}
use Rattle.adding.specs.declared.Step.{Step}
use Rattle.adding.specs.OneRecordMore.{held_day, entry_added}
use Rattle.adding.specs.Responses.{add_responses, lines_held}
use Rattle.adding.specs.Refusals.{add_number, refusals_of_entry_held}
use Rattle.adding.specs.Promises.{study_day_held, refusals_of_record_held, Answered, refusal_of_adding_held, Adds, refusal_of_adding_bytes_held, AddsBytes}
use Rattle.adding.specs.Stepping.{DatedAs, DatedFrom, refusal_of_step_held, Steps}

-- ---- a date that was counted

-- with a randomisation date that exists, 3 is the date's
counted_refusal : (d randomisation : Date) → date_exists randomisation ≡ true → eqb (study_day_of d randomisation).refusal 3 ≡ not (date_exists d)
unfolding study_day_of
counted_refusal d randomisation e = rw e (go (date_exists d) (leb (day_number randomisation) (day_number d)))
  where
    go : (x y : Bool) → eqb (pick (both x true) (pick y (counted (day_number d - day_number randomisation + 1)) (refused 10)) (refused 3)).refusal 3 ≡ not x
    go true true = refl
    go true false = refl
    go false y = refl

-- ---- the own refusal of a visit

-- 3, then 4 and 5
by_date : (v : VisitFields) →
    refusals_of_raw new_unit (raw_visit v) ≡ refusals_of_fields new_unit (not (date_exists v.entry.date)) (E.Visit v.entry) v.measured v.sizes v.badstatus v.spare
unfolding refusals_of_read
by_date v = refl

-- ---- a record on its study day

module _ (randomisation : Date) (bytes : List ℕ) (v : VisitFields) (counted : Result StudyDay StudyDayRefusal) (day : StudyDay) (x : Dated) (w : ReadsVisit bytes v)
    (cq : study_day_values counted ≡ study_day_of v.entry.date randomisation) (dq : day.0 ≡ (study_day_values counted).day) where
  date_read : v.entry.date ≡ (visit_fields_of bytes).entry.date
  date_read = ap (λ f. f.entry.date) w.fields

  held : day ≡ held_day randomisation v.entry.date
  held = ap (λ (n : ℕ). record { 0 = n }) (dq ∙ ap (λ (c : Counted). c.day) cq)

  on_the_day : refusal_of_bytes new_form bytes ≡ 0 → day ≡ held_day randomisation (date_of (record_of_bytes new_form bytes).entry)
  on_the_day e = held ∙ ap (held_day randomisation) (date_read ∙ sym (found_date bytes e))

  pub visit_dated_lem : (own : Result (Unit {0}) AddRefusal) → v.isvisit ≡ true →
      add_number own ≡ first (refusals_of_fields new_unit (eqb (study_day_values counted).refusal 3) (E.Visit v.entry) v.measured v.sizes v.badstatus v.spare) →
      (x.day ≡ day) × (x.own ≡ own) × (x.found ≡ (raw_visit v).read) → DatedFrom randomisation bytes x
  visit_dated_lem own h oq q =
      let there = is_visit bytes (ap (λ f. f.isvisit) (sym w.fields) ∙ h) in
      let refusal : refusal_of_bytes new_form bytes ≡ first (refusals_of_raw new_unit (raw_visit v)) = there.refusal ∙ ap (λ f. first (refusals_of_raw new_unit (raw_visit f))) (sym w.fields) in
      record {
        own = λ e. ap add_number q.1 ∙ oq ∙ rw (cq, counted_refusal v.entry.date randomisation e) (ap first (sym (by_date v))) ∙ sym refusal;
        day = λ e. q.0 ∙ on_the_day e;
        found = λ e. q.2 ∙ ap (λ f. (raw_visit f).read) w.fields ∙ sym (there.found e);
        octets = w.octets;
      }

  pub other_dated : (x.day ≡ day) × (add_number x.own ≡ refusal_of_bytes new_form bytes) × (x.found ≡ record_of_bytes new_form bytes) × AreBytes bytes →
      DatedFrom randomisation bytes x
  other_dated q = record { own = λ e. q.1; day = λ e. q.0 ∙ on_the_day e; found = λ e. q.2; octets = w.octets }

-- ---- the calls

-- 12 as the first of a list
twelve_first : (inside : Bool) (n : ℕ) → pick inside n 12 ≡ pick (not inside) 12 n
twelve_first true n = refl
twelve_first false n = refl

-- a step on the record's own day, with its own refusal, answers for the record
module _ (s : Subject) (r : Record) (d : Dated) (x : Step) (y : AddResult) (inside : Bool) (iq : inside ≡ both (enrolment_in_range s.enrolment) (follow_up_in_range s.followup))
    (w : Steps inside s.enrolment s.followup d.day (add_number d.own) d.found.entry d.found.marks d.found.sizes x)
    (q : (y.answer ≡ x.answer) × (y.subject ≡ record { enrolment = s.enrolment; followup = x.followup })) where
  -- the step's number
  abbrev refusal : ℕ
  refusal = refusal_of_step_held inside (add_number d.own) (first (refusals_of_entry_held s.enrolment s.followup d.day d.found.entry d.found.marks))

  answered : (n : ℕ) → refusal ≡ n → (n ≡ 0 → (d.day ≡ study_day_held s r) × (d.found ≡ r)) → Answered s r n y.answer y.subject
  answered n e same = go (eqb n 0) refl
    where
      go : (b : Bool) → eqb n 0 ≡ b → Answered s r n y.answer y.subject
      go true z =
          let k = same (eqb-true n 0 z) in
          let none : eqb refusal 0 ≡ true = ap (λ (m : ℕ). eqb m 0) e ∙ z in
          record {
            answer = ap add_number q.0 ∙ w.answer ∙ e;
            responses =
                ap add_responses q.0 ∙ w.responses
                ∙ rw (none, z) (λ i. lines_held s.enrolment s.followup (k.0 i) (k.1 i).entry (k.1 i).marks (k.1 i).sizes);
            left =
                q.1
                ∙ ap (λ f. record { enrolment = s.enrolment; followup = f }) w.left
                ∙ rw (none, z)
                (λ i. record { enrolment = s.enrolment; followup = entry_added s.enrolment s.followup (k.0 i) (k.1 i).entry (k.1 i).marks (k.1 i).sizes });
          }
      go false z =
          let met : eqb refusal 0 ≡ false = ap (λ (m : ℕ). eqb m 0) e ∙ z in
          record {
            answer = ap add_number q.0 ∙ w.answer ∙ e;
            responses = ap add_responses q.0 ∙ w.responses ∙ rw (met, z);
            left = q.1 ∙ ap (λ f. record { enrolment = s.enrolment; followup = f }) w.left ∙ rw (met, z);
          }

  inside_is : inside ≡ in_range s
  unfolding in_range
  inside_is = iq

  pub value_added : DatedAs s.enrolment.randomisation r d → Adds s r y.answer y.subject
  unfolding refusal_of_adding_held
  value_added v =
      answered (refusal_of_adding_held s r)
      ((λ i. refusal_of_step_held (inside_is i) (v.own i) (first (refusals_of_entry_held s.enrolment s.followup (v.day i) (v.found i).entry (v.found i).marks)))
      ∙ twelve_first (in_range s) _ ∙ ap (pick (not (in_range s)) 12) (sym (after_own new_unit r (refusals_of_record_held s r))))
      (λ z. (v.day, v.found))

-- from bytes
module _ (s : Subject) (bytes : List ℕ) (d : Dated) (x : Step) (y : AddResult) (inside : Bool) (iq : inside ≡ both (enrolment_in_range s.enrolment) (follow_up_in_range s.followup))
    (w : Steps inside s.enrolment s.followup d.day (add_number d.own) d.found.entry d.found.marks d.found.sizes x)
    (q : (y.answer ≡ x.answer) × (y.subject ≡ record { enrolment = s.enrolment; followup = x.followup }))
    (v : DatedFrom s.enrolment.randomisation bytes d) where
  abbrev r : Record
  r = record_of_bytes new_form bytes

  -- where no refusal meets the bytes, the record and its day are theirs
  same : refusal_of_bytes new_form bytes ≡ 0 → (d.day ≡ study_day_held s r) × (d.found ≡ r)
  same e = (v.day e, v.found e)

  -- 8 to 11 of the record found, on its day
  abbrev behind : ℕ
  behind = first (refusals_of_entry_held s.enrolment s.followup d.day d.found.entry d.found.marks)

  own_then : (own : ℕ) → own ≡ refusal_of_bytes new_form bytes → pick (eqb own 0) behind own ≡ pick (eqb (refusal_of_bytes new_form bytes) 0) (first (refusals_of_record_held s r)) (refusal_of_bytes new_form bytes)
  own_then own e = rw e (go (eqb (refusal_of_bytes new_form bytes) 0) refl)
    where
      go : (b : Bool) → eqb (refusal_of_bytes new_form bytes) 0 ≡ b → pick b behind (refusal_of_bytes new_form bytes) ≡ pick b (first (refusals_of_record_held s r)) (refusal_of_bytes new_form bytes)
      go true z = let k = same (eqb-true (refusal_of_bytes new_form bytes) 0 z) in λ i. first (refusals_of_entry_held s.enrolment s.followup (k.0 i) (k.1 i).entry (k.1 i).marks)
      go false z = refl

  refusal_from : (b : Bool) → inside ≡ b → refusal_of_step_held b (add_number d.own) behind ≡ refusal_of_step_held b (refusal_of_bytes new_form bytes) (first (refusals_of_record_held s r))
  unfolding enrolment_in_range
  refusal_from false h = refl
  refusal_from true h =
      let range = both_true (enrolment_in_range s.enrolment) (follow_up_in_range s.followup) (sym iq ∙ h) in
      own_then (add_number d.own) (v.own (both_true (date_exists s.enrolment.randomisation) _ range.0).0)

  number : refusal_of_step_held inside (add_number d.own) behind ≡ refusal_of_adding_bytes_held s bytes
  unfolding refusal_of_adding_bytes_held in_range
  number =
      refusal_from inside refl
      ∙ ap (λ (b : Bool). refusal_of_step_held b (refusal_of_bytes new_form bytes) (first (refusals_of_record_held s r))) iq
      ∙ twelve_first (in_range s) _
      ∙ ap (pick (not (in_range s)) 12) (sym (after_reading new_form bytes (refusals_of_record_held s r)))

  -- no refusal from bytes, so none of the bytes
  none_of_bytes : refusal_of_adding_bytes_held s bytes ≡ 0 → refusal_of_bytes new_form bytes ≡ 0
  unfolding refusal_of_adding_bytes_held
  none_of_bytes z = go (in_range s) z
    where
      go : (b : Bool) → first (12 when not b ∷ refusals_of_bytes new_form bytes ++ refusals_of_record_held s r) ≡ 0 → refusal_of_bytes new_form bytes ≡ 0
      go true e = ((none_of_both (refusals_of_bytes new_form bytes) (refusals_of_record_held s r) (bytes_numbered new_form bytes)).0 e).0
      go false e = absurd (let w : ⊥ = omega arith in w)

  pub bytes_added : AddsBytes s bytes y.answer y.subject
  bytes_added = record { added = answered s r d x y inside iq w q (refusal_of_adding_bytes_held s bytes) number (λ z. same (none_of_bytes z)); octets = v.octets }
