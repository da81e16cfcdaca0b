-- What the code answers, from what it found: `search` finds the premises by itself.
-- Assumes nothing.
use mathlib.Core.Path.{◌≡◌, ◌∙◌, refl, sym, ap, subst}
use mathlib.Core.Bool.{Bool, false}
use mathlib.Core.List.{List, [], ◌∷◌}
use Prim.Native.Nat.{ℕ}
use lib.Dec.{eqb}
use Rattle.std.specs.Prelude.{not, Result, Ok, Err, is_err, None}
use Rattle.dates.specs.Laws.{ymd}
use Rattle.records.specs.declared.BaselineEntry.{BaselineEntry}
use Rattle.response.specs.declared.BaselineAnswer.{BaselineAnswer}
use Rattle.response.specs.Judging.{JudgesBaseline}
use Rattle.subject.specs.declared.EventDays.{EventDays}
use Rattle.subject.specs.declared.CountingVisits.{CountingVisits}
use Rattle.subject.specs.Opening.{no_visits, no_counting_visits, subject_of_baseline, blank_subject, open_number, subject_of_entry, OpensChecked, opened_subject, Opens, OpensBytes}
use Rattle.laws.specs.Choice.{pick}
use Rattle.laws.specs.Refusals.{◌when◌, first}
use Rattle.records.specs.declared.VisitEntry.{VisitEntry}
use Rattle.records.specs.declared.Entry.{Entry}
use Rattle.records.specs.declared.Entry.TheVariants as E
use Rattle.records.specs.declared.Record.{Record}
use Rattle.records.specs.Entries.{Five}
use Rattle.records.specs.Refusals.{own_number, check_number, refusals_of_read, refusal_of_record}
use Rattle.records.specs.declared.OwnRefusal.{OwnRefusal}
use Rattle.records.proofs.NoOwnRefusal.{own_not_0, after_own}
use Rattle.dates.specs.Calendar.{date_exists}
use Rattle.records.specs.Forms.{new_form, new_unit}
use Rattle.codec.specs.declared.ReadRefusal.{ReadRefusal}
use Rattle.codec.specs.declared.ReadRefusal.TheVariants as R
use Rattle.codec.specs.declared.ReadResult.{ReadResult}
use Rattle.codec.specs.Reading.{read_number, refusal_of_bytes, record_of_bytes, blank_record, Reads}
use Rattle.codec.proofs.NoRefusalOfBytes.{after_reading, found_fine}
use Rattle.outcome_rules.specs.Adding.{not_baseline, refusals_of_opening, refusal_of_opening}
use Rattle.subject.specs.declared.Subject.{Subject}
use Rattle.subject.specs.declared.OpenRefusal.{OpenRefusal}
use Rattle.subject.specs.declared.OpenRefusal.TheVariants as N
use Rattle.subject.specs.declared.OpenResult.{OpenResult}

-- ---- whole subjects

pub blank_made : (e : EventDays) (c : CountingVisits) → e ≡ no_visits (record { 0 = 0 }) → c ≡ no_counting_visits →
    record {
      enrolment =
          record {
            randomisation = ymd 0 0 0;
            nontarget = false;
            disease = record { assessed = false; count = 0; nodes = false ∷ false ∷ false ∷ false ∷ false ∷ []; baselinesum = 0 };
          };
      followup = record { earlier = record { nadir = 0 }; latestday = record { 0 = 0 }; therapyrecorded = false; deathday = None; event = e; counting = c };
    }
    ≡ blank_subject
unfolding blank_subject
blank_made e c p q = rw (p, q)

pub first_made : (b : BaselineEntry) (nodes : List Bool) (sizes : List ℕ) (a : BaselineAnswer) (e : EventDays) (c : CountingVisits) →
    JudgesBaseline b nodes sizes a → e ≡ no_visits (record { 0 = 1 }) → c ≡ no_counting_visits →
    record {
      enrolment = record { randomisation = b.date; nontarget = b.nontarget; disease = a.disease };
      followup = record { earlier = a.after; latestday = record { 0 = 1 }; therapyrecorded = false; deathday = None; event = e; counting = c };
    }
    ≡ subject_of_baseline b nodes sizes
unfolding subject_of_baseline
first_made b nodes sizes a e c j p q = rw (p, q, j.disease, j.after)

-- ---- opening

-- 0 exactly where a subject was opened
pub number_by_err : (answer : Result (Unit {0}) OpenRefusal) → eqb (open_number answer) 0 ≡ not (is_err answer)
number_by_err (Ok u) = refl
number_by_err (Err N.WrongLength) = refl
number_by_err (Err N.NoSuchKind) = refl
number_by_err (Err (N.Own own)) = own_not_0 own
number_by_err (Err N.NotBaseline) = refl

-- 7 stands beside the blank
only_baseline : (e : Entry) (marks : List Bool) (sizes : List ℕ) → subject_of_entry e marks sizes ≡ pick (eqb (first (7 when not_baseline e ∷ [])) 0) (subject_of_entry e marks sizes) blank_subject
only_baseline (E.Baseline b) marks sizes = refl
only_baseline (E.Visit v) marks sizes = refl
only_baseline (E.Therapy d) marks sizes = refl
only_baseline (E.Death d) marks sizes = refl

-- what is refused by 7
pub checked_visit : (e : Entry) (marks : List Bool) (sizes : List ℕ) (x : OpenResult) → (x.answer ≡ Err N.NotBaseline) × (x.subject ≡ blank_subject) → (v : VisitEntry) →
    e ≡ E.Visit v → OpensChecked e marks sizes x.answer x.subject
checked_visit e marks sizes x q v k = record { answer = rw (q.0, k); made = q.1 ∙ rw k }

-- a record that none of its own refusals meets
opened_checked : (r : Record) (a : Result (Unit {0}) OpenRefusal) (t : Subject) → refusal_of_record new_unit r ≡ 0 → OpensChecked r.entry r.marks r.sizes a t →
    (open_number a ≡ refusal_of_opening new_unit r) × (t ≡ opened_subject r)
unfolding opened_subject refusals_of_opening
opened_checked r a t passed q =
    let behind : refusal_of_opening new_unit r ≡ first (7 when not_baseline r.entry ∷ []) = after_own new_unit r _ ∙ rw passed in
    (q.answer ∙ sym behind, q.made ∙ rw behind (only_baseline r.entry r.marks r.sizes))

module _ (r : Record) (five : Five r) (c : Result (Unit {0}) OwnRefusal) (e : check_number c ≡ refusal_of_record new_unit r) (x : OpenResult) where
  pub opens_refused : (own : OwnRefusal) → c ≡ Err own → (x.answer ≡ Err (N.Own own)) × (x.subject ≡ blank_subject) → Opens r x.answer x.subject
  unfolding opened_subject refusals_of_opening
  opens_refused own p q =
      let checked : refusal_of_record new_unit r ≡ own_number own = sym e ∙ ap check_number p in
      let met : refusal_of_opening new_unit r ≡ own_number own = after_own new_unit r _ ∙ rw (checked, own_not_0 own) in
      record { answer = ap open_number q.0 ∙ sym met; made = q.1 ∙ rw (met, own_not_0 own); five = five }

  pub opens_passed : c ≡ Ok tt → OpensChecked r.entry r.marks r.sizes x.answer x.subject → Opens r x.answer x.subject
  opens_passed p q =
      let opened = opened_checked r x.answer x.subject (sym e ∙ ap check_number p) q in
      record { answer = opened.0; made = opened.1; five = five }

-- ---- opening from bytes

-- no subject is opened with the record that stands beside a refusal of bytes
blank_opens_none : opened_subject blank_record ≡ blank_subject
unfolding opened_subject refusals_of_opening refusals_of_read date_exists
blank_opens_none = refl

refusal_not_0 : (e : ReadRefusal) → eqb (read_number (Err e)) 0 ≡ false
refusal_not_0 R.WrongLength = refl
refusal_not_0 R.NoSuchKind = refl
refusal_not_0 (R.Own own) = own_not_0 own

module _ (s : List ℕ) (read : ReadResult) (w : Reads s read) (x : OpenResult) where
  pub bytes_refused : (e : ReadRefusal) (a : OpenRefusal) → read.answer ≡ Err e → open_number (Err a) ≡ read_number (Err e) →
      (x.answer ≡ Err a) × (x.subject ≡ blank_subject) → OpensBytes s x.answer x.subject
  unfolding record_of_bytes
  bytes_refused e a p n q =
      let met : refusal_of_bytes new_form s ≡ read_number (Err e) = sym w.answer ∙ ap read_number p in
      record {
        answer = ap open_number q.0 ∙ n ∙ sym (after_reading new_form s _ ∙ rw (met, refusal_not_0 e));
        made = q.1 ∙ rw (met, refusal_not_0 e) (sym blank_opens_none);
        octets = w.octets;
      }

  pub bytes_short : read.answer ≡ Err R.WrongLength → (x.answer ≡ Err N.WrongLength) × (x.subject ≡ blank_subject) → OpensBytes s x.answer x.subject
  bytes_short p q = bytes_refused R.WrongLength N.WrongLength p refl q

  pub bytes_read : read.answer ≡ Ok tt → OpensChecked read.found.entry read.found.marks read.found.sizes x.answer x.subject →
      OpensBytes s x.answer x.subject
  bytes_read p q =
      let r = record_of_bytes new_form s in
      let none : refusal_of_bytes new_form s ≡ 0 = sym w.answer ∙ ap read_number p in
      let checked : OpensChecked r.entry r.marks r.sizes x.answer x.subject =
      subst (λ (y : Record). OpensChecked y.entry y.marks y.sizes x.answer x.subject) w.found q in
      let opened = opened_checked r x.answer x.subject (found_fine new_form s none) checked in
      record { answer = opened.0 ∙ sym (after_reading new_form s (refusals_of_opening new_unit r) ∙ rw none); made = opened.1; octets = w.octets }
