-- Taking the records of a file one by one follows the list of the records: each is refused as the list refuses it, or the subject is what is held after
-- the longer list.
-- Assumes nothing.
use mathlib.Core.Path.{◌≡◌, refl, sym, ◌∙◌, ap}
use mathlib.Core.Bool.{Bool, true, false}
use mathlib.Core.List.{List, [], ◌∷◌, ◌++◌}
use mathlib.Core.Logic.{◌⊎◌, inl, inr}
use Prim.Native.Nat.{ℕ}
use native.Mathlib.Omega.{arith}
use lib.Dec.{eqb}
use borrow.Author.Tests.{eq-eqb, eqb-true, eqb-false}
use Rattle.std.specs.Prelude.{Result, Result, Ok}
use Rattle.laws.specs.Choice.{pick}
use Rattle.laws.specs.Refusals.{Refusal, ◌when◌, first}
use Rattle.laws.proofs.FirstRefusal.{none_of_both}
use Rattle.dates.specs.declared.Date.{Date}
use Rattle.records.specs.declared.BaselineEntry.{BaselineEntry}
use Rattle.records.specs.declared.Entry.{Entry}
use Rattle.records.specs.declared.Entry.TheVariants as E
use Rattle.records.specs.declared.Record.{Record}
use Rattle.records.proofs.NoOwnRefusal.{none_after_own}
use Rattle.records.specs.Forms.{new_form, new_unit}
use Rattle.codec.specs.Reading.{refusals_of_bytes, refusal_of_bytes, record_of_bytes}
use Rattle.codec.proofs.NoRefusalOfBytes.{bytes_numbered, after_reading}
use Rattle.codec.proofs.FiveMarksAndSizes.{found_five}
use Rattle.outcome_rules.specs.Values.{Outcome, day_value}
use Rattle.outcome_rules.specs.StudyRecords.{Baseline, baseline, fields_pass, entry_on_study_day, on_study_days}
use Rattle.outcome_rules.specs.LawfulLists.{Past}
use Rattle.outcome_rules.specs.Course.{course, counting_visits}
use Rattle.outcome_rules.specs.Duration.{first_response}
use Rattle.outcome_rules.specs.VisitLines.{VisitLine, lines_of_record, visit_lines, lines_in_order}
use Rattle.outcome_rules.specs.Adding.{not_baseline, refusals_of_opening, refusals_of_adding, refusal_of_adding}
use Rattle.outcome_rules.proofs.RefusalsOfAdding.{own_passed}
use Rattle.subject.specs.declared.Subject.{Subject}
use Rattle.subject.specs.Summary.{counting_of, summary}
use Rattle.subject.proofs.HeldFollowsVisits.{day_of_maybe}
use Rattle.subject.specs.declared.OpenRefusal.{OpenRefusal}
use Rattle.subject.specs.Opening.{open_number, subject_of_entry, opened_subject, Opens, OpensBytes}
use Rattle.subject.proofs.HeldAfterBaseline.{opening_follows}
use Rattle.adding.specs.Refusals.{AddAnswer}
use Rattle.adding.specs.Responses.{add_responses}
use Rattle.adding.specs.Refusals.{add_number}
use Rattle.adding.specs.Promises.{Adds, AddsBytes}
use Rattle.outcome.specs.ReadingOutcome.{pfs_held, duration_held, outcome_of, outcome, reading_values, ReadsOutcome}
use Rattle.outcome.proofs.CallsFollowRecords.{pfs_held_lem, duration_held_lem, outcome_held}
use Rattle.outcome.proofs.CallsInRange.{calls_in_range, reading_in_range}
use Rattle.outcome.proofs.Demand3.{opened_with, base, on_day_lem, past, past_one_more, Held, number, responses, one_more_held}
use Rattle.file.specs.Verdict.{refusal_of_part, Verdict, refused, accepted, unless_refused, starts_late, verdict_on, file_values}
use Rattle.file.specs.Ending.{verdict_held, EndsFile}
use Rattle.outcome.specs.declared.OutcomeResult.{OutcomeResult}
use Rattle.outcome.specs.declared.OutOfRange.{OutOfRange}
use Rattle.file.specs.declared.FileRefusal.{FileRefusal}

-- the subject is what is held after the records, which open with a baseline that 4 and 5 do not meet
pub record Taken (rs : List Record) (s : Subject) : Type 0 where
  pub entry : BaselineEntry
  pub marks : List Bool
  pub sizes : List ℕ
  pub later : List Record
  pub opens : rs ≡ opened_with entry marks sizes ∷ later
  pub held : Held entry marks sizes later s
  pub passes : fields_pass new_unit (baseline (base entry marks sizes)) ≡ true

-- one record more that adding accepts
pub taken_more : {rs : List Record} {s t : Subject} {a : AddAnswer} (h : Taken rs s) (r : Record) → Adds s r a t →
    eqb (refusal_of_adding new_unit (opened_with h.entry h.marks h.sizes ∷ h.later) r) 0 ≡ true → Taken (rs ++ (r ∷ [])) t
taken_more h r added accepts =
    record {
      entry = h.entry;
      marks = h.marks;
      sizes = h.sizes;
      later = h.later ++ (r ∷ []);
      opens = ap (λ (l : List Record). l ++ (r ∷ [])) h.opens;
      held = one_more_held h.entry h.marks h.sizes h.later r h.held added accepts;
      passes = h.passes;
    }

-- no refusal: reading refuses nothing, and none after it meets
pub none_read : (part : List ℕ) (others : List Refusal) → first (refusals_of_bytes new_form part ++ others) ≡ 0 → (refusal_of_bytes new_form part ≡ 0) × (first others ≡ 0)
none_read part others e = (none_of_both (refusals_of_bytes new_form part) others (bytes_numbered new_form part)).0 e

-- ---- the first record

-- alone it has no line
pub alone : (d : Date) (e : Entry) (marks : List Bool) (sizes : List ℕ) → lines_in_order (entry_on_study_day new_unit d e marks sizes ∷ []) ≡ []
alone d (E.Baseline b) marks sizes = refl
alone d (E.Visit v) marks sizes = refl
alone d (E.Therapy x) marks sizes = refl
alone d (E.Death x) marks sizes = refl

pub opened_taken : {a : Result (Unit {0}) OpenRefusal} {s : Subject} (e : Entry) (marks : List Bool) (sizes : List ℕ) → Opens (record { entry = e; sizes = sizes; marks = marks }) a s →
    open_number a ≡ 0 → first (7 when not_baseline e ∷ []) ≡ 0 → Taken (record { entry = e; sizes = sizes; marks = marks } ∷ []) s
unfolding opened_subject refusals_of_opening
opened_taken (E.Baseline x) marks sizes w z n =
    let made : opened_subject (opened_with x marks sizes) ≡ subject_of_entry (E.Baseline x) marks sizes = rw (← w.answer, z) in
    record {
      entry = x;
      marks = marks;
      sizes = sizes;
      later = [];
      opens = refl;
      held = record { same = w.made ∙ made ∙ opening_follows x marks sizes; inside = calls_in_range.opened w z; lawfully = refl };
      passes = own_passed x.date (opened_with x marks sizes) w.five ((none_after_own new_unit (opened_with x marks sizes) _).0 (sym w.answer ∙ z)).0;
    }
opened_taken (E.Visit v) marks sizes w z n = absurd (let f : ⊥ = omega arith in f)
opened_taken (E.Therapy d) marks sizes w z n = absurd (let f : ⊥ = omega arith in f)
opened_taken (E.Death d) marks sizes w z n = absurd (let f : ⊥ = omega arith in f)

pub first_taken : (part : List ℕ) (a : Result (Unit {0}) OpenRefusal) (s : Subject) → OpensBytes part a s → open_number a ≡ 0 → Taken (record_of_bytes new_form part ∷ []) s
unfolding refusals_of_opening
first_taken part a s w z =
    let r = record_of_bytes new_form part in
    let none = (none_read part (refusals_of_opening new_unit r) (sym w.answer ∙ z)).1 in
    let opened : Opens r (Ok tt) s = record { answer = sym none; made = w.made; five = found_five new_form part } in
    opened_taken r.entry r.marks r.sizes opened refl
    ((none_after_own new_unit r _).0 none).1

-- ---- a later record

module _ {rs : List Record} {s t : Subject} {a : AddAnswer} (h : Taken rs s) (r : Record) (w : Adds s r a t) where
  pub adding : add_number a ≡ refusal_of_adding new_unit rs r
  adding = number h.entry h.marks h.sizes h.later r h.held w ∙ ap (λ (l : List Record). refusal_of_adding new_unit l r) (sym h.opens)

  pub accepts : add_number a ≡ 0 → eqb (refusal_of_adding new_unit (opened_with h.entry h.marks h.sizes ∷ h.later) r) 0 ≡ true
  accepts z = eq-eqb _ 0 (sym (number h.entry h.marks h.sizes h.later r h.held w) ∙ z)

  pub more : add_number a ≡ 0 → Taken (rs ++ (r ∷ [])) t
  more z = taken_more h r w (accepts z)

  -- the lines of the records with one more are those before it and the responses answered
  pub lines_more : add_number a ≡ 0 → lines_in_order (on_study_days new_unit (rs ++ (r ∷ []))) ≡ lines_in_order (on_study_days new_unit rs) ++ add_responses a
  lines_more z =
      let b = base h.entry h.marks h.sizes in
      let p = past h.entry h.marks h.sizes h.later in
      let next = on_day_lem h.entry h.marks h.sizes r in
      let answered : add_responses a ≡ lines_of_record b p next = responses h.entry h.marks h.sizes h.later r h.held w ∙ rw (accepts z) in
      ap (λ (l : List Record). lines_in_order (on_study_days new_unit (l ++ (r ∷ [])))) h.opens
      ∙ ap (visit_lines b) (past_one_more h.entry h.marks h.sizes h.later r)
      ∙ ap (λ (l : List VisitLine). visit_lines b p ++ l) (sym answered)
      ∙ ap (λ (l : List Record). lines_in_order (on_study_days new_unit l) ++ add_responses a) (sym h.opens)

module _ {rs : List Record} {s t : Subject} {part : List ℕ} {a : AddAnswer} (h : Taken rs s) (w : AddsBytes s part a t) where
  abbrev r : Record
  r = record_of_bytes new_form part

  read_then : add_number a ≡ first (refusals_of_bytes new_form part ++ refusals_of_adding new_unit rs r)
  read_then = go (eqb (refusal_of_bytes new_form part) 0) refl ∙ sym (after_reading new_form part (refusals_of_adding new_unit rs r))
    where
      go : (b : Bool) → eqb (refusal_of_bytes new_form part) 0 ≡ b → add_number a ≡ pick b (refusal_of_adding new_unit rs r) (refusal_of_bytes new_form part)
      go true q = adding h r (calls_in_range.from_bytes w (eqb-true (refusal_of_bytes new_form part) 0 q))
      go false q = (calls_in_range.not_from_bytes w h.held.inside (eqb-false (refusal_of_bytes new_form part) 0 q)).0

  pub later_number : add_number a ≡ refusal_of_part new_form rs part
  later_number = read_then ∙ rw h.opens

  -- done, so that the bytes were read
  pub later_added : add_number a ≡ 0 → Adds s r a t
  later_added z = calls_in_range.from_bytes w (none_read part (refusals_of_adding new_unit rs r) (sym read_then ∙ z)).0

-- ---- behind the last record

-- 14, or the outcome of a reading
abbrev pub EndsBy : Verdict → ℕ → Result OutcomeResult OutOfRange → Type 0
EndsBy v last q = (v ≡ refused 14 last) ⊎ ((o : Outcome) × (reading_values q ≡ outcome o) × (v ≡ accepted o))

module _ {rs : List Record} {s : Subject} (t : Taken rs s) (last : ℕ) where
  abbrev b : Baseline
  b = base t.entry t.marks t.sizes

  abbrev p : Past
  p = past t.entry t.marks t.sizes t.later

  abbrev held : Subject
  held = summary t.entry.date b p

  abbrev verdict_in : Subject → Verdict
  verdict_in u = unless_refused (14 when starts_late (duration_held u) (day_value u.followup.counting.firstresponse) (pfs_held u) ∷ []) last (accepted (outcome_of u))

  inside : verdict_held s last ≡ verdict_in s
  unfolding verdict_held
  inside = rw t.held.inside

  first_held : day_value held.followup.counting.firstresponse ≡ first_response (counting_visits (course b p))
  unfolding summary counting_of
  first_held = day_of_maybe (first_response (counting_visits (course b p)))

  verdict_held_lem : verdict_in held ≡ verdict_on (on_study_days new_unit (opened_with t.entry t.marks t.sizes ∷ t.later)) last
  verdict_held_lem =
      λ i.
      unless_refused (14 when starts_late (duration_held_lem t.entry.date b p i) (first_held i) (pfs_held_lem t.entry.date b p i) ∷ []) last
      (accepted (outcome_held t.entry.date b p i))

  verdict_taken : verdict_in s ≡ verdict_on (on_study_days new_unit rs) last
  verdict_taken = ap verdict_in t.held.same ∙ verdict_held_lem ∙ ap (λ (l : List Record). verdict_on (on_study_days new_unit l) last) (sym t.opens)

  pub read_verdict : {q : Result OutcomeResult OutOfRange} → ReadsOutcome s q → EndsBy (verdict_on (on_study_days new_unit rs) last) last q
  read_verdict {q} w = rw (← verdict_taken) (go (starts_late (duration_held s) (day_value s.followup.counting.firstresponse) (pfs_held s)))
    where
      go : (late : Bool) → EndsBy (unless_refused (14 when late ∷ []) last (accepted (outcome_of s))) last q
      go true = inl refl
      go false = inr (outcome_of s, w.answer ∙ reading_in_range s t.held.inside, refl)

  pub ending : (a : Result OutcomeResult FileRefusal) → EndsFile s last a → file_values a ≡ verdict_on (on_study_days new_unit rs) last
  ending a w = w.answer ∙ inside ∙ verdict_taken
