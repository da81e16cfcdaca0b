-- Refusals and ranges of opening, adding and reading, for every record value and every subject.
-- Assumes nothing.
use mathlib.Core.Path.{◌≡◌, refl, sym, ◌∙◌, ap, subst}
use mathlib.Core.Bool.{Bool, true, false, not}
use mathlib.Core.List.{List, [], ◌∷◌, ◌++◌}
use Prim.Native.Nat.{ℕ, ◌+◌, ◌-◌}
use native.Mathlib.Omega.{arith}
use lib.Dec.{leb, eqb}
use borrow.Author.Tests.{eq-eqb, ne_eqb, eqb-true}
use Rattle.std.specs.Prelude.{Result, Option, Some, None}
use Rattle.laws.specs.Choice.{pick}
use Rattle.laws.specs.Refusals.{◌when◌, first}
use Rattle.dates.specs.declared.StudyDay.{StudyDay}
use Rattle.records.specs.declared.Entry.{Entry}
use Rattle.records.specs.declared.Entry.TheVariants as E
use Rattle.records.specs.declared.Record.{Record}
use Rattle.records.specs.Refusals.{refusals_of_record}
use Rattle.records.proofs.NoOwnRefusal.{Passes, passes, after_own, none_after_own, small_baseline}
use Rattle.records.specs.Forms.{new_form, new_unit}
use Rattle.codec.specs.Reading.{refusals_of_bytes, refusal_of_bytes, record_of_bytes}
use Rattle.codec.proofs.NoRefusalOfBytes.{after_reading, found_fine}
use Rattle.response_rules.specs.Words.{Word}
use Rattle.outcome_rules.specs.Values.{or_day1, Pfs, no_duration, for_days, event, censored, day_value}
use Rattle.outcome_rules.specs.Pfs.{two_visits_missed, early_death_limit, pfs_of}
use Rattle.outcome_rules.specs.BestResponse.{is_response}
use Rattle.outcome_rules.specs.Duration.{duration_of}
use Rattle.outcome_rules.specs.Adding.{not_baseline, refusals_of_opening, refusal_of_opening}
use Rattle.subject.specs.declared.Subject.{Subject}
use Rattle.subject.specs.Opening.{open_number, subject_of_entry, opened_subject, Opens}
use Rattle.subject.specs.Range.{in_range}
use Rattle.subject.specs.Laws.{Within, AbsentOrWithin, SubjectWithin}
use Rattle.subject.proofs.RangeLaws.{subject_within, in_range_lem}
use Rattle.subject.proofs.OpeningInRange.{blank_outside, opening_within}
use Rattle.adding.specs.Refusals.{AddAnswer}
use Rattle.adding.specs.Responses.{add_responses}
use Rattle.adding.specs.Refusals.{add_number}
use Rattle.adding.specs.Promises.{refusals_of_record_held, added_held, Answered, refusal_of_adding_held, Adds, refusal_of_adding_bytes_held, AddsBytes}
use Rattle.adding.proofs.SubjectKeptInRange.{adding_within}
use Rattle.subject.specs.declared.OpenRefusal.{OpenRefusal}
use Rattle.outcome.specs.declared.OutOfRange.{OutOfRange}
use Rattle.outcome.specs.declared.OutcomeResult.{OutcomeResult}
use Rattle.outcome.specs.ReadingOutcome.{refused, outcome, reading_values, pfs_held, best_held, outcome_of, reading_of, ReadsOutcome}
use Rattle.outcome.specs.Laws.{DurationWithin, ReadingWithin, CallsInRange}

-- ---- opening

first_within : (e : Entry) (marks : List Bool) (sizes : List ℕ) → Passes new_unit (record { entry = e; sizes = sizes; marks = marks }) false false →
    first (7 when not_baseline e ∷ []) ≡ 0 → SubjectWithin (subject_of_entry e marks sizes)
first_within (E.Baseline b) marks sizes own q =
    let small = small_baseline b marks sizes own.limits own.zeros in
    opening_within b marks sizes own.date small.0 small.1
first_within (E.Visit v) marks sizes own q = absurd (let w : ⊥ = omega arith in w)
first_within (E.Therapy d) marks sizes own q = absurd (let w : ⊥ = omega arith in w)
first_within (E.Death d) marks sizes own q = absurd (let w : ⊥ = omega arith in w)

opened_within : (r : Record) → refusal_of_opening new_unit r ≡ 0 → SubjectWithin (opened_subject r)
unfolding opened_subject refusals_of_opening
opened_within r e =
    let parts = (none_after_own new_unit r _).0 e in
    rw (eq-eqb (refusal_of_opening new_unit r) 0 e) (first_within r.entry r.marks r.sizes (passes new_unit r false false parts.0) parts.1)

pub opened_in_range : {r : Record} {a : Result (Unit {0}) OpenRefusal} {s : Subject} → Opens r a s → open_number a ≡ 0 → in_range s ≡ true
opened_in_range {r} {a} {s} w z = rw w.made (in_range_lem (opened_subject r) (opened_within r (sym w.answer ∙ z)))

-- ---- adding

added_in_range : {s t : Subject} {r : Record} {a : AddAnswer} → Adds s r a t → in_range s ≡ true → in_range t ≡ true
unfolding refusal_of_adding_held
added_in_range {s} {t} {r} w h = rw w.left (go (eqb (refusal_of_adding_held s r) 0) refl)
  where
    go : (x : Bool) → eqb (refusal_of_adding_held s r) 0 ≡ x → in_range (pick x (added_held s r) s) ≡ true
    go false e = h
    go true e =
        let none : first (refusals_of_record new_unit r ++ refusals_of_record_held s r) ≡ 0 = rw h at (eqb-true (refusal_of_adding_held s r) 0 e) in
        let within = subject_within s h in
        in_range_lem (added_held s r)
        (record {
          enrolment = within.enrolment;
          followup =
              adding_within s.enrolment s.followup r.entry r.marks r.sizes within.followup ((none_after_own new_unit r (refusals_of_record_held s r)).0 none).1;
        })

-- ---- reading

or_day_1_within : (m : Option StudyDay) → AbsentOrWithin m → Within (or_day1 (day_value m))
or_day_1_within None w = (omega arith, omega arith)
or_day_1_within (Some d) w = w

pfs_within : (g t : Option StudyDay) (v : ℕ) (e : Option StudyDay) → AbsentOrWithin g → AbsentOrWithin t → AbsentOrWithin e →
    Within (pfs_of (day_value g) (day_value t) v (day_value e)).day
pfs_within (Some d) t v e wg wt we = go (two_visits_missed d.0 v)
  where
    go : (x : Bool) → Within (pick x (censored (or_day1 (day_value e))) (event d.0)).day
    go true = or_day_1_within e we
    go false = wg
pfs_within None (Some d) v None wg wt we = go (leb (d.0 - 1) early_death_limit)
  where
    go : (x : Bool) → Within (pick x (event d.0) (censored 1)).day
    go true = wt
    go false = (omega arith, omega arith)
pfs_within None (Some d) v (Some e) wg wt we = go (two_visits_missed d.0 v)
  where
    go : (x : Bool) → Within (pick x (censored e.0) (event d.0)).day
    go true = we
    go false = wt
pfs_within None None v e wg wt we = or_day_1_within e we

duration_within : (best : Word) (f : Option StudyDay) (p : Pfs) → AbsentOrWithin f → Within p.day → DurationWithin (duration_of best (day_value f) p)
duration_within best None p wf wp = tt
duration_within best (Some d) p wf wp = go (is_response best)
  where
    go : (x : Bool) → DurationWithin (pick x (for_days p.status (p.day - d.0 + 1)) no_duration)
    go true = (omega arith, omega (arith, wf, wp))
    go false = tt

pub reading_in_range : (s : Subject) → in_range s ≡ true → reading_of s ≡ outcome (outcome_of s)
unfolding reading_of
reading_in_range s h = rw h

reading_within : (s : Subject) → SubjectWithin s → ReadingWithin (outcome (outcome_of s))
unfolding outcome_of
reading_within s w =
    let f = s.followup in
    let v = w.followup in
    let p = pfs_within f.event.progression f.deathday f.event.lastvisit.0 f.event.lastevaluable v.event.progression v.deathday v.event.lastevaluable in
    (p, duration_within (best_held s) f.counting.firstresponse (pfs_held s) v.counting.firstresponse p)

-- what stands beside a refusal, by its number
module _ {s t : Subject} {r : Record} {n : ℕ} {a : AddAnswer} (w : Answered s r n a t) (z : add_number a ≡ 0 → ⊥) where
  met : eqb n 0 ≡ false
  met = ne_eqb n 0 (λ e. z (w.answer ∙ e))

  kept : t ≡ s
  kept = w.left ∙ rw met

  no_responses : add_responses a ≡ []
  no_responses = w.responses ∙ rw met

not_added : {s t : Subject} {r : Record} {a : AddAnswer} → Adds s r a t → (add_number a ≡ 0 → ⊥) → t ≡ s
not_added w z = kept w z

from_bytes : {s t : Subject} {bytes : List ℕ} {a : AddAnswer} → AddsBytes s bytes a t → refusal_of_bytes new_form bytes ≡ 0 → Adds s (record_of_bytes new_form bytes) a t
unfolding refusal_of_adding_held refusal_of_adding_bytes_held
from_bytes {s} {t} {bytes} {a} w e =
    let r = record_of_bytes new_form bytes in
    let behind = refusals_of_record_held s r in
    let read : first (refusals_of_bytes new_form bytes ++ behind) ≡ first behind = after_reading new_form bytes behind ∙ rw e in
    let own : first (refusals_of_record new_unit r ++ behind) ≡ first behind = after_own new_unit r behind ∙ rw (found_fine new_form bytes e) in
    let same : refusal_of_adding_bytes_held s bytes ≡ refusal_of_adding_held s r = ap (pick (not (in_range s)) 12) (read ∙ sym own) in
    subst (λ (n : ℕ). Answered s (record_of_bytes new_form bytes) n a t) same w.added

not_from_bytes : {s t : Subject} {bytes : List ℕ} {a : AddAnswer} → AddsBytes s bytes a t → in_range s ≡ true → (refusal_of_bytes new_form bytes ≡ 0 → ⊥) →
    (add_number a ≡ refusal_of_bytes new_form bytes) × (add_responses a ≡ []) × (t ≡ s)
unfolding refusal_of_adding_bytes_held
not_from_bytes {s} {t} {bytes} {a} w h z =
    let outcome_read : refusal_of_adding_bytes_held s bytes ≡ refusal_of_bytes new_form bytes =
    rw h (after_reading new_form bytes (refusals_of_record_held s (record_of_bytes new_form bytes)) ∙ rw (ne_eqb (refusal_of_bytes new_form bytes) 0 z)) in
    let number = w.added.answer ∙ outcome_read in
    let refused : add_number a ≡ 0 → ⊥ = λ e. z (sym number ∙ e) in
    (number, no_responses w.added refused, kept w.added refused)

added_bytes_outside : {s t : Subject} {bytes : List ℕ} {a : AddAnswer} → AddsBytes s bytes a t → in_range s ≡ false →
    (add_number a ≡ 12) × (add_responses a ≡ []) × (t ≡ s)
unfolding refusal_of_adding_bytes_held
added_bytes_outside {s} {t} {bytes} {a} w h =
    let outcome_read : refusal_of_adding_bytes_held s bytes ≡ 12 = rw h in
    let twelve = w.added.answer ∙ outcome_read in
    let refused : add_number a ≡ 0 → ⊥ = λ z. let f : ⊥ = omega (arith, twelve, z) in f in
    (twelve, no_responses w.added refused, kept w.added refused)

added_outside : {s t : Subject} {r : Record} {a : AddAnswer} → Adds s r a t → in_range s ≡ false → add_number a ≡ 12
unfolding refusal_of_adding_held
added_outside w h = w.answer ∙ rw h

read_outside : {s : Subject} {o : Result OutcomeResult OutOfRange} → ReadsOutcome s o → in_range s ≡ false → reading_values o ≡ refused 12
unfolding reading_of
read_outside w h = w.answer ∙ rw h

pub calls_in_range : CallsInRange
unfolding opened_subject
calls_in_range =
    record {
      opened = opened_in_range;
      not_opened = λ {r} w n. w.made ∙ rw (ne_eqb (refusal_of_opening new_unit r) 0 (λ e. n (w.answer ∙ e)));
      added = added_in_range;
      not_added = not_added;
      not_answered = λ w z. no_responses w z;
      from_bytes = from_bytes;
      not_from_bytes = not_from_bytes;
      outcome_read = λ {s} w h. subst ReadingWithin (sym (w.answer ∙ reading_in_range s h)) (reading_within s (subject_within s h));
      added_outside = added_outside;
      outcome_read_outside = read_outside;
      added_bytes_outside = added_bytes_outside;
      added_to_blank = λ w. let twelve = added_outside w blank_outside in (twelve, not_added w (λ z. let f : ⊥ = omega (arith, twelve, z) in f));
      outcome_read_of_blank = λ w. read_outside w blank_outside;
    }
