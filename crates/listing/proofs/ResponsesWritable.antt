-- The responses that an addition to the records taken so far answers are short enough to be written.
-- Assumes nothing.
use mathlib.Core.Path.{◌≡◌, sym, ◌∙◌, subst}
use mathlib.Core.List.{List, append-nil}
use Prim.Native.Nat.{ℕ, ◌≤◌, ◌<◌}
use native.Mathlib.Omega.{arith}
use borrow.Author.Tests.{eqb-true}
use lib.ListN.{length}
use Rattle.std.specs.Prelude.{Ok, Err, Some, None}
use Rattle.dates.specs.declared.Date.{Date}
use Rattle.laws.specs.Refusals.{first}
use Rattle.records.specs.declared.Entry.{Entry}
use Rattle.records.specs.declared.Entry.TheVariants as E
use Rattle.records.specs.declared.Record.{Record}
use Rattle.records.specs.Entries.{Five}
use Rattle.records.specs.Refusals.{refusal_of_record}
use Rattle.records.proofs.NoOwnRefusal.{none_after_own}
use Rattle.records.specs.Forms.{new_unit}
use Rattle.outcome_rules.specs.StudyRecords.{Baseline, StudyRecord, day_of, entry_on_study_day}
use Rattle.outcome_rules.specs.LawfulLists.{Past}
use Rattle.outcome_rules.specs.VisitLines.{lines_of_record}
use Rattle.outcome_rules.specs.Adding.{refusals_of_study_record, refusals_of_adding}
use Rattle.outcome_rules.proofs.RefusalsOfAdding.{one_more, own_passed}
use Rattle.subject.specs.declared.Subject.{Subject}
use Rattle.adding.specs.Refusals.{AddAnswer}
use Rattle.adding.specs.Responses.{response_values, add_responses}
use Rattle.adding.specs.Refusals.{add_number}
use Rattle.adding.specs.Promises.{Adds}
use Rattle.adding.proofs.SubjectKeptInRange.{study_day_most}
use Rattle.outcome.proofs.Demand3.{base, on_day_lem, past, responses}
use Rattle.file.proofs.FileFollowsRecords.{Taken, accepts}
use Rattle.listing_text.specs.Text.{visit_text, lines_text}
use Rattle.listing_text.proofs.VisitLengths.{AllShort, next_short}
use Rattle.listing.specs.Writing.{AllWritable}

-- every study day of a record has five digits
day_small : (randomisation : Date) (e : Entry) (marks : List _) (sizes : List ℕ) → day_of (entry_on_study_day new_unit randomisation e marks sizes) < 100000
day_small randomisation (E.Baseline b) marks sizes = omega arith
day_small randomisation (E.Visit v) marks sizes = let h = study_day_most randomisation v.date in omega arith
day_small randomisation (E.Therapy d) marks sizes = let h = study_day_most randomisation d in omega arith
day_small randomisation (E.Death d) marks sizes = let h = study_day_most randomisation d in omega arith

-- a record has one line or none
pub short_responses : (a : AddAnswer) → AllShort (add_responses a) → AllWritable (add_responses a) × (length (lines_text (add_responses a)) ≤ 24)
short_responses (Ok None) h = (tt, omega arith)
short_responses (Ok (Some v)) h = ((record { day = h.0.day; change = h.0.change }, tt), subst (λ (t : List ℕ). length t ≤ 24) (sym (append-nil (visit_text (response_values v)))) h.0.whole)
short_responses (Err refusal) h = (tt, omega arith)

-- the responses that an addition answers are short
module _ {rs : List Record} {s t : Subject} {a : AddAnswer} (h : Taken rs s) (r : Record) (five : Five r) (w : Adds s r a t) (z : add_number a ≡ 0) where
  abbrev b : Baseline
  b = base h.entry h.marks h.sizes

  abbrev p : Past
  p = past h.entry h.marks h.sizes h.later

  abbrev next : StudyRecord
  next = on_day_lem h.entry h.marks h.sizes r

  both_none : (refusal_of_record new_unit r ≡ 0) × (first (refusals_of_study_record b p next) ≡ 0)
  unfolding refusals_of_adding
  both_none = (none_after_own new_unit r (refusals_of_study_record b p next)).0 (eqb-true _ 0 (accepts h r w z))

  shown : add_responses a ≡ lines_of_record b p next
  shown = responses h.entry h.marks h.sizes h.later r h.held w ∙ rw (accepts h r w z)

  pub shown_short : AllShort (add_responses a)
  shown_short =
      subst AllShort (sym shown)
      (next_short b p next h.passes (own_passed h.entry.date r five both_none.0)
      ((one_more b p next h.held.lawfully).0 both_none.1) (day_small h.entry.date r.entry r.marks r.sizes))
