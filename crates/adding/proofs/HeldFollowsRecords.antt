-- The held subject follows the list of the records: 8 to 11 are judged on it as against the list, one record more makes of it what the longer list gives,
-- and its line is that of the list.
-- Assumes nothing.
use mathlib.Core.Path.{◌≡◌, refl, sym, ap, ◌∙◌}
use mathlib.Core.Bool.{Bool, true, false}
use mathlib.Core.List.{List, [], ◌∷◌}
use Prim.Native.Nat.{ℕ}
use Rattle.laws.specs.Choice.{either, pick}
use Rattle.laws.proofs.Tests.{never}
use Rattle.dates.specs.declared.Date.{Date}
use Rattle.records.specs.declared.Entry.{Entry}
use Rattle.records.specs.declared.Entry.TheVariants as E
use Rattle.records.specs.declared.VisitEntry.{VisitEntry}
use Rattle.records.specs.Entries.{date_of}
use Rattle.records.specs.Forms.{new_unit}
use Rattle.response_rules.specs.Words.{Word}
use Rattle.response_rules.specs.Inputs.{visit_of}
use Rattle.response_rules.specs.Nadir.{earlier_of}
use Rattle.response_rules.specs.VisitAnswers.{overall_answer, overall_answer_after}
use Rattle.outcome_rules.specs.Values.{Day, on, is_recorded, ◌or_else◌}
use Rattle.outcome_rules.specs.StudyRecords.{Baseline, disease, study_day, entry_on_study_day}
use Rattle.outcome_rules.specs.LawfulLists.{Past, death_day, fits, lawful_behind}
use Rattle.outcome_rules.specs.Course.{Course, visits_of, Judged, overall_at, judge, course, therapy_recorded, visits_in, progression, counting_closed, counting_visits}
use Rattle.outcome_rules.specs.VisitLines.{line_of_visit, lines_of_record}
use Rattle.outcome_rules.specs.Adding.{refusals_of_study_record}
use Rattle.outcome_rules.proofs.OneRecordMore.{absent, next, latest_is_last}
use Rattle.subject.specs.declared.Subject.{Subject}
use Rattle.subject.specs.Days.{at, maybe}
use Rattle.subject.specs.OneVisitMore.{counting_after}
use Rattle.subject.specs.Summary.{event_of, counting_of, summary}
use Rattle.subject.proofs.CountingDaysFall.{Falling, counting_falls}
use Rattle.subject.proofs.HeldFollowsVisits.{day_of_maybe, event_follows, counting_follows}
use Rattle.adding.specs.OneRecordMore.{held_day, overall_held, judged_added, visit_added, on_later_day, therapy_added, death_added, entry_added}
use Rattle.adding.specs.Responses.{lines_held}
use Rattle.adding.specs.Refusals.{refusals_of_entry_held}

module _ (randomisation : Date) (b : Baseline) (p : Past) (tenths : b.unit ≡ new_unit) where
  abbrev pub held : Subject
  held = summary randomisation b p

  pub refusals_follow : (e : Entry) (marks : List Bool) (sizes : List ℕ) →
      refusals_of_entry_held held.enrolment held.followup (held_day randomisation (date_of e)) e marks ≡ refusals_of_study_record b p (entry_on_study_day new_unit randomisation e marks sizes)
  unfolding refusals_of_entry_held refusals_of_study_record summary fits
  refusals_follow (E.Baseline x) marks sizes = rw (day_of_maybe (death_day p))
  refusals_follow (E.Visit v) marks sizes = rw (day_of_maybe (death_day p))
  refusals_follow (E.Therapy d) marks sizes = rw (day_of_maybe (death_day p))
  refusals_follow (E.Death d) marks sizes = rw (day_of_maybe (death_day p))

  pub lines_follow : (e : Entry) (marks : List Bool) (sizes : List ℕ) →
      lines_held held.enrolment held.followup (held_day randomisation (date_of e)) e marks sizes ≡ lines_of_record b p (entry_on_study_day new_unit randomisation e marks sizes)
  unfolding summary overall_held overall_at overall_answer line_of_visit
  lines_follow (E.Baseline x) marks sizes = refl
  lines_follow (E.Visit v) marks sizes =
      ap (λ (unit : ℕ). line_of_visit (record { unit = unit; assessed = b.assessed; nontarget = b.nontarget; count = b.count; nodes = b.nodes; sizes = b.sizes }) p (study_day randomisation v.date) (visit_of v marks sizes) ∷ []) (sym tenths)
  lines_follow (E.Therapy d) marks sizes = refl
  lines_follow (E.Death d) marks sizes = refl

  overall_follows : (v : VisitEntry) (marks : List Bool) (sizes : List ℕ) →
      overall_held held.enrolment held.followup v marks sizes ≡ overall_at b p (visit_of v marks sizes)
  unfolding summary overall_held overall_at
  overall_follows v marks sizes = ap (λ (unit : ℕ). overall_answer_after unit (disease b) (visits_of p) (visit_of v marks sizes)) (sym tenths)

  abbrev c : Course
  c = course b p

  counted_unless_closed : (x y : Bool) (j : Judged) → x ≡ y → Falling (counting_visits c) →
      pick x (counting_of (counting_visits c)) (counting_after (counting_of (counting_visits c)) j) ≡ counting_of (pick y (counting_visits c) (j ∷ counting_visits c))
  counted_unless_closed x y j e s = rw e (go y)
    where
      go : (y : Bool) → pick y (counting_of (counting_visits c)) (counting_after (counting_of (counting_visits c)) j) ≡ counting_of (pick y (counting_visits c) (j ∷ counting_visits c))
      go true = refl
      go false = counting_follows j (counting_visits c) s

  pub adding_follows : (e : Entry) (marks : List Bool) (sizes : List ℕ) → lawful_behind b (entry_on_study_day new_unit randomisation e marks sizes ∷ p) ≡ true →
      ◌≡◌ {A = Subject}
      (record { enrolment = held.enrolment; followup = entry_added held.enrolment held.followup (held_day randomisation (date_of e)) e marks sizes })
      (summary randomisation b (entry_on_study_day new_unit randomisation e marks sizes ∷ p))
  unfolding summary visit_added therapy_added death_added overall_held overall_at event_of
  adding_follows (E.Baseline x) marks sizes l = absurd (never (sym (next b p (entry_on_study_day new_unit randomisation (E.Baseline x) marks sizes) l).place))
  adding_follows (E.Visit v) marks sizes l =
      let r = entry_on_study_day new_unit randomisation (E.Visit v) marks sizes in
      let j = judge b p (study_day randomisation v.date) (visit_of v marks sizes) in
      let closed = ap (λ (x : Day). either (therapy_recorded c) (is_recorded x)) (day_of_maybe (progression c)) in
      let latest = ap at (sym (latest_is_last b p r l)) in
      let event = event_follows j (visits_in c) in
      let counting = counted_unless_closed _ (counting_closed c) j closed (counting_falls b p (next b p r l).before) in
      ap (λ (answer : Word). record { enrolment = held.enrolment; followup = judged_added held.followup (earlier_of (disease b) (visits_of (r ∷ p))) (record { day = j.day; answer = answer }) }) (overall_follows v marks sizes)
      ∙ λ i.
      record {
        enrolment = held.enrolment;
        followup = record { earlier = earlier_of (disease b) (visits_of (r ∷ p)); latestday = latest i; therapyrecorded = therapy_recorded c; deathday = maybe (death_day p); event = event i; counting = counting i };
      }
  adding_follows (E.Therapy d) marks sizes l =
      let latest = ap at (sym (latest_is_last b p (entry_on_study_day new_unit randomisation (E.Therapy d) marks sizes) l)) in
      λ i. record { enrolment = held.enrolment; followup = on_later_day held.followup (latest i) true (maybe (death_day p)) }
  adding_follows (E.Death d) marks sizes l =
      let r = entry_on_study_day new_unit randomisation (E.Death d) marks sizes in
      let latest = ap at (sym (latest_is_last b p r l)) in
      let death = ap (λ (x : Day). maybe (x or_else on (study_day randomisation d))) (sym (absent (death_day p) (next b p r l).alive)) in
      λ i. record { enrolment = held.enrolment; followup = on_later_day held.followup (latest i) (therapy_recorded c) (death i) }
