-- Adding and reading follow the list of the records: on what is held after a list, adding gives what the longer list holds, or refuses as the list
-- does, and the outcome read is the paper's outcome of the list.
-- Assumes nothing.
use mathlib.Core.Path.{◌≡◌, sym, ◌∙◌, ap}
use mathlib.Core.Bool.{true, false}
use mathlib.Core.List.{List, [], ◌∷◌, ◌++◌}
use Prim.Native.Nat.{ℕ}
use lib.Dec.{eqb}
use borrow.Author.Tests.{eqb-true}
use Rattle.laws.specs.Choice.{pick}
use Rattle.laws.specs.Refusals.{Refusal, first}
use Rattle.dates.specs.declared.Date.{Date}
use Rattle.records.specs.declared.Record.{Record}
use Rattle.records.specs.Refusals.{refusals_of_record}
use Rattle.records.proofs.NoOwnRefusal.{none_after_own}
use Rattle.records.specs.Forms.{new_unit}
use Rattle.outcome_rules.specs.Values.{is_recorded, day_value}
use Rattle.outcome_rules.specs.StudyRecords.{Baseline, StudyRecord, on_study_day}
use Rattle.outcome_rules.specs.LawfulLists.{Past, death_day, lawful_behind}
use Rattle.outcome_rules.specs.Course.{Course, course, death_day_in, therapy_recorded, visits_in, first_pd, progression, counting_visits}
use Rattle.outcome_rules.specs.Pfs.{before_event, last_visit, last_evaluable, pfs_of, pfs}
use Rattle.outcome_rules.specs.BestResponse.{confirmed_cr, confirmed_response, stable_disease, best}
use Rattle.outcome_rules.specs.Duration.{first_response, duration_of, duration}
use Rattle.outcome_rules.specs.VisitLines.{lines_of_record}
use Rattle.outcome_rules.specs.Settled.{pfs_settled_by, best_settled_by, duration_settled_by, pfs_settled, best_settled, duration_settled, outcome}
use Rattle.outcome_rules.specs.Adding.{refusals_of_study_record}
use Rattle.outcome_rules.proofs.OneRecordMore.{latest_in, death_in}
use Rattle.outcome_rules.proofs.RefusalsOfAdding.{one_more}
use Rattle.subject.specs.declared.Subject.{Subject}
use Rattle.subject.specs.Range.{in_range}
use Rattle.subject.specs.Days.{maybe}
use Rattle.subject.specs.Summary.{event_of, counting_of, summary}
use Rattle.subject.proofs.HeldFollowsVisits.{day_of_maybe, best_of_held}
use Rattle.adding.specs.Promises.{responses_by, subject_by, refusal_of_adding_held}
use Rattle.adding.proofs.HeldFollowsRecords.{refusals_follow, lines_follow, adding_follows}
use Rattle.outcome.specs.ReadingOutcome.{pfs_held, best_held, duration_held, pfs_settled_held, best_settled_held, outcome_of}

module _ (randomisation : Date) (b : Baseline) (p : Past) where
  abbrev pub held : Subject
  held = summary randomisation b p

  module _ (tenths : b.unit ≡ new_unit) (inside : in_range held ≡ true) (r : Record) where
    abbrev on_day_lem : StudyRecord
    on_day_lem = on_study_day new_unit randomisation r

    -- 3 to 5, then 8 to 11 judged against the list
    abbrev pub refusal : ℕ
    refusal = first (refusals_of_record new_unit r ++ refusals_of_study_record b p on_day_lem)

    pub refusal_held : refusal_of_adding_held held r ≡ refusal
    unfolding refusal_of_adding_held summary
    refusal_held = rw inside (ap (λ (rs : List Refusal). first (refusals_of_record new_unit r ++ rs)) (refusals_follow randomisation b p tenths r.entry r.marks r.sizes))

    -- the responses that an addition answers are those of the list
    pub responses_held_lem : responses_by held r (refusal_of_adding_held held r) ≡ pick (eqb refusal 0) (lines_of_record b p on_day_lem) []
    unfolding summary
    responses_held_lem = λ i. pick (eqb (refusal_held i) 0) (lines_follow randomisation b p tenths r.entry r.marks r.sizes i) []

    pub longer_lawful : lawful_behind b p ≡ true → eqb refusal 0 ≡ true → lawful_behind b (on_day_lem ∷ p) ≡ true
    longer_lawful l e = (one_more b p on_day_lem l).0 ((none_after_own new_unit r (refusals_of_study_record b p on_day_lem)).0 (eqb-true refusal 0 e)).1

    pub added_held_lem : lawful_behind b p ≡ true → eqb refusal 0 ≡ true → subject_by held r (refusal_of_adding_held held r) ≡ summary randomisation b (on_day_lem ∷ p)
    unfolding summary
    added_held_lem l e = rw (refusal_held, e) (adding_follows randomisation b p tenths r.entry r.marks r.sizes (longer_lawful l e))

    pub refused_held : eqb refusal 0 ≡ false → subject_by held r (refusal_of_adding_held held r) ≡ held
    unfolding summary
    refused_held e = rw (refusal_held, e)

  -- ---- the parts of the outcome and the marks

  abbrev c : Course
  c = course b p

  progression_held : day_value (maybe (progression c)) ≡ progression c
  progression_held = day_of_maybe (progression c)

  death_held : day_value (maybe (death_day p)) ≡ death_day_in c
  death_held = day_of_maybe (death_day p) ∙ sym (death_in b p)

  pub pfs_held_lem : pfs_held held ≡ pfs c
  unfolding summary event_of pfs
  pfs_held_lem =
      let evaluable = day_of_maybe (last_evaluable (before_event (visits_in c))) in
      λ i. pfs_of (progression_held i) (death_held i) (last_visit (before_event (visits_in c))) (evaluable i)

  best_held_lem : best_held held ≡ best c
  unfolding summary counting_of best
  best_held_lem = best_of_held (confirmed_cr (counting_visits c)) (confirmed_response (counting_visits c)) (stable_disease (counting_visits c)) (is_recorded (first_pd (counting_visits c)))

  pub duration_held_lem : duration_held held ≡ duration c
  unfolding summary counting_of duration
  duration_held_lem = let response = day_of_maybe (first_response (counting_visits c)) in λ i. duration_of (best_held_lem i) (response i) (pfs_held_lem i)

  pfs_mark_held : pfs_settled_held held ≡ pfs_settled b.assessed c
  unfolding summary event_of pfs_settled
  pfs_mark_held =
      let latest = sym (latest_in b p) in
      λ i. pfs_settled_by b.assessed (is_recorded (progression_held i)) (is_recorded (death_held i)) (latest i)

  best_mark_held : best_settled_held held ≡ best_settled b.assessed c
  unfolding summary event_of best_settled
  best_mark_held = λ i. best_settled_by (is_recorded (progression_held i)) (therapy_recorded c) (is_recorded (death_held i)) b.assessed (best_held_lem i)

  pub outcome_held : outcome_of held ≡ outcome b p
  unfolding outcome_of duration_settled
  outcome_held =
      λ i.
      record {
        pfs = pfs_held_lem i;
        best = best_held_lem i;
        duration = duration_held_lem i;
        pfs_settled = pfs_mark_held i;
        best_settled = best_mark_held i;
        duration_settled = duration_settled_by (duration_held_lem i) (pfs_mark_held i) (best_mark_held i);
      }
